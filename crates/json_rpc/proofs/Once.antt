-- A tree spells one write at most.
use Rattle.std.proofs.Common.{arith, ◌≡◌, ℕ, List, Option, Some, None, codes, refl, sym, ap, subst, ◌∙◌}
use Rattle.serde_json.specs.Data.{Data as Json, string, Members}
use Rattle.document_keys.specs.Names.{Root}
use Rattle.document_keys.proofs.Spelled.{spells_one}
use Rattle.value_model.specs.Data.{Entries}
use Rattle.json_model.specs.declared.place.Object.TheVariants as object
use Rattle.json_model.specs.Forms.{SpellsEach}
use Rattle.json_model.specs.Grammar.{SpellsName, SpellsPathTree, SpellsList}
use Rattle.json_model.specs.Leaves.{SpellsFieldPath}
use Rattle.json_model.specs.Members.{given}
use Rattle.json_model.specs.Numbers.{SpellsWhole}
use Rattle.json_model.proofs.Forms.{IsOnce, given_once, object_once, choice_once, spells_each_once}
use Rattle.json_model.proofs.Once.{whole_once, time_once, list_once, spells_fields_once}
use Rattle.json_model.proofs.OneName.{spells_name_one}
use Rattle.mutations.specs.declared.transform.Change.{Change}
use Rattle.mutations.specs.declared.transform.Change.TheVariants.{ServerTime, Increment, Maximum, Minimum, Append, RemoveAll}
use Rattle.mutations.specs.declared.write.Precondition.TheVariants.{Free, Exists, UpdateTime}
use Rattle.mutations.specs.declared.write.Write.TheVariants.{Update, Delete}
use Rattle.json_rpc.proofs.Names.{apart}
use Rattle.json_rpc.specs.Grammar.{SpellsConditionUnder, SpellsCondition, SpellsOperand, SpellsElements, SpellsChange, SpellsTransformIn, SpellsTransform, SpellsMask, SpellsMaskIn, SpellsFieldsIn, SpellsDocumentIn, SpellsDocument, SpellsWriteUnder, SpellsWrite}

condition_under_once : (name : List ℕ) (d : Json) → IsOnce (SpellsConditionUnder name d)
condition_under_once name d Free b first second = absurd first
condition_under_once name d a Free first second = absurd second
condition_under_once name d (Exists a) (Exists b) first second = let e = sym first.1 ∙ second.1 in let same : a ≡ b = cc in ap Exists same
condition_under_once name d (Exists a) (UpdateTime t) first second = absurd (apart (codes "exists") (codes "updateTime") refl (sym first.0 ∙ second.0))
condition_under_once name d (UpdateTime t) (Exists b) first second = absurd (apart (codes "updateTime") (codes "exists") refl (sym first.0 ∙ second.0))
condition_under_once name d (UpdateTime t) (UpdateTime u) first second = ap UpdateTime (time_once d t u first.1 second.1)

condition_once : (found : Option Json) → IsOnce (SpellsCondition found)
condition_once None a b first second = first ∙ sym second
condition_once (Some d) a b first second = choice_once object.Condition d (λ ms name inner condition. SpellsConditionUnder name inner condition) (λ ms name inner. condition_under_once name inner) a b first second

operand_once : (d : Json) → IsOnce (SpellsOperand d)
operand_once d a b first second = choice_once object.Operand d (λ ms name inner number. (name ≡ codes "integerValue") × SpellsWhole inner number) (λ ms name inner y z one other. whole_once inner y z one.1 other.1) a b first second

elements_once : (d : Json) → IsOnce (SpellsElements d)
elements_once d a b first second = object_once d (λ ms values. SpellsList (given (codes "values") ms) values) (λ ms. list_once (given (codes "values") ms)) a b first second

-- the name of a change
abbrev change_name : Change → List ℕ
change_name ServerTime = codes "setToServerValue"
change_name (Increment by) = codes "increment"
change_name (Maximum other) = codes "maximum"
change_name (Minimum other) = codes "minimum"
change_name (Append values) = codes "appendMissingElements"
change_name (RemoveAll values) = codes "removeAllFromArray"

named : (name : List ℕ) (d : Json) (change : Change) → SpellsChange name d change → name ≡ change_name change
named name d ServerTime spelled = spelled
named name d _ spelled = spelled.0

change_once : (name : List ℕ) (d : Json) → IsOnce (SpellsChange name d)
change_once name d ServerTime ServerTime first second = refl
change_once name d (Increment a) (Increment b) first second = ap Increment (operand_once d a b first.1 second.1)
change_once name d (Maximum a) (Maximum b) first second = ap Maximum (operand_once d a b first.1 second.1)
change_once name d (Minimum a) (Minimum b) first second = ap Minimum (operand_once d a b first.1 second.1)
change_once name d (Append a) (Append b) first second = ap Append (elements_once d a b first.1 second.1)
change_once name d (RemoveAll a) (RemoveAll b) first second = ap RemoveAll (elements_once d a b first.1 second.1)
change_once name d a b first second = absurd (apart (change_name a) (change_name b) refl (sym (named name d a first) ∙ named name d b second))

text_once : (d : Json) (a b : List ℕ) → d ≡ string a → d ≡ string b → a ≡ b
text_once d a b first second = let e = sym first ∙ second in cc

path_once : (d : Json) → IsOnce (SpellsPathTree d)
path_once d a b first second = spells_one second.0 a b (subst (λ (t : List ℕ). SpellsFieldPath t a) (text_once d first.0 second.0 first.1.0 second.1.0) first.1.1).spelled second.1.1.spelled

transform_in_once : (ms : Members) (name : List ℕ) (inner : Json) → IsOnce (SpellsTransformIn ms name inner)
transform_in_once ms name inner a b first second =
    let paths = given_once (given (codes "fieldPath") ms) SpellsPathTree path_once a.path b.path first.path second.path in
    let changes = change_once name inner a.change b.change first.change second.change in
    λ i. record { path = paths i; change = changes i }

transform_once : (d : Json) → IsOnce (SpellsTransform d)
transform_once d a b first second = choice_once object.Transform d SpellsTransformIn transform_in_once a b first second

mask_once : (d : Json) → IsOnce (SpellsMask d)
mask_once d a b first second = object_once d (λ ms mask. SpellsEach SpellsPathTree (given (codes "fieldPaths") ms) mask) (λ ms. spells_each_once (given (codes "fieldPaths") ms) SpellsPathTree path_once) a b first second

mask_in_once : (found : Option Json) → IsOnce (SpellsMaskIn found)
mask_in_once None a b first second = first ∙ sym second
mask_in_once (Some d) None b first second = absurd first
mask_in_once (Some d) (Some a) None first second = absurd second
mask_in_once (Some d) (Some a) (Some b) first second = ap Some (mask_once d a b first second)

fields_in_once : (found : Option Json) → IsOnce (SpellsFieldsIn found)
fields_in_once None a b first second = first ∙ sym second
fields_in_once (Some d) a b first second = spells_fields_once d a b first second

abbrev Document : Type 0
Document = List (List ℕ) × Entries

document_in_once : (root : Root) (ms : Members) → IsOnce (λ (x : Document). SpellsDocumentIn root ms x.0 x.1)
document_in_once root ms a b first second =
    let keys = given_once (given (codes "name") ms) (SpellsName root) (spells_name_one root) a.0 b.0 first.names second.names in
    let fields = fields_in_once (given (codes "fields") ms) a.1 b.1 first.holds second.holds in
    λ i. (keys i, fields i)

document_once : (root : Root) (d : Json) → IsOnce (λ (x : Document). SpellsDocument root d x.0 x.1)
document_once root d a b first second = object_once d (λ ms (x : Document). SpellsDocumentIn root ms x.0 x.1) (document_in_once root) a b first second

changes_once : (found : Option Json) → IsOnce (SpellsEach SpellsTransform found)
changes_once found a b first second = spells_each_once found SpellsTransform transform_once a b first second

write_under_once : (root : Root) (ms : Members) (name : List ℕ) (d : Json) → IsOnce (SpellsWriteUnder root ms name d)
write_under_once root ms name d (Update key fields mask transforms condition) (Update key_2 fields_2 mask_2 transforms_2 condition_2) first second =
    let documents = document_once root d (key, fields) (key_2, fields_2) first.1.document second.1.document in
    let keys = ap (λ (x : Document). x.0) documents in
    let holds = ap (λ (x : Document). x.1) documents in
    grind (arith, mask_in_once, mask_once, changes_once, condition_once)
write_under_once root ms name d (Update key fields mask transforms condition) (Delete key_2 condition_2) first second = absurd (apart (codes "update") (codes "delete") refl (sym first.0 ∙ second.0))
write_under_once root ms name d (Delete key condition) (Update key_2 fields_2 mask_2 transforms_2 condition_2) first second = absurd (apart (codes "delete") (codes "update") refl (sym first.0 ∙ second.0))
write_under_once root ms name d (Delete key condition) (Delete key_2 condition_2) first second =
    let keys = spells_name_one root d key key_2 first.1.names second.1.names in
    grind (arith, condition_once)

pub write_once : (root : Root) (d : Json) → IsOnce (SpellsWrite root d)
write_once root d a b first second = choice_once object.Write d (SpellsWriteUnder root) (write_under_once root) a b first second
