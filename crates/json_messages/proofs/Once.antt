-- A tree spells one message at most.
use Rattle.std.proofs.Common.{arith, ◌≡◌, ℕ, ℤ, pos, List, true, false, codes, Option, Some, None, refl, sym, ap, subst, ◌∙◌}
use Rattle.std.specs.Bool.{if◌then◌else◌}
use Rattle.std.specs.Str.{bytes_eq}
use Rattle.std.proofs.lemmas.Slice.Eq.{bytes_eq-Decides}
use Rattle.serde_json.specs.Data.{Data as Json, string, Members}
use Rattle.document_keys.specs.Names.{Root}
use Rattle.value_model.specs.declared.timestamp.Timestamp.{Timestamp}
use Rattle.value_model.specs.declared.message.ChangeKind.{ChangeKind}
use Rattle.value_model.specs.declared.message.ChangeKind.TheVariants.{NoChange, Add, Remove as Removed, Current, Reset}
use Rattle.value_model.specs.declared.message.DocumentChange.{DocumentChange}
use Rattle.value_model.specs.declared.message.ListenResponse.{ListenResponse}
use Rattle.value_model.specs.declared.message.ListenResponse.TheVariants.{Target, Change, Delete, Remove, Filter}
use Rattle.json_model.specs.declared.place.Object.TheVariants as object
use Rattle.json_model.specs.Bytes.{SpellsBytes}
use Rattle.json_model.specs.Forms.{InObject, SpellsEach}
use Rattle.json_model.specs.Grammar.{SpellsTime, SpellsName}
use Rattle.json_model.specs.Members.{given}
use Rattle.json_model.specs.Numbers.{SpellsShort, SpellsUpTo}
use Rattle.json_model.proofs.Forms.{IsOnce, given_once, object_once, choice_once, spells_each_once}
use Rattle.json_model.proofs.Once.{bytes_once, whole_once, time_once, list_once, spells_fields_once}
use Rattle.json_model.proofs.OneName.{spells_name_one}
use Rattle.json_rpc.specs.Grammar.{SpellsFieldsIn}
use Rattle.json_messages.specs.ChangeTypes.{change_text}
use Rattle.json_messages.specs.Grammar.{SpellsNumber, SpellsTargetId, SpellsTextIn, SpellsToken, SpellsTimeIn, SpellsChangeType, SpellsStatusIn, SpellsStatus, SpellsCause, SpellsTargetChange, SpellsDocumentIn, SpellsDocumentChange, SpellsDocumentGone, SpellsExistenceFilter, SpellsListenUnder, SpellsListenResponse, SpellsWriteResultIn, SpellsWriteResult, SpellsWriteResponseIn, SpellsWriteResponse}

-- ---- members that may be left out

same_text : (d : Json) (a b : List ℕ) → d ≡ string a → d ≡ string b → a ≡ b
same_text d a b one two = let e = sym one ∙ two in cc

short_once : (d : Json) → IsOnce (SpellsShort d)
short_once d a b first second = whole_once d a b first.whole second.whole

up_to_once : (most : ℕ) (d : Json) → IsOnce (SpellsUpTo most d)
up_to_once most d a b first second = let e : pos a ≡ pos b = whole_once d (pos a) (pos b) first.whole second.whole in cc

number_once : (most : ℕ) (found : Option Json) → IsOnce (SpellsNumber most found)
number_once most None a b first second = first ∙ sym second
number_once most (Some d) a b first second = up_to_once most d a b first second

target_id_once : (found : Option Json) → IsOnce (SpellsTargetId found)
target_id_once None a b first second = first ∙ sym second
target_id_once (Some d) a b first second = short_once d a b first second

text_once : (found : Option Json) → IsOnce (SpellsTextIn found)
text_once None a b first second = first ∙ sym second
text_once (Some d) a b first second = same_text d a b first second

pub token_once : (found : Option Json) → IsOnce (SpellsToken found)
token_once None a b first second = first ∙ sym second
token_once (Some d) a b (text, (is, one)) (other, (at, two)) = bytes_once text a b one (subst (λ (t : List ℕ). SpellsBytes t b) (same_text d other text at is) two)

pub time_in_once : (found : Option Json) → IsOnce (SpellsTimeIn found)
time_in_once None a b first second = first ∙ sym second
time_in_once (Some d) None b first second = absurd first
time_in_once (Some d) (Some a) None first second = absurd second
time_in_once (Some d) (Some a) (Some b) first second = ap Some (time_once d a b first second)

ids_once : (found : Option Json) → IsOnce (SpellsEach SpellsShort found)
ids_once found a b first second = spells_each_once found SpellsShort short_once a b first second

fields_in_once : (found : Option Json) → IsOnce (SpellsFieldsIn found)
fields_in_once None a b first second = first ∙ sym second
fields_in_once (Some d) a b first second = spells_fields_once d a b first second

-- a kind by its text
abbrev kind_of : List ℕ → ChangeKind
kind_of text =
    if bytes_eq text (codes "ADD") then Add
    else if bytes_eq text (codes "REMOVE") then Removed
    else if bytes_eq text (codes "CURRENT") then Current
    else if bytes_eq text (codes "RESET") then Reset
    else NoChange

kind_back : (change : ChangeKind) → kind_of (change_text change) ≡ change
kind_back NoChange = refl
kind_back Add = refl
kind_back Removed = refl
kind_back Current = refl
kind_back Reset = refl

change_type_once : (found : Option Json) → IsOnce (SpellsChangeType found)
change_type_once None a b first second = first ∙ sym second
change_type_once (Some d) a b first second = sym (kind_back a) ∙ ap kind_of (same_text d (change_text a) (change_text b) first second) ∙ kind_back b

-- the kinds of members that may be left out in several messages
ruleset parts_once = (number_once, text_once, token_once, time_in_once, ids_once, list_once)

-- ---- statuses

status_in_once : (ms : Members) → IsOnce (SpellsStatusIn ms)
status_in_once ms a b first second = grind (arith, parts_once)

pub status_once : (d : Json) → IsOnce (SpellsStatus d)
status_once d a b first second = object_once d (λ ms status. SpellsStatusIn ms status) status_in_once a b first second

cause_once : (found : Option Json) → IsOnce (SpellsCause found)
cause_once None a b first second = first ∙ sym second
cause_once (Some d) None b first second = absurd first
cause_once (Some d) (Some a) None first second = absurd second
cause_once (Some d) (Some a) (Some b) first second = ap Some (status_once d a b first second)

-- ---- messages of a watch stream

target_change_once : (ms : Members) → IsOnce (SpellsTargetChange ms)
target_change_once ms a b first second =
    let kinds = change_type_once (given (codes "targetChangeType") ms) a.kind b.kind first.becomes second.becomes in
    let causes = cause_once (given (codes "cause") ms) a.cause b.cause first.cause second.cause in
    grind (arith, parts_once)

-- what documents are equal in
record SameDocument (a b : DocumentChange) : Type 0 where
  keys : a.key ≡ b.key
  fields : a.fields ≡ b.fields
  times : a.update_time ≡ b.update_time

document_in_same : (root : Root) (ms : Members) (a b : DocumentChange) → SpellsDocumentIn root ms a → SpellsDocumentIn root ms b → SameDocument a b
document_in_same root ms a b first second = record {
  keys = given_once (given (codes "name") ms) (SpellsName root) (spells_name_one root) a.key b.key first.names second.names;
  fields = fields_in_once (given (codes "fields") ms) a.fields b.fields first.holds second.holds;
  times = given_once (given (codes "updateTime") ms) SpellsTime time_once a.update_time b.update_time first.updated second.updated;
}

some_one : {X : Type 0} (found : Option X) (a b : X) → found ≡ Some a → found ≡ Some b → a ≡ b
some_one found a b first second = let e = sym first ∙ second in cc

document_same : (root : Root) (d : Json) (a b : DocumentChange) → InObject d (λ ms. SpellsDocumentIn root ms a) → InObject d (λ ms. SpellsDocumentIn root ms b) → SameDocument a b
document_same root d a b first second =
    document_in_same root second.members a b (subst (λ (ms : Members). SpellsDocumentIn root ms a) (some_one _ first.members second.members first.is second.is) first.spells) second.spells

document_change_once : (root : Root) (ms : Members) → IsOnce (SpellsDocumentChange root ms)
document_change_once root ms a b first second =
    let trees = some_one (given (codes "document") ms) first.document.tree second.document.tree first.document.is second.document.is in
    let same = document_same root second.document.tree a b (subst (λ (d : Json). InObject d (λ inside. SpellsDocumentIn root inside a)) trees first.document.spells) second.document.spells in
    let keys = same.keys in
    let fields = same.fields in
    let times = same.times in
    grind (arith, parts_once)

-- what a document that is gone is told by
abbrev Gone : Type 0
Gone = List (List ℕ) × (List ℤ × Option Timestamp)

gone_in_once : (root : Root) (ms : Members) → IsOnce (λ (x : Gone). SpellsDocumentGone root ms x.0 x.1.0 x.1.1)
gone_in_once root ms a b first second =
    let keys = given_once (given (codes "document") ms) (SpellsName root) (spells_name_one root) a.0 b.0 first.names second.names in
    grind (arith, parts_once)

gone_once : (root : Root) (d : Json) → IsOnce (λ (x : Gone). InObject d (λ ms. SpellsDocumentGone root ms x.0 x.1.0 x.1.1))
gone_once root d a b first second = object_once d (λ ms (x : Gone). SpellsDocumentGone root ms x.0 x.1.0 x.1.1) (gone_in_once root) a b first second

filter_once : (ms : Members) → IsOnce (SpellsExistenceFilter ms)
filter_once ms a b first second =
    let ids = target_id_once (given (codes "targetId") ms) a.target_id b.target_id first.target second.target in
    grind (arith, parts_once)

-- the name of a kind
abbrev kind_name : ListenResponse → List ℕ
kind_name (Target change) = codes "targetChange"
kind_name (Change change) = codes "documentChange"
kind_name (Delete gone) = codes "documentDelete"
kind_name (Remove gone) = codes "documentRemove"
kind_name (Filter filter) = codes "filter"

named : (root : Root) (name : List ℕ) (d : Json) (response : ListenResponse) → SpellsListenUnder root name d response → name ≡ kind_name response
named root name d (Target change) spelled = spelled.0
named root name d (Change change) spelled = spelled.0
named root name d (Delete gone) spelled = spelled.0
named root name d (Remove gone) spelled = spelled.0
named root name d (Filter filter) spelled = spelled.0

apart : (a b : List ℕ) → bytes_eq a b ≡ false → a ≡ b → ⊥
apart a b unlike is = let yes_is : bytes_eq a b ≡ true = (bytes_eq-Decides a b).1 is in cc

under_once : (root : Root) (name : List ℕ) (d : Json) → IsOnce (SpellsListenUnder root name d)
under_once root name d (Target a) (Target b) first second = ap Target (object_once d (λ ms change. SpellsTargetChange ms change) target_change_once a b first.1 second.1)
under_once root name d (Change a) (Change b) first second = ap Change (object_once d (λ ms change. SpellsDocumentChange root ms change) (document_change_once root) a b first.1 second.1)
under_once root name d (Delete a) (Delete b) first second =
    let same = gone_once root d (a.key, (a.removed_target_ids, a.read_time)) (b.key, (b.removed_target_ids, b.read_time)) first.1 second.1 in
    λ i. Delete (record { key = (same i).0; removed_target_ids = (same i).1.0; read_time = (same i).1.1 })
under_once root name d (Remove a) (Remove b) first second =
    let same = gone_once root d (a.key, (a.removed_target_ids, a.read_time)) (b.key, (b.removed_target_ids, b.read_time)) first.1 second.1 in
    λ i. Remove (record { key = (same i).0; removed_target_ids = (same i).1.0; read_time = (same i).1.1 })
under_once root name d (Filter a) (Filter b) first second = ap Filter (object_once d (λ ms filter. SpellsExistenceFilter ms filter) filter_once a b first.1 second.1)
under_once root name d a b first second = absurd (apart (kind_name a) (kind_name b) refl (sym (named root name d a first) ∙ named root name d b second))

pub response_once : (root : Root) (d : Json) → IsOnce (SpellsListenResponse root d)
response_once root d a b first second = choice_once object.ListenResponse d (λ ms name inner response. SpellsListenUnder root name inner response) (λ ms name inner. under_once root name inner) a b first second

-- ---- messages of a write stream

result_in_once : (ms : Members) → IsOnce (SpellsWriteResultIn ms)
result_in_once ms a b first second = grind (arith, parts_once)

result_once : (d : Json) → IsOnce (SpellsWriteResult d)
result_once d a b first second = object_once d (λ ms answer. SpellsWriteResultIn ms answer) result_in_once a b first second

results_once : (found : Option Json) → IsOnce (SpellsEach SpellsWriteResult found)
results_once found a b first second = spells_each_once found SpellsWriteResult result_once a b first second

answer_in_once : (ms : Members) → IsOnce (SpellsWriteResponseIn ms)
answer_in_once ms a b first second = grind (arith, parts_once, results_once)

pub answer_once : (d : Json) → IsOnce (SpellsWriteResponse d)
answer_once d a b first second = object_once d (λ ms response. SpellsWriteResponseIn ms response) answer_in_once a b first second
