-- A leaf has one list of faults, and what a reader answers of a leaf without faults is no fault of it.
use Rattle.std.proofs.Common.{rules, ◌≡◌, ◌≢◌, ◌∙◌, inl, inr, ℕ, ◌<◌, List, [], ◌∷◌, length, Some, None, codes, Bool, true, false, nat_lt, IsTrue, refl, sym, ap, subst, arith}
use Rattle.std.specs.List.{Contains, slice_index_or}
use Rattle.std.proofs.lemmas.List.Elements.{All-contains, All-weaker}
use borrow.Author.Tests.{ltb-true, ltb-false}
use Rattle.document_keys.specs.Names.{Root, HasNameLength, documents_text}
use Rattle.document_keys.specs.Paths.{IsFieldName, IsFieldPath, HasReserved, SpellsPath}
use Rattle.document_keys.proofs.Spelled.{spells_one}
use Rattle.serde_json.specs.Data.{Data as Json, string}
use Rattle.json_model.specs.declared.place.Leaf.{Leaf}
use Rattle.json_model.specs.declared.place.Leaf.TheVariants as leaf
use Rattle.json_model.specs.declared.fault.JsonFault.{JsonFault}
use Rattle.json_model.specs.declared.fault.JsonFault.TheVariants as json_fault
use Rattle.json_model.specs.declared.fault.NamingFault.{NamingFault}
use Rattle.json_model.specs.declared.fault.NamingFault.TheVariants.{BadPath, ReservedField}
use Rattle.json_model.specs.Faults.{IsFault}
use Rattle.json_model.specs.Leaves.{Unless, bad_name, IsNameFault, NamingFaults, ReferenceFaults, DocumentFaults, FieldNameFaults, PathFaults, NamesFaults, too_many, few, HasManyNames, HasFieldPathFault, IsFieldPathText, HasQueryPathFault, QueryPathFaults, IsQueryPathText, ParentFaults, IsParentText, IsReferenceText, IsDocumentText, InText, in_text, in_other, LeafFaults, max_names}
use Rattle.json_model.specs.Ranks.{first_of_least}
use Rattle.json_model.specs.References.{HasReferenceFault, HasDocumentFault, HasFieldFault}
use Rattle.json_model.proofs.Fine.{not_many}
use Rattle.json_model.proofs.Naming.{only}
use Rattle.json_model.proofs.Referred.{document_none, document_fault_one, reference_no, reference_fault_one}

-- one list at most
abbrev pub IsOne : (List JsonFault → Type 0) → Type 0
IsOne Faults = (a b : List JsonFault) → Faults a → Faults b → a ≡ b

unless_one : (Fact : Type 0) (fault : JsonFault) → IsOne (Unless Fact fault)
unless_one Fact fault a b (inl x) (inl y) = x.1 ∙ sym y.1
unless_one Fact fault a b (inl x) (inr y) = absurd (y.0 x.0)
unless_one Fact fault a b (inr x) (inl y) = absurd (x.0 y.0)
unless_one Fact fault a b (inr x) (inr y) = x.1 ∙ sym y.1

-- ---- names

field_fault_one : (name : List ℕ) (f g : NamingFault) → HasFieldFault name f → HasFieldFault name g → f ≡ g
field_fault_one name BadPath ReservedField x y = absurd (x y.0)
field_fault_one name ReservedField BadPath x y = absurd (y x.0)
field_fault_one name _ _ x y = search rules

naming_one : (Fact : Type 0) (Has : NamingFault → Type 0) (text : List ℕ) → ((f : NamingFault) → Fact → Has f → ⊥) → ((f g : NamingFault) → Has f → Has g → f ≡ g) → IsOne (NamingFaults Fact Has text)
naming_one Fact Has text none one a b (inl x) (inl y) = x.1 ∙ sym y.1
naming_one Fact Has text none one a b (inl x) (inr (g, y, also)) = absurd (none g x.0 y)
naming_one Fact Has text none one a b (inr (f, x, is)) (inl y) = absurd (none f y.0 x)
naming_one Fact Has text none one a b (inr (f, x, is)) (inr (g, y, also)) = is ∙ ap (λ (h : NamingFault). bad_name h text ∷ []) (one f g x y) ∙ sym also

field_none : (name : List ℕ) (f : NamingFault) → IsFieldName name → HasFieldFault name f → ⊥
field_none name BadPath is has = has is.long
field_none name ReservedField is has = is.free has.1
field_none name _ is has = has

pub field_name_one : (name : List ℕ) → IsOne (FieldNameFaults name)
field_name_one name a b x y = naming_one _ _ name (field_none name) (field_fault_one name) a b x y

reference_one : (text : List ℕ) → IsOne (ReferenceFaults text)
reference_one text a b x y = naming_one _ _ text (λ f is. reference_no text is.0 f is.1) (reference_fault_one text) a b x y

document_text_one : (root : Root) (text : List ℕ) → IsOne (DocumentFaults root text)
document_text_one root text a b x y =
    naming_one _ _ text (λ f is has. document_none root is.0 f is.1.0 (subst (λ (t : List ℕ). HasDocumentFault root t f) is.1.1 has)) (document_fault_one root text) a b x y

-- ---- paths

path_fault_one : (text : List ℕ) (f g : NamingFault) → HasFieldPathFault text f → HasFieldPathFault text g → f ≡ g
path_fault_one text BadPath ReservedField x y = absurd (x y.0 y.1 y.2)
path_fault_one text ReservedField BadPath x y = absurd (y x.0 x.1 x.2)
path_fault_one text _ _ x y = search rules

path_none : (text : List ℕ) (f : NamingFault) → IsFieldPathText text → HasFieldPathFault text f → ⊥
path_none text BadPath (names, is) has = has names is.spelled (All-weaker IsFieldName HasNameLength (λ n one. one.long) names is.fields)
path_none text ReservedField (names, is) (others, spelled, long, (name, there, reserved)) =
    let same = spells_one text others names spelled is.spelled in
    (All-contains IsFieldName names name is.fields (subst (λ (l : List (List ℕ)). Contains l name) same there)).free reserved
path_none text _ is has = has

query_fault_one : (text : List ℕ) (f g : NamingFault) → HasQueryPathFault text f → HasQueryPathFault text g → f ≡ g
query_fault_one text BadPath ReservedField x y = absurd (x y.0 y.1 y.2)
query_fault_one text ReservedField BadPath x y = absurd (y x.0 x.1 x.2)
query_fault_one text _ _ x y = search rules

query_none : (text : List ℕ) (f : NamingFault) → IsQueryPathText text → HasQueryPathFault text f → ⊥
query_none text BadPath (names, is) has = has names is.spelled is.path.long
query_none text ReservedField (names, is) (others, spelled, long, reserved) = is.path.free (subst HasReserved (spells_one text others names spelled is.spelled) reserved)
query_none text _ is has = has

names_one : (Fact : Type 0) (Has : NamingFault → Type 0) (text : List ℕ) → ((f : NamingFault) → Fact → Has f → ⊥) → ((f g : NamingFault) → Has f → Has g → f ≡ g) → IsOne (NamesFaults Fact Has text)
names_one Fact Has text none one _ _ (too_many many) (too_many more) = refl
names_one Fact Has text none one _ b (too_many many) (few never y) = absurd (never many)
names_one Fact Has text none one a _ (few never x) (too_many many) = absurd (never many)
names_one Fact Has text none one a b (few never x) (few nor y) = naming_one Fact Has text none one a b x y

path_one : (text : List ℕ) → IsOne (PathFaults text)
path_one text a b x y = names_one _ _ text (path_none text) (path_fault_one text) a b x y

query_one : (text : List ℕ) → IsOne (QueryPathFaults text)
query_one text a b x y = names_one _ _ text (query_none text) (query_fault_one text) a b x y

parent_one : (root : Root) (text : List ℕ) → IsOne (ParentFaults root text)
parent_one root text a b (inl x) (inl y) = x.1 ∙ sym y.1
parent_one root text a b (inl x) (inr y) = absurd (y.0 x.0)
parent_one root text a b (inr x) (inl y) = absurd (x.0 y.0)
parent_one root text a b (inr x) (inr y) = document_text_one root text a b x.1 y.1

-- how a reader of paths counts, and what it answers
pub many_names : (text : List ℕ) (count : ℕ) → ((names : List (List ℕ)) × (SpellsPath text names × (length names ≡ count))) → (IsTrue (nat_lt max_names count) → HasManyNames text) × (HasManyNames text → IsTrue (nat_lt max_names count))
many_names text count (names, (spelled, long)) = by (nat_lt max_names count) refl
  where
    by : (b : Bool) → nat_lt max_names count ≡ b → (IsTrue b → HasManyNames text) × (HasManyNames text → IsTrue b)
    by true is = (λ t. let more = ltb-true max_names count is in (names, spelled, omega arith), λ many. refl)
    by false is = (
      λ t. cc,
      λ many.
          let less = ltb-false max_names count is in
          let same = ap length (spells_one text names many.0 spelled many.1) in
          let more = many.2 in
          absurd (omega arith),
    )

-- the path that stands for the document's own name has a reserved name
pub document_name : (text : List ℕ) (path : List (List ℕ)) → path ≡ codes "__name__" ∷ [] → IsFieldPath path × SpellsPath text path → HasFieldPathFault text ReservedField
document_name text path is read = (path, read.1, read.0.long, (codes "__name__", (0, subst (λ (l : List (List ℕ)). 0 < length l) (sym is) (omega arith), ap (λ l. slice_index_or l 0 (codes "__name__")) is), (codes "name", refl)))

pub names_fault : (Fact : Type 0) (Has : NamingFault → Type 0) (text : List ℕ) (fault : JsonFault) → ¬ (HasManyNames text) → IsNameFault Has text fault → IsFault (NamesFaults Fact Has text) fault
names_fault Fact Has text fault never (inl memory) = inl memory
names_fault Fact Has text fault never (inr (why, has, is)) = inr (only (NamesFaults Fact Has text) fault (few never (inr (why, has, ap (λ f. f ∷ []) is))))

-- ---- kinds

in_text_one : (d : Json) (name : List ℕ) (Faults : List ℕ → List JsonFault → Type 0) → ((text : List ℕ) → IsOne (Faults text)) → IsOne (InText d name Faults)
in_text_one d name Faults one a b (in_text text _ is faults) (in_text other _ also others) =
    let same : text ≡ other = let e : string text ≡ string other = sym is ∙ also in cc in
    one other a b (subst (λ (t : List ℕ). Faults t a) same faults) others
in_text_one d name Faults one a b (in_text text _ is faults) (in_other none) = absurd (none (text, is))
in_text_one d name Faults one a b (in_other none) (in_text other _ also others) = absurd (none (other, also))
in_text_one d name Faults one a b (in_other none) (in_other never) = refl

pub leaf_one : (root : Root) (kind : Leaf) (name : List ℕ) (d : Json) → IsOne (LeafFaults root kind name d)
leaf_one root leaf.Time name d a b x y = in_text_one d name _ (λ text. unless_one _ _) a b x y
leaf_one root leaf.Bytes name d a b x y = in_text_one d name _ (λ text. unless_one _ _) a b x y
leaf_one root leaf.Reference name d a b x y = in_text_one d name ReferenceFaults reference_one a b x y
leaf_one root leaf.Name name d a b x y = in_text_one d name (DocumentFaults root) (document_text_one root) a b x y
leaf_one root leaf.Path name d a b x y = in_text_one d name PathFaults path_one a b x y
leaf_one root leaf.Id name d a b x y = in_text_one d name _ (λ text. unless_one _ _) a b x y
leaf_one root leaf.Parent name d a b x y = in_text_one d name (ParentFaults root) (parent_one root) a b x y
leaf_one root leaf.QueryPath name d a b x y = in_text_one d name QueryPathFaults query_one a b x y
leaf_one root leaf.Descendants name d a b x y = x ∙ sym y
leaf_one root (leaf.Constant which) name d a b x y = in_text_one d name _ (λ text. λ f g. λ z w. z ∙ sym w) a b x y
leaf_one root kind name d a b x y = unless_one _ _ a b x y

-- ---- what is no fault

-- where there is no fault, what a reader answers is want of memory
pub no_fault : (Faults : List JsonFault → Type 0) (fault : JsonFault) → IsOne Faults → Faults [] → IsFault Faults fault → fault ≡ json_fault.NoMemory
no_fault Faults fault one none (inl memory) = memory
no_fault Faults fault one none (inr first) = let e : Some fault ≡ None = first.first ∙ ap first_of_least (one first.faults [] first.are none) in cc

naming_none : (Fact : Type 0) (Has : NamingFault → Type 0) (text : List ℕ) (fault : JsonFault) → ((f : NamingFault) → Fact → Has f → ⊥) → Fact → IsNameFault Has text fault → fault ≡ json_fault.NoMemory
naming_none Fact Has text fault none fact (inl memory) = memory
naming_none Fact Has text fault none fact (inr (why, has, is)) = absurd (none why fact has)

pub no_reference_fault : (text : List ℕ) (fault : JsonFault) → IsReferenceText text → IsNameFault (HasReferenceFault text) text fault → fault ≡ json_fault.NoMemory
no_reference_fault text fault is has = naming_none _ _ text fault (λ f named. reference_no text named.0 f named.1) is has

pub no_document_fault : (root : Root) (text : List ℕ) (fault : JsonFault) → IsDocumentText root text → IsNameFault (HasDocumentFault root text) text fault → fault ≡ json_fault.NoMemory
no_document_fault root text fault is has =
    naming_none _ _ text fault (λ f named bad. document_none root named.0 f named.1.0 (subst (λ (t : List ℕ). HasDocumentFault root t f) named.1.1 bad)) is has

pub no_path_fault : (text : List ℕ) (fault : JsonFault) → IsFieldPathText text → IsFault (PathFaults text) fault → fault ≡ json_fault.NoMemory
no_path_fault text fault is has = no_fault (PathFaults text) fault (path_one text) (few (not_many text is.0 is.1.spelled is.1.few) (inl (is, refl))) has

pub no_query_fault : (text : List ℕ) (fault : JsonFault) → IsQueryPathText text → IsFault (QueryPathFaults text) fault → fault ≡ json_fault.NoMemory
no_query_fault text fault is has = no_fault (QueryPathFaults text) fault (query_one text) (few (not_many text is.0 is.1.spelled is.1.few) (inl (is, refl))) has

pub no_parent_fault : (root : Root) (text : List ℕ) (fault : JsonFault) → IsParentText root text → (text ≢ documents_text root) → IsNameFault (HasDocumentFault root text) text fault → fault ≡ json_fault.NoMemory
no_parent_fault root text fault (inl is) other has = absurd (other is)
no_parent_fault root text fault (inr is) other has = no_document_fault root text fault is has
