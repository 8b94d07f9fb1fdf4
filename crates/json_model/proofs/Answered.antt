-- What the readers answer.
use Rattle.std.proofs.Common.{◌≡◌, ◌≢◌, ℕ, ◌≤◌, List, [], ◌∷◌, codes, refl, sym, ap, subst, inl, inr}
use Rattle.document_keys.specs.Names.{Root}
use Rattle.serde_json.specs.Data.{Data as Json}
use Rattle.serde_json.specs.Data.Data.{string}
use Rattle.value_model.specs.Data.{Entries, entries_depth}
use Rattle.value_model.specs.Storable.{AreStorable}
use Rattle.value_model.proofs.ReadBack.{time_read}
use Rattle.json_model.specs.declared.place.Place.TheVariants as place
use Rattle.json_model.specs.declared.place.Object.TheVariants as object
use Rattle.json_model.specs.declared.fault.JsonFault.{JsonFault}
use Rattle.json_model.specs.declared.fault.JsonFault.TheVariants as json_fault
use Rattle.json_model.specs.Faults.{FieldsFaults, NameFaults, IsFault, max_nesting}
use Rattle.json_model.specs.Grammar.{SpellsFields, SpellsName}
use Rattle.json_model.specs.Leaves.{IsNameFault, IsText, in_text, in_other}
use Rattle.json_model.specs.Origin.{Origin}
use Rattle.json_model.specs.Printed.{printed_fields}
use Rattle.json_model.specs.References.{HasDocumentFault}
use Rattle.json_model.proofs.Naming.{only}
use Rattle.json_model.proofs.Once.{spells_fields_once}
use Rattle.json_model.proofs.OneLeaf.{no_fault}
use Rattle.json_model.proofs.OneList.{faults_one, name_faults_one}
use Rattle.json_model.proofs.ReadBack.{fields_back, fields_spelled}

-- a tree that names a document has no fault as a name
pub name_clean : (root : Root) (d : Json) (key : List (List ℕ)) → SpellsName root d key → NameFaults root d []
name_clean root d key spelled = in_text _ [] spelled.is (inl ((key, (spelled.names, refl)), refl))

-- why a text names no document is the fault of the tree that it is
pub name_fault : (root : Root) (d : Json) (text : List ℕ) (fault : JsonFault) → d ≡ string text → IsNameFault (HasDocumentFault root text) text fault → IsFault (NameFaults root d) fault
name_fault root d text fault is (inl memory) = inl memory
name_fault root d text fault is (inr (why, has, named)) = inr (only (NameFaults root d) fault (in_text text (fault ∷ []) is (inr (why, has, ap (λ f. f ∷ []) named))))

-- a tree that is no text has the wrong shape as a name
pub no_text_fault : (root : Root) (d : Json) → ¬ (IsText d) → IsFault (NameFaults root d) (json_fault.BadShape (codes "name"))
no_text_fault root d other = inr (only (NameFaults root d) (json_fault.BadShape (codes "name")) (in_other other))

pub names_none : (root : Root) (d : Json) (fault : JsonFault) → IsFault (NameFaults root d) fault → fault ≢ json_fault.NoMemory → (key : List (List ℕ)) → ¬ (SpellsName root d key)
names_none root d fault is other key spelled = other (no_fault (NameFaults root d) fault (name_faults_one root d) (name_clean root d key spelled) is)

-- of the printed tree of fields nothing is answered but them, or want of memory
pub printed_fault : (o : Origin) (d : Json) (fault : JsonFault) → IsFault (FieldsFaults o d) fault → (fields : Entries) → AreStorable fields → entries_depth fields ≤ max_nesting → d ≡ printed_fields fields → fault ≡ json_fault.NoMemory
printed_fault o d fault is fields stored deep printed =
    no_fault (FieldsFaults o d) fault (faults_one o max_nesting (place.Object object.Fields) (codes "fields") d) (subst (λ e. FieldsFaults o e []) (sym printed) (fields_back time_read o fields stored deep).0) is

pub printed_spelled : (d : Json) (found : Entries) → SpellsFields d found → (fields : Entries) → AreStorable fields → d ≡ printed_fields fields → found ≡ fields
printed_spelled d found spelled fields stored printed = spells_fields_once d found fields spelled (subst (λ e. SpellsFields e fields) (sym printed) (fields_spelled time_read fields stored))
