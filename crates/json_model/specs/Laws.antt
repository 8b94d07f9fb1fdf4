-- Laws of trees and what they spell.
use Rattle.std.specs.Prelude.{◌≡◌, ℕ, ◌≤◌, List, [], Some, ◌↔◌}
use Rattle.serde_json.specs.Data.{Data as Json}
use Rattle.serde_json.specs.Read.{read}
use Rattle.document_keys.specs.Names.{Root}
use Rattle.value_model.specs.Data.{Data, Entries, entries_depth}
use Rattle.value_model.specs.Storable.{AreStorable}
use Rattle.json_model.specs.declared.place.Place.{Place}
use Rattle.json_model.specs.declared.place.Place.TheVariants as place
use Rattle.json_model.specs.declared.place.Object.TheVariants as object
use Rattle.json_model.specs.declared.fault.JsonFault.{JsonFault}
use Rattle.json_model.specs.Ascending.{Ascends}
use Rattle.json_model.specs.Faults.{FaultsAt, FieldsFaults, NameFaults, max_nesting}
use Rattle.json_model.specs.Fits.{Fits}
use Rattle.json_model.specs.Grammar.{SpellsValue, SpellsFields, SpellsName}
use Rattle.json_model.specs.Origin.{Origin}
use Rattle.json_model.specs.Printed.{printed_fields}

-- a tree is of the form exactly where it has no fault
abbrev pub FitsWithoutFaults : Type 0
FitsWithoutFaults = (o : Origin) (limit : ℕ) (p : Place) (name : List ℕ) (d : Json) → Fits o limit p d ↔ FaultsAt o limit p name d []

-- a tree without faults spells a value
abbrev pub NoFaultSpells : Type 0
NoFaultSpells = (o : Origin) (limit : ℕ) (name : List ℕ) (d : Json) → FaultsAt o limit (place.Object object.Value) name d [] → (v : Data) × SpellsValue d v

-- the printed tree of fields that can be stored, in whose values at most 20 arrays and maps nest, has no fault and spells them
abbrev pub PrintedFieldsReadBack : Type 0
PrintedFieldsReadBack = (o : Origin) (fields : Entries) → AreStorable fields → entries_depth fields ≤ max_nesting → FieldsFaults o (printed_fields fields) [] × SpellsFields (printed_fields fields) fields

-- in a tree that is read from a text the names of each object ascend strictly
abbrev pub ReadAscends : Type 0
ReadAscends = (text : List ℕ) (d : Json) → read text ≡ Some d → Ascends d

-- a tree has at most one list of faults: at each place, and as a name under a root
pub record FaultsAreOne : Type 0 where
  pub tree : (o : Origin) (limit : ℕ) (p : Place) (name : List ℕ) (d : Json) (a b : List JsonFault) → FaultsAt o limit p name d a → FaultsAt o limit p name d b → a ≡ b
  pub name : (root : Root) (d : Json) (a b : List JsonFault) → NameFaults root d a → NameFaults root d b → a ≡ b

-- a tree spells one value at most, and one list of fields, and names one key under a root
pub record ATreeSpellsOnce : Type 0 where
  pub value : (d : Json) (v w : Data) → SpellsValue d v → SpellsValue d w → v ≡ w
  pub fields : (d : Json) (a b : Entries) → SpellsFields d a → SpellsFields d b → a ≡ b
  pub name : (root : Root) (d : Json) (a b : List (List ℕ)) → SpellsName root d a → SpellsName root d b → a ≡ b
