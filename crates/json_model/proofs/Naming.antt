-- The faults of names.
use Rattle.std.proofs.Common.{◌≡◌, ℕ, List, [], ◌∷◌, Some, None, refl, ap, inl, inr}
use Rattle.document_keys.specs.Names.{Root, IsRoot}
use Rattle.json_model.specs.declared.fault.JsonFault.{JsonFault}
use Rattle.json_model.specs.declared.fault.NamingFault.{NamingFault}
use Rattle.json_model.specs.declared.fault.NamingFault.TheVariants.{WrongRoot, BadSegment, OddLength, BadPath, ReservedField}
use Rattle.json_model.specs.References.{IsUnder, HasDocumentFault, HasReferenceFault, HasFieldFault}
use Rattle.json_model.specs.Faults.{FirstOf}
use Rattle.json_model.specs.Leaves.{IsNameFault, FieldNameFaults, bad_name}

-- one fault is the first
pub only : (Faults : List JsonFault → Type 0) (fault : JsonFault) → Faults (fault ∷ []) → FirstOf Faults (Some fault)
only Faults fault are = record { faults = fault ∷ []; are = are; first = refl }

pub none : (Faults : List JsonFault → Type 0) → Faults [] → FirstOf Faults None
none Faults are = record { faults = []; are = are; first = refl }

pub field_fault : (name : List ℕ) (why : NamingFault) (fault : JsonFault) → HasFieldFault name why → fault ≡ bad_name why name → FirstOf (FieldNameFaults name) (Some fault)
field_fault name why fault has is = only (FieldNameFaults name) fault (inr (why, has, ap (λ f. f ∷ []) is))

-- a reference whose database was found, and which has a fault under it
pub under_fault : (text : List ℕ) (root : Root) (f : JsonFault) → IsRoot root → IsUnder root text → IsNameFault (HasDocumentFault root text) text f → IsNameFault (HasReferenceFault text) text f
under_fault text root f is under (inl memory) = inl memory
under_fault text root f is under (inr (WrongRoot, has, is_named)) = absurd (has under.0 under.1)
under_fault text root f is under (inr (BadSegment, has, is_named)) = inr (BadSegment, (root, is, has), is_named)
under_fault text root f is under (inr (OddLength, has, is_named)) = inr (OddLength, (root, is, has), is_named)
under_fault text root f is under (inr (BadPath, has, is_named)) = absurd has
under_fault text root f is under (inr (ReservedField, has, is_named)) = absurd has
