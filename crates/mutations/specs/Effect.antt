-- What a write makes of a document, before the backend has answered.
use Rattle.std.specs.Prelude.{◌≡◌, ◌≢◌, ℕ, true, false, List, [], ◌∷◌, codes, Option, Some, None}
use Rattle.std.specs.List.{All}
use Rattle.value_model.specs.Data.{Entries}
use Rattle.value_model.specs.declared.document.Document.{Document}
use Rattle.value_model.specs.declared.timestamp.Timestamp.{Timestamp}
use Rattle.mutations.specs.declared.transform.Transform.{Transform}
use Rattle.mutations.specs.declared.write.Precondition.{Precondition}
use Rattle.mutations.specs.declared.write.Precondition.TheVariants.{Free, Exists, UpdateTime}
use Rattle.mutations.specs.declared.write.Write.{Write}
use Rattle.mutations.specs.declared.write.Write.TheVariants.{Update, Delete}
use Rattle.mutations.specs.Changes.{Transformed}
use Rattle.mutations.specs.Masks.{Masked}

-- the precondition holds of the document, or of there being none
abbrev pub Holds : Precondition → Option Document → Type 0
Holds Free document = Unit {0}
Holds (Exists true) None = ⊥
Holds (Exists true) (Some document) = Unit {0}
Holds (Exists false) None = Unit {0}
Holds (Exists false) (Some document) = ⊥
Holds (UpdateTime time) None = ⊥
Holds (UpdateTime time) (Some document) = document.update_time ≡ Some time

-- the fields of a document; where there is none, no fields
abbrev pub fields_of : Option Document → Entries
fields_of None = []
fields_of (Some document) = document.fields

-- the update time of a document, where there is one and it has one
abbrev pub update_time_of : Option Document → Option Timestamp
update_time_of None = None
update_time_of (Some document) = document.update_time

-- the fields that an update sets, from those of the document and of the input: all of the input's, or those of its mask
abbrev pub SetsFields : Entries → Entries → Option (List (List (List ℕ))) → Entries → Type 0
SetsFields old input None new = new ≡ input
SetsFields old input (Some mask) new = Masked old input mask new

-- the document after an update: its fields are set and then transformed, and its update time stays
pub record Updates (old : Option Document) (input : Entries) (mask : Option (List (List (List ℕ)))) (transforms : List Transform) (at : Timestamp) (new : Option Document) : Type 0 where
  pub set : Entries
  pub sets : SetsFields (fields_of old) input mask set
  pub fields : Entries
  pub transformed : Transformed at set transforms fields
  pub document : new ≡ Some (record { fields = fields; update_time = update_time_of old })

-- the document after a write whose precondition holds
abbrev pub Writes : Option Document → Write → Timestamp → Option Document → Type 0
Writes old (Update key fields mask transforms condition) at new = Updates old fields mask transforms at new
Writes old (Delete key condition) at new = new ≡ None

abbrev pub condition_of : Write → Precondition
condition_of (Update key fields mask transforms condition) = condition
condition_of (Delete key condition) = condition

-- the document after a write: where its precondition doesn't hold it stays
pub record HasEffect (old : Option Document) (write : Write) (at : Timestamp) (new : Option Document) : Type 0 where
  pub made : Holds (condition_of write) old → Writes old write at new
  pub left : ¬ (Holds (condition_of write) old) → new ≡ old

-- a path that isn't `__name__`
abbrev pub IsOfFields : List (List ℕ) → Type 0
IsOfFields path = path ≢ codes "__name__" ∷ []

abbrev pub HasMaskOfFields : Option (List (List (List ℕ))) → Type 0
HasMaskOfFields None = Unit {0}
HasMaskOfFields (Some mask) = All IsOfFields mask

abbrev pub HavePathsOfFields : List Transform → Type 0
HavePathsOfFields transforms = All (λ transform. IsOfFields transform.path) transforms

-- no path of the write is `__name__`
abbrev pub IsOfFieldsOnly : Write → Type 0
IsOfFieldsOnly (Update key fields mask transforms condition) = HasMaskOfFields mask × HavePathsOfFields transforms
IsOfFieldsOnly (Delete key condition) = Unit {0}
