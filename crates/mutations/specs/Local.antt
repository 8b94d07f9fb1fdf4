-- What a write makes of a document before the backend has answered, as functions of what was there. `HasEffect` says the same
-- in the words of the reference, `Masked` of each path; `apply_local` gives both.
use Rattle.std.specs.Prelude.{◌+ℤ◌, Bool, true, false, not, ◌&&◌, if◌then◌else◌, List, [], ◌∷◌, ◌++◌, fold, nat_eq, Option, Some, None, option_map, unwrap_or, ℕ}
use Rattle.std.specs.Int.{w64, saturate_signed, int_max, int_min}
use Rattle.std.specs.List.{filter, list_any}
use Rattle.std.specs.Ordering.{int_eq}
use Rattle.value_model.specs.Changes.{with_value_at, without_value_at}
use Rattle.value_model.specs.Data.{Data, integer, pending, Entries, array_of}
use Rattle.value_model.specs.Paths.{value_at}
use Rattle.value_model.specs.Same.{same_value}
use Rattle.value_model.specs.declared.document.Document.{Document}
use Rattle.value_model.specs.declared.timestamp.Timestamp.{Timestamp}
use Rattle.mutations.specs.declared.transform.Change.{Change}
use Rattle.mutations.specs.declared.transform.Change.TheVariants.{ServerTime, Increment, Maximum, Minimum, Append, RemoveAll}
use Rattle.mutations.specs.declared.transform.Transform.{Transform}
use Rattle.mutations.specs.declared.write.Precondition.{Precondition}
use Rattle.mutations.specs.declared.write.Precondition.TheVariants.{Free, Exists, UpdateTime}
use Rattle.mutations.specs.declared.write.Write.{Write}
use Rattle.mutations.specs.declared.write.Write.TheVariants.{Update, Delete}
use Rattle.mutations.specs.Changes.{number_at, items_at}
use Rattle.mutations.specs.Effect.{SetsFields, condition_of, fields_of, update_time_of}
use Rattle.mutations.specs.Masks.{Masked}

-- the value is one of the items
abbrev pub is_among : List Data → Data → Bool
is_among items value = list_any (same_value value) items

-- the items with the values added one by one, each unless it is there by then
abbrev pub appended : List Data → List Data → List Data
appended items [] = items
appended items (value ∷ others) = appended (if is_among items value then items else items ++ value ∷ []) others

-- the items that aren't among the values
abbrev pub others : List Data → List Data → List Data
others removed items = filter (λ item. not (is_among removed item)) items

-- what a transform sets, by what stood at its path
abbrev pub changed : Option Data → Change → Timestamp → Data
changed found ServerTime at = pending at
changed found (Increment by) at = integer (unwrap_or (option_map (λ number. saturate_signed w64 (number +ℤ by)) (number_at found)) by)
changed found (Maximum other) at = integer (unwrap_or (option_map (λ number. int_max number other) (number_at found)) other)
changed found (Minimum other) at = integer (unwrap_or (option_map (λ number. int_min number other) (number_at found)) other)
changed found (Append values) at = array_of (appended (items_at found) values)
changed found (RemoveAll values) at = array_of (others values (items_at found))

-- the fields after one transform, and after all, in their order
abbrev pub transformed_by : Timestamp → Entries → Transform → Entries
transformed_by at fields transform = with_value_at fields transform.path (changed (value_at fields transform.path) transform.change at)

abbrev pub transformed : Timestamp → Entries → List Transform → Entries
transformed at fields transforms = fold (transformed_by at) fields transforms

-- the fields with the input's value at a path, or with none where the input has none
abbrev pub taken_over : Entries → Entries → List (List ℕ) → Entries
taken_over input fields path = unwrap_or (option_map (λ value. with_value_at fields path value) (value_at input path)) (without_value_at fields path)

-- the fields after a masked update: `Masked` says that the order of the paths doesn't matter
abbrev pub masked : Entries → Entries → List (List (List ℕ)) → Entries
masked old input mask = fold (taken_over input) old mask

-- the fields that an update sets
abbrev pub set : Entries → Entries → Option (List (List (List ℕ))) → Entries
set old input None = input
set old input (Some mask) = masked old input mask

-- the fields after an update: set, and then transformed
abbrev pub updated : Timestamp → Entries → Entries → Option (List (List (List ℕ))) → List Transform → Entries
updated at old input mask transforms = transformed at (set old input mask) transforms

-- the relations hold of what `masked` and `set` give
abbrev pub MasksRight : Entries → Entries → List (List (List ℕ)) → Type 0
MasksRight old input mask = Masked old input mask (masked old input mask)

abbrev pub SetsRight : Entries → Entries → Option (List (List (List ℕ))) → Type 0
SetsRight old input mask = SetsFields old input mask (set old input mask)

-- the document was last changed at the time
abbrev pub is_of_time : Option Timestamp → Timestamp → Bool
is_of_time None time = false
is_of_time (Some other) time = int_eq other.seconds time.seconds && nat_eq other.nanos time.nanos

-- the precondition holds of the document, or of there being none
abbrev pub holds : Precondition → Option Document → Bool
holds Free document = true
holds (Exists there) None = not there
holds (Exists there) (Some document) = there
holds (UpdateTime time) None = false
holds (UpdateTime time) (Some document) = is_of_time document.update_time time

-- the document that a write makes
abbrev pub written : Option Document → Write → Timestamp → Option Document
written old (Update key fields mask transforms condition) at = Some (record { fields = updated at (fields_of old) fields mask transforms; update_time = update_time_of old })
written old (Delete key condition) at = None

-- the document after a write: where its precondition doesn't hold it stays
unfoldable pub effect : Option Document → Write → Timestamp → Option Document
effect old write at = if holds (condition_of write) old then written old write at else old
