-- The fields of a document or of a map: values by name.
use Rattle.std.specs.Prelude.{◌≡◌, ℕ, ◌<◌, ◌≤◌, List, length, Option}
use Rattle.std.specs.Cmp.Lexicographic.{slice_cmp}
use Rattle.std.specs.Ordering.{nat_cmp}
use Rattle.std.specs.List.{All, AllPairs, AllWithin, HoldsAt}
use Rattle.std.specs.Map.{keys_of, lookup, remove_entry}
use Rattle.std.specs.BTreeMap.{insert_entry, is_at}
use Rattle.document_keys.specs.Order.{TextBefore}
use Rattle.document_keys.specs.Paths.{IsFieldName}
use Rattle.value_model.specs.Data.{Data, Entries}

-- each name is a field's name, and is before all that follow it by their bytes
pub record AreFields (fields : Entries) : Type 0 where
  pub names : All IsFieldName (keys_of fields)
  pub ascending : AllPairs TextBefore (keys_of fields)

-- the value at a name, if there is one
abbrev pub field : Entries → List ℕ → Option Data
field fields name = lookup (is_at (slice_cmp nat_cmp name)) fields

-- the fields with the value at the name, in place of the one that stood there
abbrev pub with_field : Entries → List ℕ → Data → Entries
with_field fields name value = insert_entry (slice_cmp nat_cmp) fields name value

-- the fields without the name
abbrev pub without_field : Entries → List ℕ → Entries
without_field fields name = remove_entry (is_at (slice_cmp nat_cmp name)) fields

-- a name stands at this place among ascending names
pub record IsAt (names : List (List ℕ)) (name : List ℕ) (place : ℕ) : Type 0 where
  pub inside : place < length names
  pub below : AllWithin (λ n. TextBefore n name) names 0 place
  pub here : HoldsAt (λ n. n ≡ name) names place

-- it doesn't stand among them, and would stand at this place
pub record IsGapFor (names : List (List ℕ)) (name : List ℕ) (place : ℕ) : Type 0 where
  pub inside : place ≤ length names
  pub below : AllWithin (λ n. TextBefore n name) names 0 place
  pub above : AllWithin (λ n. TextBefore name n) names place (length names)
