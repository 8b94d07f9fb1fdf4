-- The entries that some changes put, by key.
use Rattle.std.specs.Prelude.{◌≡◌, ℕ, ◌<◌, List, take, fold, Option, Some, None, option_map, get_or, if◌then◌else◌}
use Rattle.std.specs.Map.{lookup}
use Rattle.document_keys.specs.KeySet.{is_key}
use Rattle.value_model.specs.declared.document.Entry.{Entry}
use Rattle.outcome_codec.specs.declared.parts.KeyedEntry.{KeyedEntry}

-- what is put at a key after one change more
abbrev pub with_put : List (List ℕ) → Option Entry → KeyedEntry → Option Entry
with_put key found change = if is_key change.key key then Some change.entry else found

-- the entry that the changes put at a key last, if they put one
abbrev pub put_at : List KeyedEntry → List (List ℕ) → Option Entry
put_at changes key = fold (with_put key) None changes

-- the table has the place of the last one of each key among the first so many changes
pub record AreLast (count : ℕ) (changes : List KeyedEntry) (table : List (List (List ℕ) × ℕ)) : Type 0 where
  pub within : (key : List (List ℕ)) (place : ℕ) → lookup (is_key key) table ≡ Some place → place < count
  pub there : (key : List (List ℕ)) (c : KeyedEntry)
      → option_map (λ place. (get_or changes place c).entry) (lookup (is_key key) table) ≡ put_at (take count changes) key
