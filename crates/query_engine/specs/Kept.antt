-- The rows of a query that are kept: documents that a store lends.
use Rattle.std.specs.Prelude.{◌≡◌, ◌≢◌, ◌⊎◌, ◌≤◌, ◌*◌, ◌∷◌, ◌++◌, [], ℕ, List, map as each, length, take, Option, Some, None, IfSome, MatchOption, IsPermutation}
use Rattle.std.specs.FinMap as map
use Rattle.std.specs.List.{All, AllPairs, Contains}
use Rattle.document_keys.specs.Names.{Root}
use Rattle.value_model.specs.declared.documents.DocRef.{DocRef}
use Rattle.value_model.specs.Documents.{DocumentMap, Stored}
use Rattle.queries.specs.declared.target.Target.{Target}
use Rattle.queries.specs.Answer.{Finds, KeyBefore}
use Rattle.queries.specs.Matching.{Matches, SortsRows}

-- a lent document as it stands in the store
abbrev pub stored_of : DocRef → Stored
stored_of row = record { fields = row.fields.now; update_time = row.update_time; state = row.state }

-- the document is what the store has for its key, and it matches the query
pub record IsRow (target : Target) (root : Root) (documents : DocumentMap) (row : DocRef) : Type 0 where
  pub there : map.get documents row.key.now ≡ Some (stored_of row)
  pub matches : Matches target root row.key.now row.fields.now

-- the row of a key, where its document matches
abbrev pub TellsRow : Target → Root → DocumentMap → List (List ℕ) → Option DocRef → Type 0
TellsRow target root documents key row = MatchOption row (Finds target root documents key → ⊥) (λ r. (r.key.now ≡ key) × IsRow target root documents r)

abbrev pub keys_of : List DocRef → List (List (List ℕ))
keys_of rows = each (λ (row : DocRef). row.key.now) rows

-- there are twice as many as the limit
abbrev pub IsFull : ℕ → Option ℕ → Type 0
IsFull count None = ⊥
IsFull count (Some limit) = limit * 2 ≤ count

-- the first ones, as many as the limit allows
abbrev pub front : {X : Type 0} → Option ℕ → List X → List X
front None xs = xs
front (Some limit) xs = take limit xs

-- the kept rows are the first ones of the sorted rows
pub record CutsRows (target : Target) (limit : Option ℕ) (rows kept : List DocRef) : Type 0 where
  pub sorted : List DocRef
  pub moves : IsPermutation rows sorted
  pub in_order : SortsRows target rows sorted
  pub front : kept ≡ front limit sorted

-- a row came to the others, which may be cut then
abbrev pub PutsRow : Target → Option ℕ → List DocRef → DocRef → List DocRef → Type 0
PutsRow target limit rows row now = (now ≡ rows ++ row ∷ []) ⊎ CutsRows target limit (rows ++ row ∷ []) now

-- with a limit, so many of the keys come before the key
abbrev pub IsBehind : Target → Root → DocumentMap → Option ℕ → List (List (List ℕ)) → List (List ℕ) → Type 0
IsBehind target root documents None keys key = ⊥
IsBehind target root documents (Some limit) keys key = (limit ≤ length keys) × All (λ other. KeyBefore target root documents other key) (take limit keys)

-- Of the keys that were looked at, these are different ones that match, and each other one that matches is behind so many
-- of them as the limit.
pub record KeepsKeys (target : Target) (root : Root) (documents : DocumentMap) (limit : Option ℕ) (looked keys : List (List (List ℕ))) : Type 0 where
  pub distinct : AllPairs ◌≢◌ keys
  pub among : All (Contains looked) keys
  pub found : All (Finds target root documents) keys
  pub covers : (key : List (List ℕ)) → Contains looked key → Finds target root documents key → Contains keys key ⊎ IsBehind target root documents limit keys key

-- the rows of such keys
pub record KeepsRows (target : Target) (root : Root) (documents : DocumentMap) (limit : Option ℕ) (looked : List (List (List ℕ))) (kept : List DocRef) : Type 0 where
  pub rows : All (IsRow target root documents) kept
  pub keys : KeepsKeys target root documents limit looked (keys_of kept)

-- such keys in the order of the query, and no more than the limit
pub record KeepsFirst (target : Target) (root : Root) (documents : DocumentMap) (limit : Option ℕ) (looked : List (List (List ℕ))) (rows : List DocRef) : Type 0 where
  pub keys : KeepsKeys target root documents limit looked (keys_of rows)
  pub ordered : AllPairs (KeyBefore target root documents) (keys_of rows)
  pub short : IfSome limit (λ n. length (keys_of rows) ≤ n)
