-- A store of documents, as what is asked of it sees it.
use Rattle.std.specs.Prelude.{◌≡◌, ◌↔◌, ℕ, List, [], ◌∷◌, ◌++◌, Option, IsSome}
use Rattle.std.specs.Cmp.Lexicographic.{slice_cmp}
use Rattle.std.specs.Ordering.{nat_cmp}
use Rattle.std.specs.FinMap as map
use Rattle.std.specs.List.{AllPairs, Contains}
use Rattle.document_keys.specs.Order.{PathBefore}
use Rattle.value_model.specs.declared.document.DocState.{DocState}
use Rattle.value_model.specs.declared.timestamp.Timestamp.{Timestamp}
use Rattle.value_model.specs.Data.{Entries}

-- a document as it stands in a store
pub record Stored : Type 0 where
  pub fields : Entries
  pub update_time : Option Timestamp
  pub state : DocState

-- the documents of a store, by key
abbrev pub DocumentMap : Type 0
DocumentMap = map.FinMap (slice_cmp (slice_cmp nat_cmp)) Stored

-- the key is that of a document in the collection: the collection's path and one segment more
abbrev pub IsIn : List (List ℕ) → List (List ℕ) → Type 0
IsIn collection key = (id : List ℕ) × (key ≡ collection ++ id ∷ [])

-- the keys of the documents that the collection has, ascending
pub record ListsCollection (documents : DocumentMap) (collection : List (List ℕ)) (keys : List (List (List ℕ))) : Type 0 where
  pub ascending : AllPairs PathBefore keys
  pub members : (key : List (List ℕ)) → Contains keys key ↔ (IsIn collection key × IsSome (map.get documents key))
