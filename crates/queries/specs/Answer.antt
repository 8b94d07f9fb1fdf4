-- The answer of a query over the documents of a store. It counts who comes before; it neither sorts nor cuts.
use Rattle.std.specs.Prelude.{◌≡◌, ◌≢◌, ◌↔◌, ℕ, ◌<◌, ◌≤◌, List, length, Option, Some, None, IfSome}
use Rattle.std.specs.FinMap as map
use Rattle.std.specs.List.{All, AllPairs, Contains}
use Rattle.document_keys.specs.Names.{Root}
use Rattle.value_model.specs.Documents.{DocumentMap, Stored}
use Rattle.queries.specs.declared.target.Target.{Target}
use Rattle.queries.specs.declared.target.Target.TheVariants.{Document, Collection}
use Rattle.queries.specs.Matching.{Matches, IsBefore}

-- there is a document of the key, and it matches the query
pub record Finds (target : Target) (root : Root) (documents : DocumentMap) (key : List (List ℕ)) : Type 0 where
  pub stored : Stored
  pub there : map.get documents key ≡ Some stored
  pub matches : Matches target root key stored.fields

-- the document of one key comes before that of another in the order of the query
pub record KeyBefore (target : Target) (root : Root) (documents : DocumentMap) (key other : List (List ℕ)) : Type 0 where
  pub stored : Stored
  pub others : Stored
  pub there : map.get documents key ≡ Some stored
  pub other_there : map.get documents other ≡ Some others
  pub before : IsBefore target root key stored.fields other others.fields

-- these are different keys of matching documents that come before that of the key
pub record ComeBefore (target : Target) (root : Root) (documents : DocumentMap) (earlier : List (List (List ℕ))) (key : List (List ℕ)) : Type 0 where
  pub distinct : AllPairs ◌≢◌ earlier
  pub found : All (Finds target root documents) earlier
  pub before : All (λ other. KeyBefore target root documents other key) earlier

-- the most documents of an answer; a query of one document says nothing of it
abbrev pub limit_of : Target → Option ℕ
limit_of (Document wanted) = None
limit_of (Collection target) = target.limit

-- fewer matching documents than the limit come before that of the key
abbrev pub IsWithinLimit : Target → Root → DocumentMap → List (List ℕ) → Type 0
IsWithinLimit target root documents key = IfSome (limit_of target) (λ limit. (earlier : List (List (List ℕ)))
    → ComeBefore target root documents earlier key → length earlier < limit)

-- The list stands in the order of the query, and a key is in it exactly where there is a document of it that matches the
-- query, and fewer matching documents than the limit come before that.
pub record IsAnswer (target : Target) (root : Root) (documents : DocumentMap) (keys : List (List (List ℕ))) : Type 0 where
  pub ordered : AllPairs (KeyBefore target root documents) keys
  pub members : (key : List (List ℕ)) → Contains keys key ↔ (Finds target root documents key × IsWithinLimit target root documents key)

-- The keys are as many as the limit, and the documents of all of them come before that of the key.
abbrev pub IsPastLimit : Target → Root → DocumentMap → List (List (List ℕ)) → List (List ℕ) → Type 0
IsPastLimit target root documents keys key = (limit : ℕ) × (limit_of target ≡ Some limit) × (limit ≤ length keys)
    × All (λ other. KeyBefore target root documents other key) keys
