-- Where listeners stand in the index by which those are found that a change of a document concerns.
use Rattle.std.specs.Prelude.{◌≡◌, ◌≢◌, ℕ, Bool, false, List, [], ◌∷◌, ◌++◌, Option, Some, None, IsTrue}
use Rattle.std.specs.BTreeSet.{BTreeSet}
use Rattle.std.specs.Map.{lookup}
use Rattle.document_keys.specs.KeySet.{is_key}
use Rattle.queries.specs.declared.target.Target.{Target}
use Rattle.queries.specs.declared.target.Target.TheVariants.{Document, Collection}
use Rattle.views.specs.Viewed.{Viewed}
use Rattle.listeners.specs.Ids.{has_id}
use Rattle.listeners.specs.Table.{Table, viewed}

-- the least key that a document of the collection can have: its id is the byte 0
abbrev pub least_in : List (List ℕ) → List (List ℕ)
least_in collection = collection ++ (0 ∷ []) ∷ []

-- a query of a document stands at its key, one of a collection at the least key there
abbrev pub place_of : Target → List (List ℕ)
place_of (Document wanted) = wanted
place_of (Collection target) = least_in target.collection

-- what stands at a place, if anything does, has the id
abbrev pub is_among : Option (BTreeSet ℕ) → ℕ → Bool
is_among None id = false
is_among (Some ids) id = has_id ids id

-- the ids by their places, ascending
abbrev pub Index : Type 0
Index = List (List (List ℕ) × BTreeSet ℕ)

-- the id stands at the place
abbrev pub stands_at : Index → List (List ℕ) → ℕ → Bool
stands_at index place id = is_among (lookup (is_key place) index) id

-- each id stays where it stands
abbrev pub KeepsIds : Index → Index → Type 0
KeepsIds old new = (place : List (List ℕ)) (q : ℕ) → IsTrue (stands_at old place q)
    → IsTrue (stands_at new place q)

-- each id but this one stays where it stands
abbrev pub KeepsOtherIds : ℕ → Index → Index → Type 0
KeepsOtherIds id old new = (place : List (List ℕ)) (q : ℕ) → q ≢ id
    → IsTrue (stands_at old place q) → IsTrue (stands_at new place q)

-- each listener stands at the place of its target
abbrev pub IsIndexed : Table → Index → Type 0
IsIndexed table index = (id : ℕ) (view : Viewed) → viewed table id ≡ Some view
    → IsTrue (stands_at index (place_of view.target) id)
