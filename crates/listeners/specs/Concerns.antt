-- Whom a change of a document concerns: who asks for that document, or for the collection that has it.
use Rattle.std.specs.Prelude.{◌≡◌, ◌⊎◌, ℕ, List, Some, IsTrue}
use Rattle.std.specs.BTreeSet.{BTreeSet}
use Rattle.queries.specs.declared.target.Target.{Target}
use Rattle.queries.specs.declared.target.Target.TheVariants.{Document, Collection}
use Rattle.value_model.specs.Documents.{IsIn}
use Rattle.views.specs.Viewed.{Viewed}
use Rattle.listeners.specs.Ids.{has_id}
use Rattle.listeners.specs.Table.{Table, viewed}

-- a change of the key's document concerns the target
abbrev pub Concerns : Target → List (List ℕ) → Type 0
Concerns (Document wanted) key = key ≡ wanted
Concerns (Collection target) key = IsIn target.collection key

-- the id is that of a listener whose target a change of the key's document concerns
pub record IsConcerned (table : Table) (key : List (List ℕ)) (id : ℕ) : Type 0 where
  pub view : Viewed
  pub there : viewed table id ≡ Some view
  pub concerns : Concerns view.target key

-- what came to the set are ids of such listeners
abbrev pub AddsConcernedOnly : Table → List (List ℕ) → BTreeSet ℕ → BTreeSet ℕ → Type 0
AddsConcernedOnly table key was now = (q : ℕ) → IsTrue (has_id now q)
    → IsTrue (has_id was q) ⊎ IsConcerned table key q

-- the set has the id of each such listener
abbrev pub HasAllConcerned : Table → List (List ℕ) → BTreeSet ℕ → Type 0
HasAllConcerned table key ids = (q : ℕ) → IsConcerned table key q → IsTrue (has_id ids q)
