-- What a refresh makes of a view: the snapshot that it raises, or none (the client SDK's rule: a listener is called where
-- what it shows differs from what it was last told).
use Rattle.std.specs.Prelude.{◌≡◌, ◌≢◌, ◌⊎◌, ℕ, Bool, false, true, List, [], Option, Some, None, IfSome, IsTrue}
use Rattle.std.specs.List.{All}
use Rattle.document_keys.specs.Names.{Root}
use Rattle.queries.specs.Answer.{IsAnswer}
use Rattle.value_model.specs.Documents.{DocumentMap}
use Rattle.views.specs.declared.raised.Raised.{Raised}
use Rattle.views.specs.declared.view.Refresh.{Refresh}
use Rattle.views.specs.declared.standing.Standing.{Standing}
use Rattle.views.specs.Changes.{HasChanges}
use Rattle.views.specs.Limbo.{IsFromCache, IsInLimbo}
use Rattle.views.specs.Picks.{Picks}
use Rattle.views.specs.Row.{Row, Prints, IsPrinted}
use Rattle.views.specs.Viewed.{Viewed}

-- the rows of the last snapshot, if there was one
abbrev pub last_rows : Option Raised → List Row
last_rows None = []
last_rows (Some last) = last.rows

-- A view with no snapshot yet raises one where what it shows isn't from the cache, it shows a document, or it may start. Any
-- other raises one where the printed documents, or whether they are from the cache, differ from those last raised.
abbrev pub Raises : DocumentMap → List (List (List ℕ)) → Bool → Bool → Option Raised → Type 0
Raises documents answer from_cache may_start None = (from_cache ≡ false) ⊎ ((answer ≢ []) ⊎ (may_start ≡ true))
Raises documents answer from_cache may_start (Some last) = (from_cache ≢ last.from_cache) ⊎ (Prints documents answer last.rows → ⊥)

-- the snapshot shows the answer with what is printed of its documents, and this flag
pub record Shows (documents : DocumentMap) (answer : List (List (List ℕ))) (from_cache : Bool) (shown : Raised) : Type 0 where
  pub rows : Prints documents answer shown.rows
  pub flag : shown.from_cache ≡ from_cache

-- a snapshot was raised, with its changes against the last one
pub record IsRaised (last new : Option Raised) : Type 0 where
  pub raised : Raised
  pub is : new ≡ Some raised
  pub changes : HasChanges (last_rows last) raised.rows raised.changes

-- The answer is shown; of it these keys are in limbo; the flag follows; a snapshot is raised where it has to be; and after
-- it the last snapshot, if there is one, shows the answer and the flag.
pub record Refreshes (root : Root) (documents : DocumentMap) (touched : List (List (List ℕ))) (standing : Standing) (may_start : Bool) (old new : Viewed) (refresh : Refresh) : Type 0 where
  pub answer : List (List (List ℕ))
  pub from_cache : Bool
  pub is_answer : IsAnswer old.target root documents answer
  pub limbo : Picks (IsInLimbo standing touched) answer refresh.limbo.items
  pub flag : IsFromCache standing refresh.limbo.items from_cache
  pub wanted : IsTrue refresh.raised → Raises documents answer from_cache may_start old.raised
  pub unwanted : refresh.raised ≡ false → Raises documents answer from_cache may_start old.raised → ⊥
  pub target : new.target ≡ old.target
  pub raised : IsTrue refresh.raised → IsRaised old.raised new.raised
  pub kept : refresh.raised ≡ false → new.raised ≡ old.raised
  pub shows : IfSome new.raised (Shows documents answer from_cache)

-- the documents of the last snapshot are printed as those that the store has
abbrev pub IsOver : Viewed → DocumentMap → Type 0
IsOver view documents = IfSome view.raised (λ shown. All (IsPrinted documents) shown.rows)
