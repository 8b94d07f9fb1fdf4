-- Laws of refreshes.
use Rattle.std.specs.Prelude.{◌≡◌, ◌↔◌, ℕ, Bool, false, List, IsSome}
use Rattle.std.specs.FinMap as map
use Rattle.std.specs.List.{Contains}
use Rattle.document_keys.specs.Names.{Root}
use Rattle.value_model.specs.Documents.{DocumentMap}
use Rattle.views.specs.declared.standing.Standing.{Standing}
use Rattle.views.specs.declared.view.Refresh.{Refresh}
use Rattle.views.specs.Refresh.{Refreshes}
use Rattle.views.specs.Viewed.{Viewed}
use Rattle.listeners.specs.Concerns.{Concerns}

-- nothing more is to be told: a refresh of the view raises no snapshot, and leaves it as it is
pub record IsSettled (root : Root) (documents : DocumentMap) (touched : List (List (List ℕ)))
    (standing : Standing) (may_start : Bool) (view : Viewed) : Type 0 where
  pub refresh : Refresh
  pub refreshes : Refreshes root documents touched standing may_start view view refresh
  pub silent : refresh.raised ≡ false

-- a view is settled after a refresh
abbrev pub RefreshSettles : Type 0
RefreshSettles = (root : Root) (documents : DocumentMap) (touched : List (List (List ℕ)))
    (standing : Standing) (may_start : Bool) (old new : Viewed) (refresh : Refresh)
    → Refreshes root documents touched standing may_start old new refresh
    → IsSettled root documents touched standing may_start new

-- the documents that the target concerns stay
abbrev pub KeepsConcerned : DocumentMap → DocumentMap → Viewed → Type 0
KeepsConcerned before after view = (key : List (List ℕ)) → Concerns view.target key
    → map.get after key ≡ map.get before key

-- while its target isn't current, a settled view stays settled where the documents that its target
-- concerns stay
abbrev pub SettledStays : Type 0
SettledStays = (root : Root) (before after : DocumentMap)
    (touched touched_after : List (List (List ℕ)))
    (standing : Standing) (may_start : Bool) (view : Viewed)
    → standing.current ≡ false → IsSettled root before touched standing may_start view
    → KeepsConcerned before after view → IsSettled root after touched_after standing may_start view

-- of the keys that the target concerns the touched ones stay touched, and the others untouched
abbrev pub KeepsTouched : List (List (List ℕ)) → List (List (List ℕ)) → Viewed → Type 0
KeepsTouched touched touched_after view = (key : List (List ℕ)) → Concerns view.target key
    → Contains touched_after key ↔ Contains touched key

-- a settled view stays settled where the documents that its target concerns stay, and of the keys
-- that it concerns the touched ones
abbrev pub SettledStaysTouched : Type 0
SettledStaysTouched = (root : Root) (before after : DocumentMap)
    (touched touched_after : List (List (List ℕ)))
    (standing : Standing) (may_start : Bool) (view : Viewed)
    → IsSettled root before touched standing may_start view → KeepsConcerned before after view
    → KeepsTouched touched touched_after view
    → IsSettled root after touched_after standing may_start view

-- where a view has raised a snapshot, whether it may start says nothing of its being settled
abbrev pub RaisedStaysSettled : Type 0
RaisedStaysSettled = (root : Root) (documents : DocumentMap) (touched : List (List (List ℕ)))
    (standing : Standing) (may_start other : Bool) (view : Viewed)
    → IsSome view.raised → IsSettled root documents touched standing may_start view
    → IsSettled root documents touched standing other view

-- the two refreshes did the same, and left the same view
pub record AreOneOutcome (new other : Viewed) (refresh another : Refresh) : Type 0 where
  pub raised : refresh.raised ≡ another.raised
  pub limbo : refresh.limbo.items ≡ another.limbo.items
  pub view : new ≡ other

-- a refresh has one outcome
abbrev pub RefreshIsOne : Type 0
RefreshIsOne = (root : Root) (documents : DocumentMap) (touched : List (List (List ℕ)))
    (standing : Standing) (may_start : Bool) (old new other : Viewed) (refresh another : Refresh)
    → Refreshes root documents touched standing may_start old new refresh
    → Refreshes root documents touched standing may_start old other another
    → AreOneOutcome new other refresh another
