-- What a refresh of one listener makes of all of them.
use Rattle.std.specs.Prelude.{◌≡◌, ℕ, Bool, List, Some, IfSome}
use Rattle.document_keys.specs.Names.{Root}
use Rattle.value_model.specs.Documents.{DocumentMap}
use Rattle.views.specs.declared.standing.Standing.{Standing}
use Rattle.views.specs.declared.view.Refresh.{Refresh}
use Rattle.views.specs.Refresh.{IsOver, Refreshes}
use Rattle.views.specs.Viewed.{Viewed}
use Rattle.listeners.specs.Table.{Changes, Table, viewed}

-- the view of the id is refreshed, and no other changes
pub record RefreshesAt (id : ℕ) (root : Root) (documents : DocumentMap)
    (touched : List (List (List ℕ))) (standing : Standing) (may_start : Bool)
    (old new : Table) (refresh : Refresh) : Type 0 where
  pub was : Viewed
  pub is : Viewed
  pub there : viewed old id ≡ Some was
  pub refreshes : Refreshes root documents touched standing may_start was is refresh
  pub changes : Changes id (Some is) old new

-- the documents of the last snapshot of the id's listener are printed as those that the store has
abbrev pub IsOverAt : ℕ → Table → DocumentMap → Type 0
IsOverAt id table documents = IfSome (viewed table id) (λ view. IsOver view documents)
