-- what a refresh keeps of a view
use Rattle.std.proofs.Common.{◌≡◌, ℕ, Bool, List, Result, Ok, Err, IfOk, OnErr, ap}
use Rattle.document_keys.specs.declared.faults.NoMemory.{NoMemory}
use Rattle.document_keys.specs.Names.{Root}
use Rattle.value_model.specs.Documents.{DocumentMap}
use Rattle.views.specs.declared.standing.Standing.{Standing}
use Rattle.views.specs.declared.view.Refresh.{Refresh}
use Rattle.views.specs.Refresh.{Refreshes}
use Rattle.views.specs.Viewed.{Viewed}

pub target_stays : (root : Root) (documents : DocumentMap) (touched : List (List (List ℕ))) (standing : Standing) (may_start : Bool) (old new : Viewed) (result : Result Refresh NoMemory)
    → IfOk result (λ refresh. Refreshes root documents touched standing may_start old new refresh) → OnErr result (new ≡ old) → new.target ≡ old.target
target_stays root documents touched standing may_start old new (Ok refresh) done undone = done.target
target_stays root documents touched standing may_start old new (Err none) done undone = ap (λ (v : Viewed). v.target) undone
