-- what a refresh makes of a view: where a snapshot is raised, and where none is
use Rattle.std.proofs.Common.{◌≡◌, ◌↔◌, ℕ, Bool, true, false, IsTrue, List, Option, Some, None, IfSome, Vec, Global, refl}
use Rattle.std.specs.List.{All}
use Rattle.document_keys.specs.declared.key.DocumentKey.{DocumentKey}
use Rattle.document_keys.specs.Names.{Root}
use Rattle.queries.specs.Answer.{IsAnswer}
use Rattle.value_model.specs.Documents.{DocumentMap}
use Rattle.views.specs.declared.raised.Raised.{Raised}
use Rattle.views.specs.declared.standing.Standing.{Standing}
use Rattle.views.specs.Changes.{HasChanges}
use Rattle.views.specs.Limbo.{IsFromCache, IsInLimbo}
use Rattle.views.specs.Picks.{Picks}
use Rattle.views.specs.Refresh.{Raises, Refreshes, Shows, last_rows}
use Rattle.views.specs.Row.{IsPrinted}
use Rattle.views.specs.Viewed.{Viewed}

module _ (root : Root) (documents : DocumentMap) (touched : List (List (List ℕ))) (standing : Standing) (may_start : Bool) (old : Viewed) (limbo : Vec DocumentKey Global)
    (answer : List (List (List ℕ))) (from_cache : Bool) (is_answer : IsAnswer old.target root documents answer) (picks : Picks (IsInLimbo standing touched) answer limbo.items)
    (flag : IsFromCache standing limbo.items from_cache) (result : Bool) (told : IsTrue result ↔ Raises documents answer from_cache may_start old.raised) where
  pub raises : result ≡ true → (now : Raised) → Shows documents answer from_cache now → HasChanges (last_rows old.raised) now.rows now.changes
      → Refreshes root documents touched standing may_start old (record { target = old.target; raised = Some now }) (record { raised = result; limbo = limbo })
  raises is now shows changes = record {
    answer = answer;
    from_cache = from_cache;
    is_answer = is_answer;
    limbo = picks;
    flag = flag;
    wanted = told.0;
    unwanted = λ never. cc;
    target = refl;
    raised = λ _. record { raised = now; is = refl; changes = changes };
    kept = λ never. cc;
    shows = shows;
  }

  pub keeps : result ≡ false → IfSome old.raised (Shows documents answer from_cache) → Refreshes root documents touched standing may_start old old (record { raised = result; limbo = limbo })
  keeps never shows = record {
    answer = answer;
    from_cache = from_cache;
    is_answer = is_answer;
    limbo = picks;
    flag = flag;
    wanted = told.0;
    unwanted = λ _ raises. let was = told.1 raises in cc;
    target = refl;
    raised = λ is. cc;
    kept = λ _. refl;
    shows = shows;
  }

pub is_over : (documents : DocumentMap) (answer : List (List (List ℕ))) (from_cache : Bool) (raised : Option Raised) → IfSome raised (Shows documents answer from_cache) → IfSome raised (λ shown. All (IsPrinted documents) shown.rows)
is_over documents answer from_cache None shows = tt
is_over documents answer from_cache (Some now) shows = shows.rows.each_printed
