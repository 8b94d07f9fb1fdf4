-- what is read of the listeners after a change of one
use Rattle.std.proofs.Common.{◌≡◌, ◌∙◌, ℕ, ℤ, Bool, true, false, cond, Option, Some, None, refl, sym, ap}
use Rattle.std.specs.Map.{lookup}
use Rattle.std.specs.Option.{option_map}
use Rattle.views.specs.Viewed.{Viewed}
use Rattle.listeners.specs.Table.{Changes, ChangesTarget, KeepsTargets, Listening, Table, is_id, target_of, viewed}
use Rattle.listeners.proofs.Ids.{one_id}

-- the listener of an id
abbrev pub heard : Table → ℕ → Option Listening
heard table id = lookup (is_id id) table

module _ (old new : Table) (id : ℕ) (w : Option Listening) (is : (q : ℕ) → heard new q ≡ cond (is_id id q) w (heard old q)) where
  -- one part of each
  reads : {X : Type 0} (f : Listening → X) (q : ℕ) → option_map f (heard new q) ≡ cond (is_id id q) (option_map f w) (option_map f (heard old q))
  reads f q = by (is_id id q) refl
    where
      by : (b : Bool) → is_id id q ≡ b → option_map f (heard new q) ≡ cond (is_id id q) (option_map f w) (option_map f (heard old q))
      by true e = ap (option_map f) (is q ∙ ap (λ b. cond b w (heard old q)) e) ∙ ap (λ b. cond b (option_map f w) (option_map f (heard old q))) (sym e)
      by false e = ap (option_map f) (is q ∙ ap (λ b. cond b w (heard old q)) e) ∙ ap (λ b. cond b (option_map f w) (option_map f (heard old q))) (sym e)

  pub views_change : (view : Option Viewed) → option_map (λ l. l.view) w ≡ view → Changes id view old new
  views_change view shows q = reads (λ l. l.view) q ∙ ap (λ v. cond (is_id id q) v (viewed old q)) shows

  pub targets_change : (target : Option ℤ) → option_map (λ l. l.target_id) w ≡ target → ChangesTarget id target old new
  targets_change target listens q = reads (λ l. l.target_id) q ∙ ap (λ t. cond (is_id id q) t (target_of old q)) listens

  -- the listener of the id stays with its target
  pub targets_stay : option_map (λ l. l.target_id) w ≡ target_of old id → KeepsTargets old new
  targets_stay same q = reads (λ l. l.target_id) q ∙ by (is_id id q) refl
    where
      by : (b : Bool) → is_id id q ≡ b → cond (is_id id q) (option_map (λ l. l.target_id) w) (target_of old q) ≡ target_of old q
      by true e = ap (λ b. cond b (option_map (λ l. l.target_id) w) (target_of old q)) e ∙ same ∙ ap (target_of old) (one_id id q e)
      by false e = ap (λ b. cond b (option_map (λ l. l.target_id) w) (target_of old q)) e

pub same_targets : (old new : Table) → new ≡ old → KeepsTargets old new
same_targets old new same q = ap (λ t. target_of t q) same

-- where an id has no view, it has no target
pub no_target : (table : Table) (id : ℕ) → viewed table id ≡ None → target_of table id ≡ None
no_target table id none = by (heard table id) refl
  where
    by : (found : Option Listening) → heard table id ≡ found → target_of table id ≡ None
    by None e = ap (option_map (λ l. l.target_id)) e
    by (Some l) e = let never = sym none ∙ ap (option_map (λ x. x.view)) e in cc
