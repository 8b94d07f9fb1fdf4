-- how the current targets stand
use Rattle.std.proofs.Common.{◌≡◌, ℤ, Bool, true, false, not, List, [], ◌∷◌, Option, Some, None, if◌then◌else◌, refl, sym, ap, ◌∙◌}
use Rattle.std.proofs.lemmas.Bool.{true≢false}
use Rattle.std.proofs.lemmas.Bool.Decides.{Decides-int_eq}
use Rattle.std.specs.List.{filter}
use Rattle.std.specs.Ordering.{int_eq}
use Rattle.views.specs.declared.standing.Standing.{Standing}
use Rattle.sync_engine.specs.declared.current.CurrentTarget.{CurrentTarget}
use Rattle.sync_engine.specs.Standing.{standing_in}

-- the target has another id
abbrev pub is_other : ℤ → CurrentTarget → Bool
is_other x target = not (int_eq target.id x)

either_same : (b : Bool) (x : Option Standing) → (if b then x else x) ≡ x
either_same true x = refl
either_same false x = refl

-- where all but one target are kept, that one isn't current any more
pub standing_kept : (x : ℤ) (targets : List CurrentTarget) (t : ℤ) → standing_in (filter (is_other x) targets) t ≡ (if int_eq x t then None else standing_in targets t)
standing_kept x [] t = sym (either_same (int_eq x t) None)
standing_kept x (target ∷ targets) t = by (filter (is_other x) targets) (standing_kept x targets t) (int_eq target.id x) refl (int_eq target.id t) refl (int_eq x t) refl
  where
    by : (kept : List CurrentTarget) → standing_in kept t ≡ (if int_eq x t then None else standing_in targets t) → (a : Bool) → int_eq target.id x ≡ a → (b : Bool) → int_eq target.id t ≡ b → (d : Bool) → int_eq x t ≡ d
        → standing_in (if not a then target ∷ kept else kept) t ≡ (if d then None else (if b then Some target.standing else standing_in targets t))
    by kept rest true same b at true is = rest ∙ ap (λ c. if c then None else standing_in targets t) is
    by kept rest true same true at false is = absurd (true≢false (sym ((Decides-int_eq x t).1 (sym ((Decides-int_eq target.id x).0 same) ∙ (Decides-int_eq target.id t).0 at)) ∙ is))
    by kept rest true same false at false is = rest ∙ ap (λ c. if c then None else standing_in targets t) is
    by kept rest false other true at true is = absurd (true≢false (sym ((Decides-int_eq target.id x).1 ((Decides-int_eq target.id t).0 at ∙ sym ((Decides-int_eq x t).0 is))) ∙ other))
    by kept rest false other true at false is = ap (λ c. if c then Some target.standing else standing_in kept t) at
    by kept rest false other false at d is = ap (λ c. if c then Some target.standing else standing_in kept t) at ∙ rest ∙ ap (λ c. if c then None else standing_in targets t) is
