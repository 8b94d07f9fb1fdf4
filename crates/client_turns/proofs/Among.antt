-- ids among others
use Rattle.std.proofs.Common.{◌≡◌, ⊎_elim, ℕ, nat_eq, Bool, true, false, ◌||◌, List, [], ◌∷◌, refl, sym, subst, arith}
use Rattle.std.proofs.lemmas.Bool.{eqb-true, true≢false}
use Rattle.std.proofs.lemmas.Bool.Decides.{Decides-eqb}
use Rattle.std.proofs.lemmas.List.Elements.{Contains-push_cases}
use Rattle.std.specs.List.{Contains, list_any}
use Rattle.client_turns.proofs.Wanted.{any_at, first_among, later_among}

pub any_among : (q : ℕ) (ids : List ℕ) → list_any (nat_eq q) ids ≡ true → Contains ids q
any_among q [] is = absurd (true≢false (sym is))
any_among q (n ∷ ids) is = go (any_among q ids) (nat_eq q n) refl is
  where
    go : (list_any (nat_eq q) ids ≡ true → Contains ids q) → (b : Bool) → nat_eq q n ≡ b → (b || list_any (nat_eq q) ids) ≡ true → Contains (n ∷ ids) q
    go later true same so = subst (Contains (n ∷ ids)) (sym (eqb-true q n same)) (first_among n ids)
    go later false other so = later_among n q ids (later so)

pub among_any : (q : ℕ) (ids : List ℕ) → Contains ids q → list_any (nat_eq q) ids ≡ true
among_any q ids there = any_at (nat_eq q) ids q there ((Decides-eqb q q).1 refl)

-- the only one is the one
pub one_among : {X : Type 0} (x y : X) → Contains (x ∷ []) y → x ≡ y
one_among x y there = ⊎_elim (λ none. absurd (omega (arith, none.1))) (λ same. same) (Contains-push_cases [] x y there)
