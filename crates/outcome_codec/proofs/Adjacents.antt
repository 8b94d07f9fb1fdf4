-- Lists each of whose items is before the next ascend, where the order is transitive.
use Rattle.std.proofs.Common.{◌≡◌, ◌∙◌, ◌↔◌, inl, inr, ℕ, zero, suc, ◌+◌, ◌-◌, ◌<◌, ◌≤◌, List, [], ◌∷◌, ◌++◌, length, get_or, subst, sym, arith}
use Rattle.std.specs.List.{AllPairs, Contains}
use Rattle.std.proofs.lemmas.Bool.{cases_lt}
use Rattle.std.proofs.lemmas.List.{get_or_default}
use Rattle.std.proofs.lemmas.List.Elements.{Contains-append_left, Contains-append_right, Contains-append_cases}
use Rattle.document_keys.specs.KeySet.{Inserts}

-- of the first items each is before the next
abbrev pub Adjacent : {X : Type 0} → (X → X → Type 0) → List X → ℕ → Type 0
Adjacent {X} R xs n = (k : ℕ) (d : X) → k + 1 < n → R (get_or xs k d) (get_or xs (k + 1) d)

abbrev pub IsTransitive : {X : Type 0} → (X → X → Type 0) → Type 0
IsTransitive {X} R = (a b c : X) → R a b → R b c → R a c

later : {X : Type 0} (R : X → X → Type 0) → IsTransitive R → (xs : List X) (n : ℕ) → Adjacent R xs n → (i more : ℕ) (d : X) → i + 1 + more < n → R (get_or xs i d) (get_or xs (i + 1 + more) d)
later R trans xs n near i zero d below = subst (λ k. R (get_or xs i d) (get_or xs k d)) (omega arith) (near i d (omega (arith, below)))
later R trans xs n near i (suc more) d below =
    let one = later R trans xs n near i more d (omega (arith, below)) in
    let two = near (i + 1 + more) d (omega (arith, below)) in
    subst (λ k. R (get_or xs i d) (get_or xs k d)) (omega arith) (trans (get_or xs i d) (get_or xs (i + 1 + more) d) (get_or xs (i + 1 + more + 1) d) one two)

pub pairs_from : {X : Type 0} (R : X → X → Type 0) → IsTransitive R → (xs : List X) → Adjacent R xs (length xs) → AllPairs R xs
pairs_from R trans xs near i j d before inside =
    subst (λ k. R (get_or xs i d) (get_or xs k d)) (omega (arith, before)) (later R trans xs (length xs) near i (j - (i + 1)) d (omega (arith, before, inside)))

-- one item more
pub adjacent_more : {X : Type 0} (R : X → X → Type 0) (xs : List X) (i : ℕ) (a b : X) → i < length xs → 1 ≤ i → a ≡ get_or xs (i - 1) a → b ≡ get_or xs i b → R a b → Adjacent R xs i → Adjacent R xs (i + 1)
adjacent_more R xs i a b inside some is other one near k d below =
    elim (cases_lt (k + 1) i) [
      | inl less ↦ near k d less
      | inr most ↦ last (omega (arith, most, below)) (omega (arith, most, below))
    ]
  where
    last : k ≡ i - 1 → k + 1 ≡ i → R (get_or xs k d) (get_or xs (k + 1) d)
    last first second = rw (second, first, get_or_default xs (i - 1) d a (omega (arith, inside)), get_or_default xs i d b inside) (subst (λ y. R (get_or xs (i - 1) a) y) other (subst (λ x. R x b) is one))

pub one_pair : {X : Type 0} (R : X → X → Type 0) (xs : List X) (i : ℕ) (a b : X) → i < length xs → 1 ≤ i → a ≡ get_or xs (i - 1) a → b ≡ get_or xs i b → AllPairs R xs → R a b
one_pair R xs i a b inside some is other all =
    let both : R (get_or xs (i - 1) a) (get_or xs i a) = all (i - 1) i a (omega (arith, some)) inside in
    subst (λ x. R x b) (sym is) (subst (λ y. R (get_or xs (i - 1) a) y) (get_or_default xs i a b inside ∙ sym other) both)

-- ---- a set with one key more

pub members_more : (key : List (List ℕ)) (old new yielded : List (List (List ℕ))) → Inserts key old new → ((k : List (List ℕ)) → Contains old k ↔ Contains yielded k) → (k : List (List ℕ)) → Contains new k ↔ Contains (yielded ++ key ∷ []) k
members_more key old new yielded inserts members k = (
  λ there. elim ((inserts k).0 there) [
    | inl is ↦ Contains-append_right yielded (key ∷ []) k (0, omega arith, sym is)
    | inr before ↦ Contains-append_left yielded (key ∷ []) k ((members k).0 before)
  ],
  λ there. (inserts k).1 (elim (Contains-append_cases yielded (key ∷ []) k there) [
    | inl before ↦ inr ((members k).1 before)
    | inr last ↦ inl (only last)
  ]),
)
  where
    only : Contains (key ∷ []) k → k ≡ key
    only (zero, below, is) = sym is
    only (suc n, below, is) = absurd (omega (arith, below))
