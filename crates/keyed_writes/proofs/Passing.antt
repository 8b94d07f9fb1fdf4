-- going over the writes of one key
use Rattle.std.proofs.Common.{◌≡◌, ◌∙◌, ◌+◌, ◌-◌, ◌<◌, ◌≤◌, ℕ, zero, suc, true, false, List, [], ◌∷◌, length, get_or, ap, subst, arith}
use Rattle.std.proofs.lemmas.List.{get_or_default}
use Rattle.document_keys.specs.KeySet.{is_key}
use Rattle.document_keys.proofs.Exact.{key_is}
use Rattle.mutations.specs.declared.write.Write.{Write}
use Rattle.keyed_writes.specs.Keyed.{IsNext}
use Rattle.mutations.specs.Written.{written_key}

-- some write, where there is a place
pub first_of : (xs : List Write) (i : ℕ) → i < length xs → Write
first_of [] i below = absurd (omega (arith, below))
first_of (x ∷ xs) i below = x

-- what stays the same over a write of another key stays so up to the next place of the key
pub same_up_to : {A : Type 0} (g : ℕ → A) (writes : List Write) (key : List (List ℕ)) (from place : ℕ) → IsNext writes key from place
    → ((i : ℕ) (w : Write) → i < length writes → w ≡ get_or writes i w → is_key (written_key w) key ≡ false → g i ≡ g (i + 1)) → g from ≡ g place
same_up_to g writes key from place next over = steps (place - from) from (omega arith) (let b = next.behind in omega (arith, b))
  where
    passed : (i : ℕ) → from ≤ i → i < place → g i ≡ g (i + 1)
    passed i behind before =
        let under : i < length writes = let w = next.within in omega (arith, w, before) in
        let w = get_or writes i (first_of writes i under) in
        over i w under (get_or_default writes i (first_of writes i under) w under) (next.passed i (first_of writes i under) behind before)

    steps : (n at : ℕ) → from ≤ at → at + n ≡ place → g at ≡ g place
    steps zero at behind is = ap g (let same : at ≡ place = omega (arith, is) in same)
    steps (suc n) at behind is = passed at behind (omega (arith, is)) ∙ steps n (at + 1) (omega (arith, behind)) (omega (arith, is))

-- the next place of the key of a write is that of each key that it has
pub next_at : (writes : List Write) (key : List (List ℕ)) (w : Write) (from place : ℕ) → is_key (written_key w) key ≡ true → IsNext writes (written_key w) from place → IsNext writes key from place
next_at writes key w from place named next = subst (λ k. IsNext writes k from place) (key_is (written_key w) key named) next
