-- What stands of limbo listens from the first call on.
use Rattle.std.specs.Prelude.{◌≡◌, ℕ, ◌+◌, ◌%◌, ◌≤◌, ℤ, pos, false, List, [], ◌∷◌, length}
use Rattle.document_keys.specs.KeySet.{IsAscending}
use Rattle.limbo_resolver.specs.Limbo.{Key, Limbo, has, held, started, updated, without}

-- from one number on the ids are odd and ascend, to below another, and none is above 2,147,483,647
abbrev pub Rises : ℕ → List (ℤ × Key) → ℕ → Type 0
Rises low [] high = low ≤ high
Rises low (p ∷ ps) high = (n : ℕ) × (p.0 ≡ pos n) × (n % 2 ≡ 1) × (low ≤ n) × (n ≤ 2147483647) × Rises (n + 1) ps high

-- no two keys are equal
abbrev pub AreApart : List Key → Type 0
AreApart [] = Unit {0}
AreApart (key ∷ keys) = (has keys key ≡ false) × AreApart keys

-- The ids that run are odd, ascend, and are below the next one, which is odd; at most 100 listens run; and no key runs or waits
-- twice.
pub record IsSound (s : Limbo) : Type 0 where
  pub odd : s.next % 2 ≡ 1
  pub ids : Rises 0 s.running s.next
  pub few : length s.running ≤ 100
  pub apart : AreApart (held s)

-- Listens are sound at first and stay so; and the ids of those that start were never given before, since they begin at the
-- next one and go on to below the next one then.
pub record ListensStaySound : Type 0 where
  pub first : (first : ℕ) → first % 2 ≡ 1 → IsSound (record { running = []; waiting = []; next = first })
  pub update : (wanted : List Key) (s : Limbo) → IsAscending wanted → IsSound s → IsSound (updated wanted s)
  pub refusal : (id : ℤ) (s : Limbo) → IsSound s → IsSound (record s { running = without s.running id })
  pub fresh : (wanted : List Key) (s : Limbo) → IsSound s → Rises s.next (started wanted s) (updated wanted s).next
