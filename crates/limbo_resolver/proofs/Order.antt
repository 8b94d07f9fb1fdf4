-- the order of the ids, and what stands at an id
use Rattle.std.proofs.Common.{◌≡◌, ◌≢◌, ◌∙◌, inl, inr, zero, suc, ℕ, ◌+◌, ◌-◌, ◌*◌, ◌≤◌, ◌<◌, ℤ, pos, ◌<ℤ◌, FitsSigned, w32, to_z, of_z, Bool, true, false, T, ◌&&◌, cond, if◌then◌else◌, Ordering, Less, Equal, Greater, None, Result, Ok, Err, List, [], ◌∷◌, ◌++◌, length, get_or, slice_get, drop, zip, refl, sym, ap, subst, arith}
use Rattle.std.specs.Cmp.{int_chain, int_cmp_is, int_ranks}
use Rattle.std.specs.Int.Signed.{lt_z_yes, <ℤ_irrefl}
use Rattle.std.specs.List.{All, AllPairs, remove}
use Rattle.std.specs.List.Sorted.{IsBinarySearchResult, IsNonDecreasingBy, IsSearchInRange}
use Rattle.std.specs.Ordering.{MatchOrdering, int_cmp, int_eq, ordering_index}
use Rattle.std.specs.Prelude.{nat_lt, nat_le}
use Rattle.std.proofs.lemmas.Bool.{cases_lt, false_from_ne_true, lt-ltb}
use Rattle.std.proofs.lemmas.Bool.Decides.{Decides-int_eq}
use Rattle.std.proofs.lemmas.Int.{to_z-of_z}
use Rattle.std.proofs.lemmas.List.Edits.{length-remove}
use Rattle.std.proofs.lemmas.List.Elements.{All-cons, All-nil}
use Rattle.std.proofs.lemmas.List.Kept.{AllPairs-cons}
use Rattle.limbo_resolver.specs.Held.{Ascend, IsInOrder, IsPlace, firsts}
use Rattle.limbo_resolver.specs.Limbo.{Key, has, ids_of, kept, key_in, without}

-- an ascending list from a lower bound, without some of its ids, and with those of new listens
loosen : (low x : ℤ) (ids : List ℤ) (high : ℤ) → low <ℤ x → Ascend x ids high → Ascend low ids high
loosen low x [] high below up = int_chain low x high below up
loosen low x (id ∷ ids) high below up = (int_chain low x id below up.0, up.1)

pub kept_ascend : (wanted : List Key) (low : ℤ) (ids : List ℤ) (keys : List Key) (high : ℤ) → length ids ≤ length keys → Ascend low ids high → Ascend low (ids_of (kept wanted (zip ids keys))) high
kept_ascend wanted low [] keys high few up = up
kept_ascend wanted low (id ∷ ids) [] high few up = absurd (omega (arith, few))
kept_ascend wanted low (id ∷ ids) (key ∷ keys) high few up = go (has wanted key) (kept_ascend wanted id ids keys high (omega (arith, few)) up.1)
  where
    go : (b : Bool) → Ascend id (ids_of (kept wanted (zip ids keys))) high → Ascend low (ids_of (cond b ((id, key) ∷ kept wanted (zip ids keys)) (kept wanted (zip ids keys)))) high
    go true rest = (up.0, rest)
    go false rest = loosen low id (ids_of (kept wanted (zip ids keys))) high up.0 rest

less : (a b : ℕ) → a < b → pos a <ℤ pos b
less a b below = lt_z_yes (subst (λ t. T t) (sym (lt-ltb a b below)) tt)

two_more : (next n : ℕ) → next + 2 + 2 * n ≡ next + 2 * suc n
two_more next n = omega arith

none_more : (next : ℕ) → next ≡ next + 2 * 0
none_more next = omega arith

starts : (low : ℤ) (places next : ℕ) (queue : List Key) → low <ℤ pos next → Ascend low (ids_of (firsts places next queue)) (pos (next + 2 * length (firsts places next queue)))
starts low places next [] below = subst (λ n. low <ℤ pos n) (none_more next) below
starts low places next (key ∷ queue) below = go (nat_lt 0 places && nat_le next 2147483647) (starts (pos next) (places - 1) (next + 2) queue (less next (next + 2) (omega arith)))
  where
    rest : List (ℤ × Key)
    rest = firsts (places - 1) (next + 2) queue

    go : (b : Bool) → Ascend (pos next) (ids_of rest) (pos (next + 2 + 2 * length rest)) → Ascend low (ids_of (if b then (pos next, key) ∷ rest else [])) (pos (next + 2 * length (if b then (pos next, key) ∷ rest else [])))
    go true up = (below, subst (λ n. Ascend (pos next) (ids_of rest) (pos n)) (two_more next (length rest)) up)
    go false up = subst (λ n. low <ℤ pos n) (none_more next) below

pub started_ascend : (low : ℤ) (ids : List ℤ) (places next : ℕ) (queue : List Key) → Ascend low ids (pos next) → Ascend low (ids ++ ids_of (firsts places next queue)) (pos (next + 2 * length (firsts places next queue)))
started_ascend low [] places next queue up = starts low places next queue up
started_ascend low (id ∷ ids) places next queue up = (up.0, started_ascend id ids places next queue up.1)

pub removed_ascend : (low : ℤ) (ids : List ℤ) (high : ℤ) (at : ℕ) → at < length ids → Ascend low ids high → Ascend low (remove ids at) high
removed_ascend low [] high at inside up = absurd (omega (arith, inside))
removed_ascend low (id ∷ ids) high zero inside up = loosen low id ids high up.0 up.1
removed_ascend low (id ∷ ids) high (suc at) inside up = (up.0, removed_ascend id ids high at (omega (arith, inside)) up.1)

above : (low : ℤ) (ids : List ℤ) (high : ℤ) → Ascend low ids high → All (λ y. low <ℤ y) ids
above low [] high up = All-nil (λ y. low <ℤ y)
above low (id ∷ ids) high up = All-cons (λ y. low <ℤ y) id ids up.0 (λ k d inside. int_chain low id _ up.0 (above id ids high up.1 k d inside))

pub ascend_pairs : (low : ℤ) (ids : List ℤ) (high : ℤ) → Ascend low ids high → AllPairs (λ a b. a <ℤ b) ids
ascend_pairs low [] high up = λ i j d before inside. absurd (omega (arith, inside))
ascend_pairs low (id ∷ ids) high up = AllPairs-cons (λ a b. a <ℤ b) id ids (above id ids high up.1) (ascend_pairs id ids high up.1)

-- what a binary search finds
ranks : (x y : ℤ) (o : Ordering) → int_cmp x y ≡ o → MatchOrdering o (x <ℤ y) (x ≡ y) (y <ℤ x)
ranks x y o e = subst (λ o. MatchOrdering o (x <ℤ y) (x ≡ y) (y <ℤ x)) e (int_ranks x y)

index_most : (o : Ordering) → ordering_index o ≤ 2
index_most Less = omega arith
index_most Equal = omega arith
index_most Greater = omega arith

below_first : (x y : ℤ) → x <ℤ y → int_cmp x y ≡ Less
below_first x y below = sym (int_cmp_is x y Less below)

rising_from : (x y id : ℤ) (o : Ordering) → int_cmp y id ≡ o → x <ℤ y → ordering_index (int_cmp x id) ≤ ordering_index o
rising_from x y id Less is below = let l = below_first x id (int_chain x y id below (ranks y id Less is)) in rw l (omega arith)
rising_from x y id Equal is below = let l : int_cmp x id ≡ Less = ap (int_cmp x) (sym (ranks y id Equal is)) ∙ below_first x y below in rw l (omega arith)
rising_from x y id Greater is below = index_most (int_cmp x id)

rising : (ids : List ℤ) (id : ℤ) → AllPairs (λ a b. a <ℤ b) ids → IsNonDecreasingBy (λ y. ordering_index (int_cmp y id)) ids
rising ids id ascending i j d upto below = elim (cases_lt i j) [
  | inl before ↦ rising_from (get_or ids i d) (get_or ids j d) id _ refl (ascending i j d before below)
  | inr notbefore ↦ let same : i ≡ j = omega arith in subst (λ k. ordering_index (int_cmp (get_or ids k d) id) ≤ ordering_index (int_cmp (get_or ids j d) id)) (sym same) (omega arith)
]

pub searched : (ids : List ℤ) (id : ℤ) (found : Result ℕ ℕ) → AllPairs (λ a b. a <ℤ b) ids → IsSearchInRange found (length ids) → IsBinarySearchResult (λ y. int_cmp y id) ids found → IsPlace ids id found
searched ids id (Ok i) ascending within is = (within, λ d. ranks (get_or ids i d) id Equal (is d))
searched ids id (Err i) ascending within is = λ k d inside same.
    let split = is (rising ids id ascending) in
    elim (cases_lt k i) [
      | inl before ↦ <ℤ_irrefl (subst (λ z. z <ℤ id) same (ranks (get_or ids k d) id Less (split.0 k d (omega arith) before)))
      | inr notbefore ↦ <ℤ_irrefl (subst (λ z. id <ℤ z) same (ranks (get_or ids k d) id Greater (split.1 k d (omega arith) inside)))
    ]

-- as a caller sees it: a signed argument is written and read back on the way
pub placed : (ids slice : List ℤ) (id : ℤ) (found : Result ℕ ℕ) → slice ≡ ids → FitsSigned w32 id → (AllPairs (λ a b. a <ℤ b) slice → IsPlace slice (to_z w32 (of_z w32 id)) found) → AllPairs (λ a b. a <ℤ b) ids → IsPlace ids id found
placed ids slice id found same fits is ascending =
    subst (λ z. IsPlace ids z found) (to_z-of_z w32 id fits) (subst (λ s. IsPlace s (to_z w32 (of_z w32 id)) found) same (is (subst (λ s. AllPairs (λ a b. a <ℤ b) s) (sym same) ascending)))

other_id : (a id : ℤ) → a ≢ id → int_eq a id ≡ false
other_id a id apart = false_from_ne_true (int_eq a id) (λ same. apart ((Decides-int_eq a id).0 same))

apart_from : (a id : ℤ) → a <ℤ id → a ≢ id
apart_from a id below same = <ℤ_irrefl (subst (λ z. z <ℤ id) same below)

tail_place : (x : ℤ) (ids : List ℤ) (id : ℤ) (at : ℕ) → IsPlace (x ∷ ids) id (Ok (suc at)) → IsPlace ids id (Ok at)
tail_place x ids id at is = (omega (arith, is.0), λ d. is.1 d)

tail_ascends : (x : ℤ) (ids : List ℤ) → AllPairs (λ a b. a <ℤ b) (x ∷ ids) → AllPairs (λ a b. a <ℤ b) ids
tail_ascends x ids ascending = λ i j d before inside. ascending (suc i) (suc j) d (omega arith) (omega arith)

head_apart : (x : ℤ) (ids : List ℤ) (id : ℤ) (at : ℕ) → AllPairs (λ a b. a <ℤ b) (x ∷ ids) → IsPlace (x ∷ ids) id (Ok (suc at)) → int_eq x id ≡ false
head_apart x ids id at ascending is = other_id x id (apart_from x id (subst (λ z. x <ℤ z) (is.1 x) (ascending 0 (suc at) x (omega arith) is.0)))

-- the key of an id that was found
pub key_found : (ids : List ℤ) (keys : List Key) (id : ℤ) (at : ℕ) → AllPairs (λ a b. a <ℤ b) ids → length ids ≤ length keys → IsPlace ids id (Ok at) → slice_get keys at ≡ key_in (zip ids keys) id
key_found [] keys id at ascending few is = absurd (let inside = is.0 in omega (arith, inside))
key_found (x ∷ ids) [] id at ascending few is = absurd (omega (arith, few))
key_found (x ∷ ids) (key ∷ keys) id zero ascending few is = rw ((Decides-int_eq x id).1 (is.1 x)) refl
key_found (x ∷ ids) (key ∷ keys) id (suc at) ascending few is = rw (head_apart x ids id at ascending is) (key_found ids keys id at (tail_ascends x ids ascending) (omega (arith, few)) (tail_place x ids id at is))

-- what is left without it
pub without_found : (ids : List ℤ) (keys : List Key) (id : ℤ) (at : ℕ) → AllPairs (λ a b. a <ℤ b) ids → length ids ≤ length keys → IsPlace ids id (Ok at) → zip (remove ids at) (remove keys at) ≡ without (zip ids keys) id
without_found [] keys id at ascending few is = absurd (let inside = is.0 in omega (arith, inside))
without_found (x ∷ ids) [] id at ascending few is = absurd (omega (arith, few))
without_found (x ∷ ids) (key ∷ keys) id zero ascending few is = rw ((Decides-int_eq x id).1 (is.1 x)) refl
without_found (x ∷ ids) (key ∷ keys) id (suc at) ascending few is = rw (head_apart x ids id at ascending is) (ap (λ l. (x, key) ∷ l) (without_found ids keys id at (tail_ascends x ids ascending) (omega (arith, few)) (tail_place x ids id at is)))

pub rest_waits : (ids : List ℤ) (keys : List Key) (at : ℕ) → at < length ids → length ids ≤ length keys → drop (length (remove ids at)) (remove keys at) ≡ drop (length ids) keys
rest_waits [] keys at inside few = absurd (omega (arith, inside))
rest_waits (x ∷ ids) [] at inside few = absurd (omega (arith, few))
rest_waits (x ∷ ids) (key ∷ keys) zero inside few = refl
rest_waits (x ∷ ids) (key ∷ keys) (suc at) inside few = rest_waits ids keys at (omega (arith, inside)) (omega (arith, few))

-- an id that isn't there
tail_none : (x : ℤ) (ids : List ℤ) (id : ℤ) (at : ℕ) → IsPlace (x ∷ ids) id (Err at) → IsPlace ids id (Err at)
tail_none x ids id at is k d inside = is (suc k) d (omega (arith, inside))

pub key_none : (ids : List ℤ) (keys : List Key) (id : ℤ) (at : ℕ) → IsPlace ids id (Err at) → key_in (zip ids keys) id ≡ None
key_none [] keys id at is = refl
key_none (x ∷ ids) [] id at is = refl
key_none (x ∷ ids) (key ∷ keys) id at is = rw (other_id x id (is 0 x (omega arith))) (key_none ids keys id at (tail_none x ids id at is))

pub without_none : (ids : List ℤ) (keys : List Key) (id : ℤ) (at : ℕ) → IsPlace ids id (Err at) → without (zip ids keys) id ≡ zip ids keys
without_none [] keys id at is = refl
without_none (x ∷ ids) [] id at is = refl
without_none (x ∷ ids) (key ∷ keys) id at is = rw (other_id x id (is 0 x (omega arith))) (ap (λ l. (x, key) ∷ l) (without_none ids keys id at (tail_none x ids id at is)))

pub removed_in_order : (ids : List ℤ) (keys : List Key) (next at : ℕ) → at < length ids → IsInOrder ids keys next → IsInOrder (remove ids at) (remove keys at) next
removed_in_order ids keys next at inside order =
    let few = order.few in
    let one = length-remove ids at inside in
    let two = length-remove keys at (omega (arith, few, inside)) in
    record { few = omega (arith, few, one, two); ascending = removed_ascend (pos 0) ids (pos next) at inside order.ascending }
