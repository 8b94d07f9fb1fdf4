-- the free places are filled from the front of the queue, and new keys go behind the others
use Rattle.std.proofs.Common.{◌≡◌, ◌∙◌, ◌⊎◌, inl, inr, ℕ, suc, ◌+◌, ◌-◌, ◌*◌, ◌<◌, ℤ, pos, Bool, true, false, ◌&&◌, ◌||◌, not, cond, if◌then◌else◌, List, [], ◌∷◌, ◌++◌, length, get_or, take, drop, refl, sym, ap, subst, append_assoc, arith}
use Rattle.std.specs.List.{All, filter}
use Rattle.std.specs.Cmp.Lexicographic.{lists_equiv, nat_list_eq_equiv}
use Rattle.std.specs.Prelude.{nat_lt, nat_le}
use Rattle.std.proofs.lemmas.Bool.{lt-leb, lt-ltb, le-ltb, cases_lt, or_parts, or_from, false_from_ne_true}
use Rattle.std.proofs.lemmas.List.Sums.{fold_more}
use Rattle.std.proofs.Math.Seq.{take-append_seam}
use Rattle.document_keys.specs.KeySet.{IsAscending}
use Rattle.document_keys.specs.Order.{PathBefore}
use Rattle.document_keys.proofs.Lawful.{ordered}
use Rattle.std.proofs.lemmas.List.{append-nil, length-append}
use Rattle.limbo_resolver.specs.Held.{firsts, joined, with_one}
use Rattle.limbo_resolver.specs.Laws.{AreApart}
use Rattle.limbo_resolver.specs.Limbo.{Key, Limbo, filled, has, has_place, keys_of, same_key}
use Rattle.limbo_resolver.proofs.Members.{key_is, other_way}

-- the first of a queue, and what is left
pub firsts_front : (places next : ℕ) (queue : List Key) → keys_of (firsts places next queue) ++ drop (length (firsts places next queue)) queue ≡ queue
firsts_front places next [] = refl
firsts_front places next (key ∷ queue) = go (nat_lt 0 places && nat_le next 2147483647) (firsts_front (places - 1) (next + 2) queue)
  where
    go : (b : Bool) → keys_of (firsts (places - 1) (next + 2) queue) ++ drop (length (firsts (places - 1) (next + 2) queue)) queue ≡ queue → keys_of (if b then (pos next, key) ∷ firsts (places - 1) (next + 2) queue else []) ++ drop (length (if b then (pos next, key) ∷ firsts (places - 1) (next + 2) queue else [])) (key ∷ queue) ≡ key ∷ queue
    go true rest = ap (λ l. key ∷ l) rest
    go false rest = refl

pub no_firsts : (places next : ℕ) (queue : List Key) → (nat_lt 0 places && nat_le next 2147483647) ≡ false → firsts places next queue ≡ []
no_firsts places next [] full = refl
no_firsts places next (key ∷ queue) full = rw full refl

pub no_place : (places next : ℕ) → (places ≡ 0) ⊎ (2147483647 < next) → (nat_lt 0 places && nat_le next 2147483647) ≡ false
no_place places next (inl none) = ap (λ n. nat_lt 0 n && nat_le next 2147483647) none
no_place places next (inr past) = go (nat_lt 0 places) (lt-leb next 2147483647 past)
  where
    go : (b : Bool) → nat_le next 2147483647 ≡ false → (b && nat_le next 2147483647) ≡ false
    go true over = over
    go false over = refl

same_place : (count places next : ℕ) → places ≡ 100 - count → (nat_lt 0 places && nat_le next 2147483647) ≡ has_place count next
same_place count places next e = elim (cases_lt count 100) [
  | inl few ↦ (let some : 0 < places = omega arith in ap (λ b. b && nat_le next 2147483647) (lt-ltb 0 places some ∙ sym (lt-ltb count 100 few)))
  | inr many ↦ (let none : places ≡ 0 = omega arith in ap (λ b. b && nat_le next 2147483647) (ap (nat_lt 0) none ∙ sym (le-ltb count 100 (omega arith))))
]

-- what is left once these have started
abbrev begun : List (ℤ × Key) → List Key → ℕ → List (ℤ × Key) → Limbo
begun running queue next first = record { running = running ++ first; waiting = drop (length first) queue; next = next + 2 * length first }

two_more : (next n : ℕ) → next + 2 + 2 * n ≡ next + 2 * suc n
two_more next n = omega arith

one_more : (running : List (ℤ × Key)) (queue : List Key) (next : ℕ) (key : Key) (first : List (ℤ × Key)) → begun (running ++ (pos next, key) ∷ []) queue (next + 2) first ≡ begun running (key ∷ queue) next ((pos next, key) ∷ first)
one_more running queue next key first = λ i. record { running = append_assoc running ((pos next, key) ∷ []) first i; waiting = drop (length first) queue; next = two_more next (length first) i }

none_more : (next : ℕ) → next ≡ next + 2 * 0
none_more next = omega arith

none_begun : (running : List (ℤ × Key)) (queue : List Key) (next : ℕ) → record { running = running; waiting = queue; next = next } ≡ begun running queue next []
none_begun running queue next = λ i. record { running = sym (append-nil running) i; waiting = queue; next = none_more next i }

place_less : (running : List (ℤ × Key)) (next places : ℕ) (key : Key) → places ≡ 100 - length running → places - 1 ≡ 100 - length (running ++ (pos next, key) ∷ [])
place_less running next places key e = let l = length-append running ((pos next, key) ∷ []) in omega (arith, e, l)

-- the free places are filled with the first of the queue, and the rest waits
pub fills : (running : List (ℤ × Key)) (queue : List Key) (next places : ℕ) → places ≡ 100 - length running → filled running queue next ≡ begun running queue next (firsts places next queue)
fills running [] next places e = none_begun running [] next
fills running (key ∷ queue) next places e = go (nat_lt 0 places && nat_le next 2147483647) refl (fills (running ++ (pos next, key) ∷ []) queue (next + 2) (places - 1) (place_less running next places key e))
  where
    go : (b : Bool) → (nat_lt 0 places && nat_le next 2147483647) ≡ b → filled (running ++ (pos next, key) ∷ []) queue (next + 2) ≡ begun (running ++ (pos next, key) ∷ []) queue (next + 2) (firsts (places - 1) (next + 2) queue) → filled running (key ∷ queue) next ≡ begun running (key ∷ queue) next (firsts places next (key ∷ queue))
    go true room rest =
        let place : has_place (length running) next ≡ true = sym (same_place (length running) places next e) ∙ room in
        rw (place, room) (rest ∙ one_more running queue next key (firsts (places - 1) (next + 2) queue))
    go false full rest =
        let place : has_place (length running) next ≡ false = sym (same_place (length running) places next e) ∙ full in
        rw (place, full) (none_begun running (key ∷ queue) next)

-- where a key is left waiting, there is no place
pub waits : (running : List (ℤ × Key)) (queue : List Key) (next : ℕ) → 0 < length (filled running queue next).waiting → has_place (length (filled running queue next).running) (filled running queue next).next ≡ false
waits running [] next some = absurd (omega (arith, some))
waits running (key ∷ queue) next some = go (has_place (length running) next) refl (waits (running ++ (pos next, key) ∷ []) queue (next + 2)) some
  where
    more : Limbo
    more = filled (running ++ (pos next, key) ∷ []) queue (next + 2)

    full : Limbo
    full = record { running = running; waiting = key ∷ queue; next = next }

    go : (b : Bool) → has_place (length running) next ≡ b → (0 < length more.waiting → has_place (length more.running) more.next ≡ false) → 0 < length (if b then more else full).waiting → has_place (length (if b then more else full).running) (if b then more else full).next ≡ false
    go true place rest some = rest some
    go false none rest some = none

-- the new keys go behind the others
abbrev pub news : List Key → List Key → List Key
news keys wanted = filter (λ key. not (has keys key)) wanted

has_more : (keys : List Key) (key x : Key) → same_key x key ≡ false → has (keys ++ key ∷ []) x ≡ has keys x
has_more [] key x apart = rw apart refl
has_more (k ∷ keys) key x apart = ap (λ b. same_key x k || b) (has_more keys key x apart)

-- a key that isn't among those asked about makes no difference
news_more : (keys : List Key) (key : Key) (wanted : List Key) → has wanted key ≡ false → news (keys ++ key ∷ []) wanted ≡ news keys wanted
news_more keys key [] apart = refl
news_more keys key (x ∷ wanted) apart =
    let p = or_parts (same_key key x) (has wanted key) apart in
    rw (has_more keys key x (other_way key x p.0)) (rw (news_more keys key wanted p.1) refl)

pub joins : (keys wanted : List Key) → AreApart wanted → joined keys wanted ≡ keys ++ news keys wanted
joins keys [] apart = sym (append-nil keys)
joins keys (key ∷ wanted) apart = go (has keys key) (joins keys wanted apart.1) (joins (keys ++ key ∷ []) wanted apart.1)
  where
    go : (b : Bool) → joined keys wanted ≡ keys ++ news keys wanted → joined (keys ++ key ∷ []) wanted ≡ (keys ++ key ∷ []) ++ news (keys ++ key ∷ []) wanted → joined (if b then keys else keys ++ key ∷ []) wanted ≡ keys ++ cond (not b) (key ∷ news keys wanted) (news keys wanted)
    go true there new = there
    go false there new = new ∙ ap (λ l. (keys ++ key ∷ []) ++ l) (news_more keys key wanted apart.0) ∙ append_assoc keys (key ∷ []) (news keys wanted)

-- those that were there stay in front
joins_some : (keys wanted : List Key) → (more : List Key) × (joined keys wanted ≡ keys ++ more)
joins_some keys [] = ([], sym (append-nil keys))
joins_some keys (key ∷ wanted) = go (has keys key) (joins_some keys wanted) (joins_some (keys ++ key ∷ []) wanted)
  where
    go : (b : Bool) → ((more : List Key) × (joined keys wanted ≡ keys ++ more)) → ((more : List Key) × (joined (keys ++ key ∷ []) wanted ≡ (keys ++ key ∷ []) ++ more)) → (more : List Key) × (joined (if b then keys else keys ++ key ∷ []) wanted ≡ keys ++ more)
    go true one two = one
    go false one two = (key ∷ two.0, two.1 ∙ append_assoc keys (key ∷ []) two.0)

pub joined_front : (keys wanted : List Key) → take (length keys) (joined keys wanted) ≡ keys
joined_front keys wanted = let some = joins_some keys wanted in ap (take (length keys)) some.1 ∙ take-append_seam keys some.0

-- what is new is wanted
abbrev AllIn : List Key → List Key → Type 0
AllIn all [] = Unit {0}
AllIn all (x ∷ xs) = (has all x ≡ true) × AllIn all xs

in_more : (y : Key) (all xs : List Key) → AllIn all xs → AllIn (y ∷ all) xs
in_more y all [] within = tt
in_more y all (x ∷ xs) within = (ap (λ b. same_key x y || b) within.0 ∙ or_true (same_key x y), in_more y all xs within.1)
  where
    or_true : (b : Bool) → (b || true) ≡ true
    or_true true = refl
    or_true false = refl

in_itself : (xs : List Key) → AllIn xs xs
in_itself [] = tt
in_itself (x ∷ xs) = (ap (λ b. b || has xs x) ((lists_equiv nat_list_eq_equiv).refl x), in_more x xs xs (in_itself xs))

in_news : (all keys xs : List Key) → AllIn all xs → AllIn all (news keys xs)
in_news all keys [] within = tt
in_news all keys (x ∷ xs) within = go (has keys x) (in_news all keys xs within.1)
  where
    go : (b : Bool) → AllIn all (news keys xs) → AllIn all (cond (not b) (x ∷ news keys xs) (news keys xs))
    go true rest = rest
    go false rest = (within.0, rest)

kept_all : (all xs : List Key) → AllIn all xs → filter (has all) xs ≡ xs
kept_all all [] within = refl
kept_all all (x ∷ xs) within = rw within.0 (ap (λ l. x ∷ l) (kept_all all xs within.1))

pub news_wanted : (keys wanted : List Key) → filter (has wanted) (news keys wanted) ≡ news keys wanted
news_wanted keys wanted = kept_all wanted (news keys wanted) (in_news wanted keys wanted (in_itself wanted))

-- an ascending list has no key twice
pub apart : (keys : List Key) → IsAscending keys → AreApart keys
apart [] ascending = tt
apart (x ∷ xs) ascending = (none xs (λ k d inside. ascending 0 (suc k) d (omega arith) (omega arith)), apart xs (λ i j d before inside. ascending (suc i) (suc j) d (omega arith) (omega arith)))
  where
    other : (y : Key) → PathBefore x y → same_key x y ≡ false
    other y before = false_from_ne_true (same_key x y) (λ same. ordered.strict x (subst (PathBefore x) (sym (key_is x y same)) before))

    none : (ys : List Key) → All (PathBefore x) ys → has ys x ≡ false
    none [] below = refl
    none (y ∷ ys) below = or_from (same_key x y) (has ys x) (other y (below 0 y (omega arith))) (none ys (λ k d inside. below (suc k) d (omega arith)))

pub with_held : (keys : List Key) (key : Key) → has keys key ≡ true → with_one keys key ≡ keys
with_held keys key there = rw there refl

-- a step of the loop that puts new keys behind the others
pub join_step : (old now wanted : List Key) (i : ℕ) (key : Key) → i < length wanted → key ≡ get_or wanted i key → now ≡ joined old (take i wanted) → with_one now key ≡ joined old (take (i + 1) wanted)
join_step old now wanted i key inside at is = (λ j. with_one (is j) (at j)) ∙ sym (fold_more with_one old wanted i key inside)
