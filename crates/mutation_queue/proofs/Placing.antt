-- the places of batches, and what is done to lists of them
use Rattle.std.proofs.Common.{◌≡◌, ◌∙◌, ◌↔◌, ◌||◌, ◌<◌, ◌≤◌, ◌+◌, ◌-◌, ℕ, zero, suc, Bool, true, false, cond, List, [], ◌∷◌, ◌++◌, length, drop, Option, Some, None, nat_eq, nat_lt, inl, inr, refl, sym, ap, subst, append_assoc, append-nil, add-zero, arith}
use Rattle.std.specs.List.{All, Contains, slice_get, filter_map, cons_option}
use Rattle.std.specs.Option.{is_some, option_map_or, unwrap_or}
use Rattle.std.proofs.Math.Seq.{drop-nil}
use Rattle.std.proofs.lemmas.Bool.{eq-eqb, ne_eqb, le-ltb, lt-ltb}
use Rattle.std.proofs.lemmas.List.Elements.{All-append, All-cons, All-drop, All-head, All-nil, All-tail, Contains-append_cases, Contains-append_left, Contains-append_right}
use Rattle.std.proofs.lemmas.List.Folds.{list_any-append}
use Rattle.document_keys.specs.KeySet.{is_key}
use Rattle.mutations.specs.declared.batch.Batch.{Batch}
use Rattle.mutation_queue.specs.Places.{ends_in, is_among, last_of, with_place, without_place}
use Rattle.mutation_queue.specs.Queue.{keys_of, named_keys, names, naming, places_of}
use Rattle.mutation_queue.proofs.Tables.{one_key, same_itself}

-- ---- the last of some places

pub last_at : (ps : List ℕ) → slice_get ps (length ps - 1) ≡ last_of ps
last_at [] = refl
last_at (p ∷ []) = refl
last_at (p ∷ (q ∷ qs)) = ap (λ n. slice_get (p ∷ (q ∷ qs)) n) one ∙ ap (λ n. slice_get (q ∷ qs) n) two ∙ last_at (q ∷ qs)
  where
    one : length (p ∷ (q ∷ qs)) - 1 ≡ suc (length qs)
    one = omega arith

    two : length qs ≡ length (q ∷ qs) - 1
    two = omega arith

pub last_more : (ps : List ℕ) (place : ℕ) → last_of (ps ++ place ∷ []) ≡ Some place
last_more [] place = refl
last_more (p ∷ ps) place = ap (λ o. Some (unwrap_or o p)) (last_more ps place)

-- what holds of each holds of the last
pub all_last : (P : ℕ → Type 0) (p : ℕ) (ps : List ℕ) → All P (p ∷ ps) → P (unwrap_or (last_of ps) p)
all_last P p [] all = All-head P p [] all
all_last P p (q ∷ qs) all = all_last P q qs (All-tail P p (q ∷ qs) all)

ends_not : (place : ℕ) (ps : List ℕ) → All (λ p. p < place) ps → ends_in place ps ≡ false
ends_not place [] all = refl
ends_not place (p ∷ ps) all = let last = all_last (λ x. x < place) p ps all in ne_eqb (unwrap_or (last_of ps) p) place (λ same. absurd (omega (arith, last, same)))

-- a place behind the others, for the first time and again
pub placed : (place : ℕ) (ps : List ℕ) → All (λ p. p < place) ps → with_place place ps ≡ ps ++ place ∷ []
placed place ps all = ap (λ b. cond b ps (ps ++ place ∷ [])) (ends_not place ps all)

pub ends_after : (place : ℕ) (ps : List ℕ) → ends_in place (ps ++ place ∷ []) ≡ true
ends_after place ps = ap (λ o. option_map_or (λ p. nat_eq p place) o false) (last_more ps place) ∙ eq-eqb place place refl

pub placed_again : (place : ℕ) (ps : List ℕ) → with_place place (ps ++ place ∷ []) ≡ ps ++ place ∷ []
placed_again place ps = ap (λ b. cond b (ps ++ place ∷ []) ((ps ++ place ∷ []) ++ place ∷ [])) (ends_after place ps)

-- a place that was taken out isn't there again
not_first : (place : ℕ) (ps : List ℕ) → All (λ p. place < p) ps → without_place place ps ≡ ps
not_first place [] all = refl
not_first place (p ∷ ps) all = let above = All-head (λ x. place < x) p ps all in ap (λ b. cond b ps (p ∷ ps)) (ne_eqb p place (λ same. absurd (omega (arith, above, same))))

pub gone_again : (place : ℕ) (ps : List ℕ) → All (λ p. place < p) (drop 1 ps) → without_place place (without_place place ps) ≡ without_place place ps
gone_again place [] all = refl
gone_again place (p ∷ ps) all = by (nat_eq p place) refl
  where
    by : (b : Bool) → nat_eq p place ≡ b → without_place place (cond b ps (p ∷ ps)) ≡ cond b ps (p ∷ ps)
    by true e = not_first place ps all
    by false e = ap (λ b. cond b ps (p ∷ ps)) e

-- ---- the places of batches

-- where the first batch comes after the others
shifted : (at more : ℕ) (bs : List Batch) (key : List (List ℕ)) → at ≡ more → places_of at bs key ≡ places_of more bs key
shifted at more bs key same = ap (λ n. places_of n bs key) same

pub places-more : (at : ℕ) (bs : List Batch) (b : Batch) (key : List (List ℕ)) (place : ℕ) → place ≡ at + length bs → places_of at (bs ++ b ∷ []) key ≡ places_of at bs key ++ cond (names key b) (place ∷ []) []
places-more at [] b key place is = append-nil (cond (names key b) (at ∷ []) []) ∙ ap (λ n. cond (names key b) (n ∷ []) []) (let same : at ≡ place = omega (arith, is) in same)
places-more at (c ∷ cs) b key place is =
    ap (λ l. cond (names key c) (at ∷ []) [] ++ l) (places-more (at + 1) cs b key place (omega (arith, is))) ∙ sym (append_assoc (cond (names key c) (at ∷ []) []) (places_of (at + 1) cs key) (cond (names key b) (place ∷ []) []))

pub none_before : (at : ℕ) (bs : List Batch) (key : List (List ℕ)) → All (λ p. at ≤ p) (places_of at bs key)
none_before at [] key = All-nil (λ p. at ≤ p)
none_before at (b ∷ bs) key = All-append (λ p. at ≤ p) (cond (names key b) (at ∷ []) []) (places_of (at + 1) bs key) (here (names key b)) (λ i d below. let rest = none_before (at + 1) bs key i d below in omega (arith, rest))
  where
    here : (c : Bool) → All (λ p. at ≤ p) (cond c (at ∷ []) [])
    here true = All-cons (λ p. at ≤ p) at [] (omega arith) (All-nil (λ p. at ≤ p))
    here false = All-nil (λ p. at ≤ p)

pub none_past : (at : ℕ) (bs : List Batch) (key : List (List ℕ)) (end : ℕ) → at + length bs ≤ end → All (λ p. p < end) (places_of at bs key)
none_past at [] key end within = All-nil (λ p. p < end)
none_past at (b ∷ bs) key end within = All-append (λ p. p < end) (cond (names key b) (at ∷ []) []) (places_of (at + 1) bs key) (here (names key b)) (none_past (at + 1) bs key end (omega (arith, within)))
  where
    here : (c : Bool) → All (λ p. p < end) (cond c (at ∷ []) [])
    here true = All-cons (λ p. p < end) at [] (omega (arith, within)) (All-nil (λ p. p < end))
    here false = All-nil (λ p. p < end)

-- behind its first batch a key has only later places
pub later : (at : ℕ) (bs : List Batch) (key : List (List ℕ)) → All (λ p. at < p) (drop 1 (places_of at bs key))
later at [] key = subst (All (λ p. at < p)) (sym (drop-nil 1)) (All-nil (λ p. at < p))
later at (b ∷ bs) key = by (names key b)
  where
    rest : All (λ p. at < p) (places_of (at + 1) bs key)
    rest = λ i d below. let low = none_before (at + 1) bs key i d below in omega (arith, low)

    by : (c : Bool) → All (λ p. at < p) (drop 1 (cond c (at ∷ []) [] ++ places_of (at + 1) bs key))
    by true = rest
    by false = All-drop (λ p. at < p) 1 (places_of (at + 1) bs key) rest

-- the first batch leaves
pub left : (at : ℕ) (b : Batch) (bs : List Batch) (key : List (List ℕ)) → cond (names key b) (without_place at (places_of at (b ∷ bs) key)) (places_of at (b ∷ bs) key) ≡ places_of (at + 1) bs key
left at b bs key = by (names key b)
  where
    by : (c : Bool) → cond c (without_place at (cond c (at ∷ []) [] ++ places_of (at + 1) bs key)) (cond c (at ∷ []) [] ++ places_of (at + 1) bs key) ≡ places_of (at + 1) bs key
    by true = ap (λ c. cond c (places_of (at + 1) bs key) (at ∷ places_of (at + 1) bs key)) (eq-eqb at at refl)
    by false = refl

-- ---- whether a key is among others

only : (k q : List (List ℕ)) → Contains (k ∷ []) q → k ≡ q
only k q (zero, below, is) = is
only k q (suc i, below, is) = absurd (omega arith)

or_true : (a : Bool) → (a || true) ≡ true
or_true true = refl
or_true false = refl

in_among : (q : List (List ℕ)) (keys : List (List (List ℕ))) → Contains keys q → is_among keys q ≡ true
in_among q [] there = absurd (omega (arith, there.1))
in_among q (k ∷ keys) there =
    elim (Contains-append_cases (k ∷ []) keys q there) [
      | inl here ↦ ap (λ b. b || is_among keys q) (subst (λ x. is_key x q ≡ true) (sym (only k q here)) (same_itself q))
      | inr behind ↦ ap (λ b. is_key k q || b) (in_among q keys behind) ∙ or_true (is_key k q)
    ]

among_in : (q : List (List ℕ)) (keys : List (List (List ℕ))) → is_among keys q ≡ true → Contains keys q
among_in q [] is = cc
among_in q (k ∷ keys) is = by (is_key k q) refl (among_in q keys) is
  where
    by : (b : Bool) → is_key k q ≡ b → (is_among keys q ≡ true → Contains keys q) → (b || is_among keys q) ≡ true → Contains (k ∷ keys) q
    by true e rest told = Contains-append_left (k ∷ []) keys q (0, omega arith, one_key k q e)
    by false e rest told = Contains-append_right (k ∷ []) keys q (rest told)

pub among-append : (xs ys : List (List (List ℕ))) (key : List (List ℕ)) → is_among (xs ++ ys) key ≡ (is_among xs key || is_among ys key)
among-append xs ys key = list_any-append (λ k. is_key k key) xs ys

-- a test of a list's keys
pub among_exactly : (b : Bool) (keys : List (List (List ℕ))) (key : List (List ℕ)) → b ≡ is_among keys key → (b ≡ true) ↔ Contains keys key
among_exactly b keys key is = (λ yes. among_in key keys (sym is ∙ yes), λ there. is ∙ in_among key keys there)

some_more : (c : Bool) (at : ℕ) (ps : List ℕ) → is_some (last_of (cond c (at ∷ []) [] ++ ps)) ≡ (c || is_some (last_of ps))
some_more true at ps = refl
some_more false at ps = refl

-- a key has a place where a batch names it
pub has_places : (at : ℕ) (bs : List Batch) (key : List (List ℕ)) → is_some (last_of (places_of at bs key)) ≡ is_among (named_keys bs) key
has_places at [] key = refl
has_places at (b ∷ bs) key = some_more (names key b) at (places_of (at + 1) bs key) ∙ ap (λ c. names key b || c) (has_places (at + 1) bs key) ∙ sym (among-append (keys_of b.writes) (named_keys bs) key)

above_last : (at : ℕ) (c : Bool) (ps : List ℕ) → All (λ p. at + 1 ≤ p) ps → option_map_or (λ p. nat_lt at p) (last_of (cond c (at ∷ []) [] ++ ps)) false ≡ is_some (last_of ps)
above_last at true [] all = le-ltb at at (omega arith)
above_last at false [] all = refl
above_last at true (p ∷ ps) all = let last = all_last (λ x. at + 1 ≤ x) p ps all in lt-ltb at (unwrap_or (last_of ps) p) (omega (arith, last))
above_last at false (p ∷ ps) all = let last = all_last (λ x. at + 1 ≤ x) p ps all in lt-ltb at (unwrap_or (last_of ps) p) (omega (arith, last))

-- its last place is behind the first batch where another one names it
pub last_behind : (at : ℕ) (bs : List Batch) (key : List (List ℕ)) → option_map_or (λ p. nat_lt at p) (last_of (places_of at bs key)) false ≡ is_among (named_keys (drop 1 bs)) key
last_behind at [] key = sym (ap (λ l. is_among (named_keys l) key) (drop-nil 1))
last_behind at (b ∷ bs) key = above_last at (names key b) (places_of (at + 1) bs key) (none_before (at + 1) bs key) ∙ has_places (at + 1) bs key

-- ---- the batches at a key's places

picked : (pick : ℕ → Option Batch) (c : Bool) (at : ℕ) (ps : List ℕ) → filter_map pick (cond c (at ∷ []) [] ++ ps) ≡ cond c (cons_option (pick at) (filter_map pick ps)) (filter_map pick ps)
picked pick true at ps = refl
picked pick false at ps = refl

either : (c : Bool) (l : List Batch) → cond c l l ≡ l
either true l = refl
either false l = refl

-- where so many of the batches are passed over, and each other is lent for its place
pub picks : (pick : ℕ → Option Batch) (at : ℕ) (bs : List Batch) (key : List (List ℕ)) (past : ℕ)
    → ((k : ℕ) → k < past → k < length bs → pick (at + k) ≡ None) → ((k : ℕ) → past ≤ k → k < length bs → pick (at + k) ≡ slice_get bs k)
    → filter_map pick (places_of at bs key) ≡ naming key (drop past bs)
picks pick at [] key past over lent = sym (ap (naming key) (drop-nil past))
picks pick at (b ∷ bs) key zero over lent =
    let here : pick at ≡ Some b = ap pick (sym (add-zero at)) ∙ lent 0 (omega arith) (omega arith) in
    let rest = picks pick (at + 1) bs key zero (λ k below within. absurd (omega (arith, below))) (λ k from within. next k (let same : (at + 1) + k ≡ at + suc k = omega arith in same) (lent (suc k) (omega arith) (omega (arith, within)))) in
    picked pick (names key b) at (places_of (at + 1) bs key) ∙ ap (λ o. cond (names key b) (cons_option o (filter_map pick (places_of (at + 1) bs key))) (filter_map pick (places_of (at + 1) bs key))) here ∙ ap (λ l. cond (names key b) (b ∷ l) l) rest
  where
    next : (k : ℕ) → (at + 1) + k ≡ at + suc k → pick (at + suc k) ≡ slice_get bs k → pick ((at + 1) + k) ≡ slice_get bs k
    next k same is = ap pick same ∙ is
picks pick at (b ∷ bs) key (suc past) over lent =
    let here : pick at ≡ None = ap pick (sym (add-zero at)) ∙ over 0 (omega arith) (omega arith) in
    let rest = picks pick (at + 1) bs key past
    (λ k below within. ap pick (let same : (at + 1) + k ≡ at + suc k = omega arith in same) ∙ over (suc k) (omega (arith, below)) (omega (arith, within)))
    (λ k from within. ap pick (let same : (at + 1) + k ≡ at + suc k = omega arith in same) ∙ lent (suc k) (omega (arith, from)) (omega (arith, within))) in
    picked pick (names key b) at (places_of (at + 1) bs key) ∙ ap (λ o. cond (names key b) (cons_option o (filter_map pick (places_of (at + 1) bs key))) (filter_map pick (places_of (at + 1) bs key))) here ∙ either (names key b) (filter_map pick (places_of (at + 1) bs key)) ∙ rest
