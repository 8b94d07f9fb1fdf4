-- ascending lists as sets: what a binary search finds in one, and what an insertion and a removal leave
use Rattle.std.proofs.Common.{◌≡◌, ◌≢◌, ◌∙◌, ◌↔◌, ◌⊎◌, inl, inr, ℕ, zero, suc, ◌+◌, ◌-◌, ◌<◌, ◌≤◌, Bool, IsTrue, Ordering, Less, Equal, Greater, Result, Ok, Err, MatchResult, List, [], ◌∷◌, length, get_or, take, drop, refl, sym, ap, subst, arith}
use Rattle.std.specs.Cmp.{tied_itself}
use Rattle.std.specs.List.{AllPairs, AllWithin, Contains, HoldsAt, insert, remove}
use Rattle.std.specs.List.Sorted.{IsBinarySearchResult, IsNonDecreasingBy, IsSearchInRange}
use Rattle.std.specs.Ordering.{ordering_index, ordering_reverse}
use Rattle.std.specs.Result.{is_ok}
use Rattle.std.proofs.lemmas.Bool.{cases_lt, cases_order}
use Rattle.std.proofs.lemmas.List.{take-append-drop}
use Rattle.std.proofs.lemmas.List.Edits.{get_or-insert_above, get_or-insert_at, get_or-insert_below, get_or-remove_above, get_or-remove_below, length-insert, length-remove}
use Rattle.std.proofs.lemmas.List.Elements.{Contains-append_cases, Contains-append_left, Contains-append_right}
use Rattle.document_keys.proofs.Order.{Computes}

reversed_greater : (o : Ordering) → o ≡ Greater → ordering_reverse o ≡ Less
reversed_greater Less e = cc
reversed_greater Equal e = cc
reversed_greater Greater e = refl

index_most : (o : Ordering) → ordering_index o ≤ 2
index_most Less = omega arith
index_most Equal = omega arith
index_most Greater = omega arith

module _ {A : Type 0} {R : A → A → Ordering} {Below : A → A → Type 0} (r : Computes R Below) where
  greater_below : (x y : A) → R x y ≡ Greater → Below y x
  greater_below x y e = r.below y x (r.total.antisymm y x ∙ reversed_greater (R x y) e)

  not_itself : (x y : A) → x ≡ y → Below x y → ⊥
  not_itself x y same below = let l = r.less x y below in let e = ap (λ z. R z y) same ∙ tied_itself r.total y in cc

  chain : (x y z : A) → Below x y → Below y z → Below x z
  chain x y z xy yz = r.below x z (r.total.trans x y z (r.less x y xy) (r.less y z yz))

  -- the answers of the comparison with a key rise along the list
  rising_from : (x y key : A) (o : Ordering) → R y key ≡ o → Below x y → ordering_index (R x key) ≤ ordering_index o
  rising_from x y key Less is below = let l = r.less x key (chain x y key below (r.below y key is)) in rw l (omega arith)
  rising_from x y key Equal is below = let l : R x key ≡ Less = ap (λ k. R x k) (sym (r.exact y key is)) ∙ r.less x y below in rw l (omega arith)
  rising_from x y key Greater is below = index_most (R x key)

  rising : (xs : List A) (key : A) → AllPairs Below xs → IsNonDecreasingBy (λ y. ordering_index (R y key)) xs
  rising xs key ascending i j d upto below =
      elim (cases_lt i j) [
        | inl before ↦ rising_from (get_or xs i d) (get_or xs j d) key _ refl (ascending i j d before below)
        | inr notbefore ↦ let same : i ≡ j = omega arith in subst (λ k. ordering_index (R (get_or xs k d) key) ≤ ordering_index (R (get_or xs j d) key)) (sym same) (omega arith)
      ]

  -- what the search finds
  pub searched : (xs : List A) (key : A) (found : Result ℕ ℕ) → AllPairs Below xs → IsSearchInRange found (length xs) → IsBinarySearchResult (λ y. R y key) xs found → MatchResult found (λ i. (i < length xs) × HoldsAt (λ y. y ≡ key) xs i) (λ i. (i ≤ length xs) × AllWithin (λ y. Below y key) xs 0 i × AllWithin (λ y. Below key y) xs i (length xs))
  searched xs key (Ok i) ascending within is = (within, λ d. r.exact (get_or xs i d) key (is d))
  searched xs key (Err i) ascending within is =
      let split = is (rising xs key ascending) in
      (within, λ k d low high. r.below (get_or xs k d) key (split.0 k d low high), λ k d low high. greater_below (get_or xs k d) key (split.1 k d low high))

  pub none_found : (xs : List A) (key : A) (i : ℕ) → AllWithin (λ y. Below y key) xs 0 i → AllWithin (λ y. Below key y) xs i (length xs) → Contains xs key → ⊥
  none_found xs key i below above there =
      elim (cases_lt there.0 i) [
        | inl before ↦ not_itself _ _ there.2 (below there.0 key (omega arith) before)
        | inr past ↦ not_itself _ _ (sym there.2) (above there.0 key past there.1)
      ]

  pub decides : (xs : List A) (key : A) (found : Result ℕ ℕ) → MatchResult found (λ i. (i < length xs) × HoldsAt (λ y. y ≡ key) xs i) (λ i. (i ≤ length xs) × AllWithin (λ y. Below y key) xs 0 i × AllWithin (λ y. Below key y) xs i (length xs)) → (answer : Bool) → answer ≡ is_ok found → IsTrue answer ↔ Contains xs key
  decides xs key (Ok i) there answer is = (λ yes. (i, there.0, there.1 key), λ has. is)
  decides xs key (Err i) there answer is = (λ yes. cc, λ has. absurd (none_found xs key i there.1 there.2 has))

  -- an insertion between what is below and what is above
  pub ascending-insert : (xs : List A) (p : ℕ) (key : A) → AllPairs Below xs → p ≤ length xs → AllWithin (λ y. Below y key) xs 0 p → AllWithin (λ y. Below key y) xs p (length xs) → AllPairs Below (insert xs p key)
  ascending-insert xs p key ascending within below above i j d before inside =
      let size = length-insert xs p key within in
      elim (cases_order j p) [
        | inl at ↦ rw (at, get_or-insert_at xs p key d within, get_or-insert_below xs p key d i (omega arith) within) (below i d (omega arith) (omega arith))
        | inr (inl low) ↦ rw (get_or-insert_below xs p key d j low within, get_or-insert_below xs p key d i (omega arith) within) (ascending i j d before (omega arith))
        | inr (inr high) ↦
            let up : get_or (insert xs p key) j d ≡ get_or xs (j - 1) d = ap (λ k. get_or (insert xs p key) k d) (let e : j ≡ j - 1 + 1 = omega arith in e) ∙ get_or-insert_above xs p key d (j - 1) (omega arith) within in
            rw up (elim (cases_order i p) [
              | inl at ↦ rw (at, get_or-insert_at xs p key d within) (above (j - 1) d (omega arith) (omega arith))
              | inr (inl low) ↦ rw (get_or-insert_below xs p key d i low within) (ascending i (j - 1) d (omega arith) (omega arith))
              | inr (inr past) ↦
                  let down : get_or (insert xs p key) i d ≡ get_or xs (i - 1) d = ap (λ k. get_or (insert xs p key) k d) (let e : i ≡ i - 1 + 1 = omega arith in e) ∙ get_or-insert_above xs p key d (i - 1) (omega arith) within in
                  rw down (ascending (i - 1) (j - 1) d (omega arith) (omega arith))
            ])
      ]

  one_more : (xs : List A) (p : ℕ) (key k : A) → Contains (key ∷ drop p xs) k → (k ≡ key) ⊎ Contains (drop p xs) k
  one_more xs p key k has = elim (Contains-append_cases (key ∷ []) (drop p xs) k has) [
    | inl only ↦ inl (let zero_at : only.0 ≡ 0 = omega arith in sym only.2 ∙ ap (λ i. get_or (key ∷ []) i k) zero_at)
    | inr rest ↦ inr rest
  ]

  pub members-insert : (xs : List A) (p : ℕ) (key k : A) → Contains (insert xs p key) k ↔ ((k ≡ key) ⊎ Contains xs k)
  members-insert xs p key k = (there, back)
    where
      there : Contains (insert xs p key) k → (k ≡ key) ⊎ Contains xs k
      there has = elim (Contains-append_cases (take p xs) (key ∷ drop p xs) k has) [
        | inl front ↦ inr (subst (λ ys. Contains ys k) (take-append-drop p xs) (Contains-append_left (take p xs) (drop p xs) k front))
        | inr rest ↦ elim (one_more xs p key k rest) [
          | inl same ↦ inl same
          | inr tail ↦ inr (subst (λ ys. Contains ys k) (take-append-drop p xs) (Contains-append_right (take p xs) (drop p xs) k tail))
        ]
      ]

      back : (k ≡ key) ⊎ Contains xs k → Contains (insert xs p key) k
      back (inl same) = Contains-append_right (take p xs) (key ∷ drop p xs) k (0, omega arith, sym same)
      back (inr has) = elim (Contains-append_cases (take p xs) (drop p xs) k (subst (λ ys. Contains ys k) (sym (take-append-drop p xs)) has)) [
        | inl front ↦ Contains-append_left (take p xs) (key ∷ drop p xs) k front
        | inr tail ↦ Contains-append_right (take p xs) (key ∷ drop p xs) k (Contains-append_right (key ∷ []) (drop p xs) k tail)
      ]

  -- a removal
  pub ascending-remove : (xs : List A) (p : ℕ) → AllPairs Below xs → p < length xs → AllPairs Below (remove xs p)
  ascending-remove xs p ascending within i j d before inside =
      let size = length-remove xs p within in
      elim (cases_lt j p) [
        | inl low ↦ rw (get_or-remove_below xs p d j low within, get_or-remove_below xs p d i (omega arith) within) (ascending i j d before (omega arith))
        | inr high ↦ rw (get_or-remove_above xs p d j high within) (elim (cases_lt i p) [
          | inl low ↦ rw (get_or-remove_below xs p d i low within) (ascending i (j + 1) d (omega arith) (omega arith))
          | inr past ↦ rw (get_or-remove_above xs p d i past within) (ascending (i + 1) (j + 1) d (omega arith) (omega arith))
        ])
      ]

  -- two places of an ascending list have different keys
  apart : (xs : List A) (i j : ℕ) (d k : A) → AllPairs Below xs → i < length xs → j < length xs → i ≢ j → get_or xs i d ≡ k → get_or xs j d ≡ k → ⊥
  apart xs i j d k ascending a b other here there =
      elim (cases_order i j) [
        | inl same ↦ other same
        | inr (inl before) ↦ not_itself _ _ (here ∙ sym there) (ascending i j d before b)
        | inr (inr past) ↦ not_itself _ _ (there ∙ sym here) (ascending j i d past a)
      ]

  pub members-remove : (xs : List A) (p : ℕ) (key k : A) → AllPairs Below xs → p < length xs → HoldsAt (λ y. y ≡ key) xs p → Contains (remove xs p) k ↔ ((k ≢ key) × Contains xs k)
  members-remove xs p key k ascending within at = (there, back)
    where
      at_place : (m : ℕ) → m < length xs → m ≢ p → get_or xs m k ≡ k → (k ≢ key) × Contains xs k
      at_place m inside other is = (λ same. apart xs m p k k ascending inside within other is (at k ∙ sym same), (m, inside, is))

      there : Contains (remove xs p) k → (k ≢ key) × Contains xs k
      there has =
          let size = length-remove xs p within in
          elim (cases_lt has.0 p) [
            | inl low ↦ at_place has.0 (omega arith) (omega arith) (sym (get_or-remove_below xs p k has.0 low within) ∙ has.2)
            | inr high ↦ at_place (has.0 + 1) (omega arith) (omega arith) (sym (get_or-remove_above xs p k has.0 high within) ∙ has.2)
          ]

      back : (k ≢ key) × Contains xs k → Contains (remove xs p) k
      back (other, has) =
          let size = length-remove xs p within in
          elim (cases_order has.0 p) [
            | inl same ↦ absurd (other (sym has.2 ∙ ap (λ i. get_or xs i k) same ∙ at k))
            | inr (inl low) ↦ (has.0, omega arith, get_or-remove_below xs p k has.0 low within ∙ has.2)
            | inr (inr high) ↦ (has.0 - 1, omega arith, get_or-remove_above xs p k (has.0 - 1) (omega arith) within ∙ ap (λ i. get_or xs i k) (let e : has.0 - 1 + 1 ≡ has.0 = omega arith in e) ∙ has.2)
          ]

  pub members-kept : (xs : List A) (key k : A) (p : ℕ) → AllWithin (λ y. Below y key) xs 0 p → AllWithin (λ y. Below key y) xs p (length xs) → Contains xs k ↔ ((k ≢ key) × Contains xs k)
  members-kept xs key k p below above = (λ has. (λ same. none_found xs key p below above (subst (Contains xs) same has), has), λ both. both.1)

  pub members-there : (xs : List A) (key k : A) → Contains xs key → Contains xs k ↔ ((k ≡ key) ⊎ Contains xs k)
  members-there xs key k there = (λ has. inr has, λ either. elim either [ inl same ↦ subst (Contains xs) (sym same) there | inr has ↦ has ])

  -- the same of the slice that was searched
  pub searched_slice : (slice xs : List A) (key : A) (found : Result ℕ ℕ) → slice ≡ xs → AllPairs Below xs → IsSearchInRange found (length slice) → IsBinarySearchResult (λ y. R y key) slice found → MatchResult found (λ i. (i < length xs) × HoldsAt (λ y. y ≡ key) xs i) (λ i. (i ≤ length xs) × AllWithin (λ y. Below y key) xs 0 i × AllWithin (λ y. Below key y) xs i (length xs))
  searched_slice slice xs key found same ascending within is = searched xs key found ascending (subst (λ ys. IsSearchInRange found (length ys)) same within) (subst (λ ys. IsBinarySearchResult (λ y. R y key) ys found) same is)

  -- the members of a list, one by one
  first_or_rest : (x : A) (xs : List A) (k : A) → Contains (x ∷ xs) k → (x ≡ k) ⊎ Contains xs k
  first_or_rest x xs k there = place there.0 there.1 there.2
    where
      place : (i : ℕ) → i < length (x ∷ xs) → get_or (x ∷ xs) i k ≡ k → (x ≡ k) ⊎ Contains xs k
      place zero inside is = inl is
      place (suc i) inside is = inr (i, omega arith, is)

  in_rest : (x : A) (xs : List A) (k : A) → Contains xs k → Contains (x ∷ xs) k
  in_rest x xs k there = let inside = there.1 in (suc there.0, omega arith, there.2)

  at_first : (x : A) (xs : List A) → Contains (x ∷ xs) x
  at_first x xs = (0, omega arith, refl)

  above_first : (x : A) (xs : List A) (k : A) → AllPairs Below (x ∷ xs) → Contains xs k → Below x k
  above_first x xs k ascending there = let inside = there.1 in subst (Below x) there.2 (ascending 0 (suc there.0) k (omega arith) (omega arith))

  rest_ascends : (x : A) (xs : List A) → AllPairs Below (x ∷ xs) → AllPairs Below xs
  rest_ascends x xs ascending i j d before inside = ascending (suc i) (suc j) d (omega arith) (omega arith)

  same_first : (x y : A) (xs ys : List A) → AllPairs Below (x ∷ xs) → AllPairs Below (y ∷ ys) → ((k : A) → Contains (x ∷ xs) k ↔ Contains (y ∷ ys) k) → x ≡ y
  same_first x y xs ys ax ay same =
      elim (first_or_rest y ys x ((same x).0 (at_first x xs))) [
        | inl e ↦ sym e
        | inr in_ys ↦ elim (first_or_rest x xs y ((same y).1 (at_first y ys))) [
          | inl e ↦ e
          | inr in_xs ↦ absurd (not_itself x x refl (chain x y x (above_first x xs y ax in_xs) (above_first y ys x ay in_ys)))
        ]
      ]

  moved : (x y : A) (xs ys : List A) (k : A) → x ≡ y → AllPairs Below (x ∷ xs) → (Contains (x ∷ xs) k → Contains (y ∷ ys) k) → Contains xs k → Contains ys k
  moved x y xs ys k first ax goes there =
      elim (first_or_rest y ys k (goes (in_rest x xs k there))) [ inl e ↦ absurd (not_itself x k (first ∙ e) (above_first x xs k ax there)) | inr rest ↦ rest ]

  -- ascending lists with the same members are the same
  pub alike : (xs ys : List A) → AllPairs Below xs → AllPairs Below ys → ((k : A) → Contains xs k ↔ Contains ys k) → xs ≡ ys
  alike [] [] ax ay same = refl
  alike [] (y ∷ ys) ax ay same = absurd (let none = ((same y).1 (at_first y ys)).1 in omega arith)
  alike (x ∷ xs) [] ax ay same = absurd (let none = ((same x).0 (at_first x xs)).1 in omega arith)
  alike (x ∷ xs) (y ∷ ys) ax ay same =
      let first = same_first x y xs ys ax ay same in
      let rest = alike xs ys (rest_ascends x xs ax) (rest_ascends y ys ay) (λ k. (moved x y xs ys k first ax (same k).0, moved y x ys xs k (sym first) ay (same k).1)) in
      λ i. first i ∷ rest i
