-- how many different items a list can have, and how many come before one of a list in order
use Rattle.std.proofs.Common.{◌≡◌, ◌≢◌, ◌∙◌, ◌⊎◌, ◌↔◌, inl, inr, ℕ, zero, suc, ◌<◌, ◌≤◌, Bool, List, [], ◌∷◌, length, get_or, take, nat_eq, remove, refl, sym, ap, subst, arith}
use Rattle.std.specs.Bool.{Decides, one_answer}
use Rattle.std.specs.Cmp.Lexicographic.{pointwise, pointwise_decides, bytes_decides}
use Rattle.std.specs.List.{All, AllPairs, Contains}
use Rattle.std.specs.List.Sorted.{IsPermutation}
use Rattle.std.proofs.lemmas.Bool.{cases_lt}
use Rattle.std.proofs.lemmas.List.{get_or-take, get_or_default, length-take}
use Rattle.std.proofs.lemmas.List.Elements.{All-head, All-tail}
use Rattle.std.proofs.lemmas.List.Sorted.{Contains-permutation, IsPermutation-remove, length_permutation}
use Rattle.std.proofs.lemmas.Map.Keys.{IsDistinct-IsPermutation, IsDistinct-from_apart, apart_from_distinct}
use Rattle.queries.proofs.Candidates.{false_from}

module _ {K : Type 0} where
  pub in_list : (xs : List K) (i : ℕ) (x : K) → i < length xs → get_or xs i x ≡ x → Contains xs x
  in_list xs i x inside is = (i, inside, is)

  first_at : (x : K) (xs : List K) (e : K) (k : ℕ) → k < length (x ∷ xs) → get_or (x ∷ xs) k e ≡ e → (x ≡ e) ⊎ Contains xs e
  first_at x xs e zero inside is = inl is
  first_at x xs e (suc k) inside is = inr (k, omega arith, is)

  pub first_or_rest : (x : K) (xs : List K) (e : K) → Contains (x ∷ xs) e → (x ≡ e) ⊎ Contains xs e
  first_or_rest x xs e there = first_at x xs e there.0 there.1 there.2

  pub pairs_tail : (R : K → K → Type 0) (x : K) (xs : List K) → AllPairs R (x ∷ xs) → AllPairs R xs
  pairs_tail R x xs pairs i j d before inside = pairs (suc i) (suc j) d (omega arith) (omega arith)

  pub pairs_head : (R : K → K → Type 0) (x : K) (xs : List K) (e : K) → AllPairs R (x ∷ xs) → Contains xs e → R x e
  pairs_head R x xs e pairs there = let inside = there.1 in subst (R x) there.2 (pairs 0 (suc there.0) e (omega arith) (omega arith))

  pub pairs_taken : (R : K → K → Type 0) (n : ℕ) (xs : List K) → AllPairs R xs → AllPairs R (take n xs)
  pairs_taken R n xs pairs i j d before inside =
      let long = length-take n xs in
      subst (λ x. R x (get_or (take n xs) j d)) (sym (get_or-take n xs i d (omega arith)))
      (subst (λ x. R (get_or xs i d) x) (sym (get_or-take n xs j d (omega arith))) (pairs i j d before (omega arith)))

  -- what is in a list is in what a removal of another item leaves
  left_over : (ys : List K) (i : ℕ) (x e : K) → i < length ys → x ≡ get_or ys i x → (x ≡ e → ⊥) → Contains ys e → Contains (remove ys i) e
  left_over ys i x e inside is apart there =
      elim (first_or_rest x (remove ys i) e (Contains-permutation ys (x ∷ remove ys i) e (IsPermutation-remove ys i x inside is) there)) [
        | inl same ↦ absurd (apart same)
        | inr rest ↦ rest
      ]

  -- different items of a list are no more than its items
  pub no_more_than : (xs ys : List K) → AllPairs ◌≢◌ xs → All (Contains ys) xs → length xs ≤ length ys
  no_more_than [] ys apart within = omega arith
  no_more_than (x ∷ xs) ys apart within =
      let there = All-head (Contains ys) x xs within in
      let inside = there.1 in
      let rest : All (Contains (remove ys there.0)) xs = λ k d below.
      left_over ys there.0 x (get_or xs k d) there.1 (sym there.2) (apart 0 (suc k) d (omega arith) (omega arith)) (All-tail (Contains ys) x xs within k d below) in
      let shorter = no_more_than xs (remove ys there.0) (pairs_tail ◌≢◌ x xs apart) rest in
      let long = length_permutation ys (x ∷ remove ys there.0) (IsPermutation-remove ys there.0 x there.1 (sym there.2)) in
      omega arith

  module _ (R : K → K → Type 0) (one_way : (x y : K) → R x y → R y x → ⊥) where
    -- what stands in order is different
    pub in_order_apart : (xs : List K) → AllPairs R xs → AllPairs ◌≢◌ xs
    in_order_apart xs pairs i j d before inside same =
        let ahead = pairs i j d before inside in
        one_way _ _ ahead (subst (λ x. R (get_or xs j d) x) (sym same) (subst (λ x. R x (get_or xs j d)) same ahead))

    -- in a list in order, what comes before an item stands before it
    stands_before : (xs : List K) (j : ℕ) (b f : K) → AllPairs R xs → j < length xs → get_or xs j b ≡ b → R f b → Contains xs f → Contains (take j xs) f
    stands_before xs j b f pairs inside is ahead there =
        let f_inside = there.1 in
        let same_b : get_or xs j f ≡ b = get_or_default xs j f b inside ∙ is in
        elim (cases_lt there.0 j) [
          | inl before ↦ let long = length-take j xs in (there.0, omega arith, get_or-take j xs there.0 f before ∙ there.2)
          | inr notbefore ↦ elim (cases_lt j there.0) [
            | inl after ↦ absurd (one_way f b ahead (subst (λ x. R x f) same_b (subst (R (get_or xs j f)) there.2 (pairs j there.0 f after f_inside))))
            | inr notafter ↦
                let here : there.0 ≡ j = omega arith in
                let same : f ≡ b = sym there.2 ∙ ap (λ n. get_or xs n f) here ∙ same_b in
                absurd (one_way f b ahead (subst (λ x. R b x) (sym same) (subst (λ x. R x b) same ahead)))
          ]
        ]

    -- so different ones are no more than its place
    pub no_more_before : (xs : List K) (j : ℕ) (b : K) (fs : List K) → AllPairs R xs → j < length xs → get_or xs j b ≡ b → AllPairs ◌≢◌ fs → All (Contains xs) fs → All (λ f. R f b) fs → length fs ≤ j
    no_more_before xs j b fs pairs inside is apart within ahead =
        let all : All (Contains (take j xs)) fs = λ k d below. stands_before xs j b (get_or fs k d) pairs inside is (ahead k d below) (within k d below) in
        let most = no_more_than fs (take j xs) apart all in
        let long = length-take j xs in
        omega arith

    moved : (x y : K) (xs ys : List K) (k : K) → x ≡ y → AllPairs R (x ∷ xs) → (Contains (x ∷ xs) k → Contains (y ∷ ys) k) → Contains xs k → Contains ys k
    moved x y xs ys k first px goes there =
        let inside = there.1 in
        elim (first_or_rest y ys k (goes (suc there.0, omega arith, there.2))) [
          | inl e ↦ let ahead = pairs_head R x xs k px there in
              absurd (one_way x k ahead (subst (λ z. R z x) (first ∙ e) (subst (λ z. R x z) (sym (first ∙ e)) ahead)))
          | inr rest ↦ rest
        ]

    -- lists in order with the same items are the same
    pub same_in_order : (xs ys : List K) → AllPairs R xs → AllPairs R ys → ((k : K) → Contains xs k ↔ Contains ys k) → xs ≡ ys
    same_in_order [] [] px py same = refl
    same_in_order [] (y ∷ ys) px py same = absurd (let none = ((same y).1 (0, omega arith, refl)).1 in omega arith)
    same_in_order (x ∷ xs) [] px py same = absurd (let none = ((same x).0 (0, omega arith, refl)).1 in omega arith)
    same_in_order (x ∷ xs) (y ∷ ys) px py same =
        let first : x ≡ y = elim (first_or_rest y ys x ((same x).0 (0, omega arith, refl))) [
          | inl e ↦ sym e
          | inr in_ys ↦ elim (first_or_rest x xs y ((same y).1 (0, omega arith, refl))) [
            | inl e ↦ e
            | inr in_xs ↦ absurd (one_way x y (pairs_head R x xs y px in_xs) (pairs_head R y ys x py in_ys))
          ]
        ] in
        let rest = same_in_order xs ys (pairs_tail R x xs px) (pairs_tail R y ys py) (λ k. (moved x y xs ys k first px (same k).0, moved y x ys xs k (sym first) py (same k).1)) in
        λ i. first i ∷ rest i

-- whether two keys are the same
abbrev pub same_key_test : List (List ℕ) → List (List ℕ) → Bool
same_key_test a b = pointwise (pointwise nat_eq) a b

pub same_key_decides : (a b : List (List ℕ)) → Decides (same_key_test a b) (a ≡ b)
same_key_decides a b = pointwise_decides bytes_decides a b

module _ {X : Type 0} (key : X → List (List ℕ)) where
  -- different keys stay so when their items change places
  pub apart_permuted : (xs ys : List X) → IsPermutation xs ys → AllPairs (λ x y. key x ≢ key y) xs → AllPairs (λ x y. key x ≢ key y) ys
  apart_permuted xs ys moves apart =
      let test = λ (x y : X). same_key_test (key x) (key y) in
      let decides : (x y : X) → Decides (test x y) (key x ≡ key y) = λ x y. same_key_decides (key x) (key y) in
      let flips : (x y : X) → test x y ≡ test y x = λ x y. one_answer {P = key x ≡ key y} (test x y) (test y x) (decides x y) ((λ yes. sym ((decides y x).0 yes)), (λ same. (decides y x).1 (sym same))) in
      let before = IsDistinct-from_apart test xs (λ i j d ahead inside. false_from _ (λ yes. apart i j d ahead inside ((decides _ _).0 yes))) in
      let after = IsDistinct-IsPermutation test flips xs ys moves before in
      λ i j d ahead inside same. let no = apart_from_distinct test ys i j d after ahead inside in let yes = (decides _ _).1 same in cc
