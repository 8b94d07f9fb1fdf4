-- members of lists, and ascending lists
use Rattle.std.proofs.Common.{◌≡◌, ◌∙◌, ◌↔◌, ◌⊎◌, inl, inr, ℕ, suc, List, [], ◌∷◌, ◌++◌, ◌+◌, append-nil, get_or, length, take, ◌<◌, Option, Some, None, refl, sym, ap, subst, arith}
use Rattle.std.specs.List.{All, AllPairs, Contains, cons_option, filter_map}
use Rattle.std.proofs.lemmas.List.Elements.{All-contains, Contains-get_or, filter_map-append}
use Rattle.std.proofs.lemmas.List.{take_more}
use Rattle.std.proofs.lemmas.Option.{same_Some}
use Rattle.acknowledgements.proofs.Times.{contains_cases, contains_here, contains_none, contains_there}

module _ {A : Type 0} where
  -- what holds of each member holds of all
  pub all_from : (P : A → Type 0) (xs : List A) → ((x : A) → Contains xs x → P x) → All P xs
  all_from P xs each = λ k d inside. each (get_or xs k d) (Contains-get_or xs k d inside)

  module _ (R : A → A → Type 0) where
    head_below : (x : A) (xs : List A) → AllPairs R (x ∷ xs) → All (R x) xs
    head_below x xs ascending = λ k d inside. ascending 0 (suc k) d (omega arith) (omega arith)

    tail_ascends : (x : A) (xs : List A) → AllPairs R (x ∷ xs) → AllPairs R xs
    tail_ascends x xs ascending = λ i j d before inside. ascending (suc i) (suc j) d (omega arith) (omega arith)

    pub first_below : (x : A) (xs : List A) → AllPairs R (x ∷ xs) → (y : A) → Contains xs y → R x y
    first_below x xs ascending y has = All-contains (R x) xs y (head_below x xs ascending) has

    pub rest_ascends : (x : A) (xs : List A) → AllPairs R (x ∷ xs) → AllPairs R xs
    rest_ascends x xs ascending = tail_ascends x xs ascending

    -- two ascending lists with the same members are one
    pub same_lists : ((x : A) → ¬ (R x x)) → ((x y z : A) → R x y → R y z → R x z) → (a b : List A) → AllPairs R a → AllPairs R b → ((x : A) → Contains a x ↔ Contains b x) → a ≡ b
    same_lists strict trans [] [] one two same = refl
    same_lists strict trans [] (y ∷ ys) one two same = absurd (contains_none y ((same y).1 (contains_here y ys)))
    same_lists strict trans (x ∷ xs) [] one two same = absurd (contains_none x ((same x).0 (contains_here x xs)))
    same_lists strict trans (x ∷ xs) (y ∷ ys) one two same =
        let heads : x ≡ y = elim (contains_cases y ys x ((same x).0 (contains_here x xs))) [
          | inl e ↦ sym e
          | inr later ↦ elim (contains_cases x xs y ((same y).1 (contains_here y ys))) [
            | inl e ↦ e
            | inr later' ↦ absurd (strict x (trans x y x (first_below x xs one y later') (first_below y ys two x later)))
          ]
        ] in
        let tails = same_lists strict trans xs ys (tail_ascends x xs one) (tail_ascends y ys two) (λ k. (there heads k, back heads k)) in
        λ i. heads i ∷ tails i
      where
        there : x ≡ y → (k : A) → Contains xs k → Contains ys k
        there heads k has = elim (contains_cases y ys k ((same k).0 (contains_there x xs k has))) [
          | inl e ↦ absurd (strict x (subst (R x) (sym (heads ∙ e)) (first_below x xs one k has)))
          | inr has' ↦ has'
        ]

        back : x ≡ y → (k : A) → Contains ys k → Contains xs k
        back heads k has = elim (contains_cases x xs k ((same k).1 (contains_there y ys k has))) [
          | inl e ↦ absurd (strict y (subst (R y) (sym (sym heads ∙ e)) (first_below y ys two k has)))
          | inr has' ↦ has'
        ]

none_some : {B : Type 0} (y : B) → None ≡ Some y → ⊥
none_some y e = cc

module _ {A B : Type 0} (f : A → Option B) where
  -- what a list is made to, and from what
  pub mapped_from : (xs : List A) (y : B) → Contains (filter_map f xs) y → (x : A) × Contains xs x × (f x ≡ Some y)
  mapped_from [] y has = absurd (contains_none y has)
  mapped_from (x ∷ xs) y has = by (f x) refl has (mapped_from xs y)
    where
      more : (x' : A) × Contains xs x' × (f x' ≡ Some y) → (x' : A) × Contains (x ∷ xs) x' × (f x' ≡ Some y)
      more r = (r.0, contains_there x xs r.0 r.1, r.2)

      by : (o : Option B) → f x ≡ o → Contains (cons_option o (filter_map f xs)) y → (Contains (filter_map f xs) y → (x' : A) × Contains xs x' × (f x' ≡ Some y)) → (x' : A) × Contains (x ∷ xs) x' × (f x' ≡ Some y)
      by None is there rest = more (rest there)
      by (Some z) is there rest = elim (contains_cases z (filter_map f xs) y there) [
        | inl e ↦ (x, contains_here x xs, is ∙ ap Some e)
        | inr later ↦ more (rest later)
      ]

  pub mapped_to : (xs : List A) (x : A) (y : B) → Contains xs x → f x ≡ Some y → Contains (filter_map f xs) y
  mapped_to [] x y has is = absurd (contains_none x has)
  mapped_to (z ∷ xs) x y has is = by (f z) refl (contains_cases z xs x has) (λ later. mapped_to xs x y later is)
    where
      by : (o : Option B) → f z ≡ o → (z ≡ x) ⊎ Contains xs x → (Contains xs x → Contains (filter_map f xs) y) → Contains (cons_option o (filter_map f xs)) y
      by None isnt either rest = elim either [
        | inl e ↦ absurd (none_some y (sym isnt ∙ ap f e ∙ is))
        | inr later ↦ rest later
      ]
      by (Some w) some either rest = elim either [
        | inl e ↦ subst (Contains (w ∷ filter_map f xs)) (same_Some w y (sym some ∙ ap f e ∙ is)) (contains_here w (filter_map f xs))
        | inr later ↦ contains_there w (filter_map f xs) y (rest later)
      ]

  -- a step of a loop that makes one list of another
  made_more : (xs : List A) (i : ℕ) (x : A) (o : Option B) → i < length xs → x ≡ get_or xs i x → o ≡ f x → filter_map f (take (i + 1) xs) ≡ filter_map f (take i xs) ++ cons_option o []
  made_more xs i x o inside at is =
      ap (filter_map f) (take_more xs i x inside) ∙ filter_map-append f (take i xs) (get_or xs i x ∷ [])
      ∙ ap (λ v. filter_map f (take i xs) ++ cons_option (f v) []) (sym at) ∙ ap (λ p. filter_map f (take i xs) ++ cons_option p []) (sym is)

  pub made_some : (xs : List A) (i : ℕ) (x : A) (y : B) (items new : List B) → i < length xs → x ≡ get_or xs i x → items ≡ filter_map f (take i xs) → Some y ≡ f x → new ≡ items ++ y ∷ [] → new ≡ filter_map f (take (i + 1) xs)
  made_some xs i x y items new inside at made is longer = longer ∙ ap (λ l. l ++ y ∷ []) made ∙ sym (made_more xs i x (Some y) inside at is)

  pub made_none : (xs : List A) (i : ℕ) (x : A) (items : List B) → i < length xs → x ≡ get_or xs i x → items ≡ filter_map f (take i xs) → None ≡ f x → items ≡ filter_map f (take (i + 1) xs)
  made_none xs i x items inside at made is = made ∙ sym (append-nil (filter_map f (take i xs))) ∙ sym (made_more xs i x None inside at is)
