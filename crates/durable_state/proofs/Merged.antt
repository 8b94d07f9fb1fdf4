-- the least key of two ascending lists, and what is left of them
use Rattle.std.proofs.Common.{◌≡◌, ◌↔◌, ◌⊎◌, ◌<◌, inl, inr, zero, suc, ℕ, List, [], ◌∷◌, ◌++◌, drop, length, get_or, Option, Some, None, Ordering, Less, Equal, Greater, refl, sym, ap, subst, arith}
use Rattle.std.specs.Cmp.Lexicographic.{slice_cmp}
use Rattle.std.specs.List.{All, Contains, slice_get}
use Rattle.std.specs.Option.{IfNone, IfSome, MatchOption, option_to_list}
use Rattle.std.specs.Ordering.{nat_cmp}
use Rattle.std.proofs.lemmas.List.Elements.{All-cons, All-nil, All-head, All-tail, All-push, All-contains, All-weaker, Contains-append_left, Contains-get_or, Contains-push, Contains-push_cases}
use Rattle.std.proofs.lemmas.List.Kept.{AllPairs-cons}
use Rattle.document_keys.specs.KeySet.{IsAscending}
use Rattle.document_keys.specs.Order.{PathBefore, Ranks}
use Rattle.document_keys.proofs.Lawful.{ordered}
use Rattle.document_keys.proofs.Order.{ranks_from}

abbrev Key : Type 0
Key = List (List ℕ)

-- how the first keys of two lists stand
abbrev pub Fronts : Ordering → List (List (List ℕ)) → List (List (List ℕ)) → Type 0
Fronts o l r = MatchOption (slice_get l 0) (MatchOption (slice_get r 0) (o ≡ Equal) (λ key. o ≡ Greater)) (λ key. MatchOption (slice_get r 0) (o ≡ Less) (Ranks o key))

first_is : (x : Key) (xs : List Key) → 0 < length xs → x ≡ get_or xs 0 x → slice_get xs 0 ≡ Some x
first_is x [] some is = absurd (omega arith)
first_is x (y ∷ ys) some is = ap Some (sym is)

pub ranked : (x y : List (List ℕ)) (l r : List (List (List ℕ))) (o : Ordering) → 0 < length l → x ≡ get_or l 0 x → 0 < length r → y ≡ get_or r 0 y → o ≡ slice_cmp (slice_cmp nat_cmp) x y → Fronts o l r
ranked x y l r o some is some' is' compared =
    rw (first_is x l some is, first_is y r some' is') (ranks_from x y o compared)

-- what is left where a key was taken
pub record Taken (l r : List (List (List ℕ))) (found : Option (List (List ℕ))) (l' r' : List (List (List ℕ))) : Type 0 where
  pub left : IsAscending l'
  pub right : IsAscending r'
  pub none : IfNone found ((l ≡ []) × (r ≡ []))
  pub least : IfSome found (λ key. All (PathBefore key) l' × All (PathBefore key) r')
  pub members : IfSome found (λ key. (k : List (List ℕ)) → (Contains l k ⊎ Contains r k) ↔ ((key ≡ k) ⊎ (Contains l' k ⊎ Contains r' k)))

module _ {A : Type 0} where
  contains_cases : (x : A) (xs : List A) (y : A) → Contains (x ∷ xs) y → (x ≡ y) ⊎ Contains xs y
  contains_cases x xs y (zero, inside, is) = inl is
  contains_cases x xs y (suc k, inside, is) = inr (k, omega arith, is)

  contains_same : (x : A) (xs : List A) (y : A) → x ≡ y → Contains (x ∷ xs) y
  contains_same x xs y is = (0, omega arith, is)

  contains_there : (x : A) (xs : List A) (y : A) → Contains xs y → Contains (x ∷ xs) y
  contains_there x xs y (k, inside, is) = (suc k, omega arith, is)

head_below : (x : Key) (xs : List Key) → IsAscending (x ∷ xs) → All (PathBefore x) xs
head_below x xs ascending = λ k d inside. ascending 0 (suc k) d (omega arith) (omega arith)

tail_ascends : (x : Key) (xs : List Key) → IsAscending (x ∷ xs) → IsAscending xs
tail_ascends x xs ascending = λ i j d before inside. ascending (suc i) (suc j) d (omega arith) (omega arith)

-- a key before the first of an ascending list is before all of it
before_all : (x y : Key) (ys : List Key) → PathBefore x y → IsAscending (y ∷ ys) → All (PathBefore x) (y ∷ ys)
before_all x y ys below ascending =
    All-cons (PathBefore x) y ys below (All-weaker (PathBefore y) (PathBefore x) (λ z more. ordered.transitive x y z below more) ys (head_below y ys ascending))

-- the first list's first key is taken
first_taken : (x : Key) (xs r : List Key) → IsAscending (x ∷ xs) → IsAscending r → All (PathBefore x) r → Taken (x ∷ xs) r (Some x) xs r
first_taken x xs r one two below = record {
  left = tail_ascends x xs one;
  right = two;
  none = tt;
  least = (head_below x xs one, below);
  members = λ k. (
    λ has. elim has [
      | inl l ↦ elim (contains_cases x xs k l) [ inl e ↦ inl e | inr later ↦ inr (inl later) ]
      | inr r ↦ inr (inr r)
    ],
    λ has. elim has [
      | inl e ↦ inl (contains_same x xs k e)
      | inr rest ↦ elim rest [ inl l ↦ inl (contains_there x xs k l) | inr r ↦ inr r ]
    ],
  );
}

-- the lists in the other order
swapped : {A B : Type 0} → A ⊎ B → B ⊎ A
swapped (inl a) = inr a
swapped (inr b) = inl b

other_way : (l r : List Key) (found : Option Key) (l' r' : List Key) → Taken l r found l' r' → Taken r l found r' l'
other_way l r None l' r' t = record { left = t.right; right = t.left; none = (t.none.1, t.none.0); least = tt; members = tt }
other_way l r (Some key) l' r' t = record {
  left = t.right;
  right = t.left;
  none = tt;
  least = (t.least.1, t.least.0);
  members = λ k. (
    λ has. elim ((t.members k).0 (swapped has)) [ inl e ↦ inl e | inr rest ↦ inr (swapped rest) ],
    λ has. swapped ((t.members k).1 (elim has [ inl e ↦ inl e | inr rest ↦ inr (swapped rest) ])),
  );
}

-- what is popped of a list that has a first key
popped_first : (x : Key) (xs rest : List Key) (found : Option Key) → x ∷ xs ≡ option_to_list found ++ rest → rest ≡ xs → found ≡ Some x
popped_first x xs rest None is left = absurd (omega (arith, ap length is, ap length left))
popped_first x xs rest (Some key) is left = cc

popped_none : (rest : List Key) (found : Option Key) → [] ≡ option_to_list found ++ rest → found ≡ None
popped_none rest None is = refl
popped_none rest (Some key) is = cc

pub taken_left : (l r l' : List (List (List ℕ))) (found : Option (List (List ℕ))) → IsAscending l → IsAscending r → Fronts Less l r → l ≡ option_to_list found ++ l' → l' ≡ drop 1 l → Taken l r found l' r
taken_left [] [] l' found one two fronts is rest = cc
taken_left [] (y ∷ ys) l' found one two fronts is rest = cc
taken_left (x ∷ xs) r l' found one two fronts is rest =
    subst (λ o. Taken (x ∷ xs) r o l' r) (sym (popped_first x xs l' found is rest)) (subst (λ t. Taken (x ∷ xs) r (Some x) t r) (sym rest) (first_taken x xs r one two (below r two fronts)))
  where
    below : (q : List Key) → IsAscending q → Fronts Less (x ∷ xs) q → All (PathBefore x) q
    below [] two fronts = All-nil (PathBefore x)
    below (y ∷ ys) two fronts = before_all x y ys (fronts.less.0 refl) two

turned_fronts : (l r : List Key) → Fronts Greater l r → Fronts Less r l
turned_fronts [] [] fronts = cc
turned_fronts [] (y ∷ ys) fronts = refl
turned_fronts (x ∷ xs) [] fronts = cc
turned_fronts (x ∷ xs) (y ∷ ys) fronts =
    let before = fronts.greater.0 refl in record {
      less = (λ e. before, λ b. refl);
      greater = (λ e. cc, λ b. absurd (ordered.strict x (ordered.transitive x y x b before)));
      equal = (λ e. cc, λ e. absurd (ordered.strict x (subst (λ z. PathBefore z x) e before)));
    }

pub taken_right : (l r r' : List (List (List ℕ))) (found : Option (List (List ℕ))) → IsAscending l → IsAscending r → Fronts Greater l r → r ≡ option_to_list found ++ r' → r' ≡ drop 1 r → Taken l r found l r'
taken_right l r r' found one two fronts is rest = other_way r l found r' l (taken_left r l r' found two one (turned_fronts l r fronts) is rest)

both_taken : (x : Key) (xs ys : List Key) → IsAscending (x ∷ xs) → IsAscending (x ∷ ys) → Taken (x ∷ xs) (x ∷ ys) (Some x) xs ys
both_taken x xs ys one two = record {
  left = tail_ascends x xs one;
  right = tail_ascends x ys two;
  none = tt;
  least = (head_below x xs one, head_below x ys two);
  members = λ k. (
    λ has. elim has [
      | inl l ↦ elim (contains_cases x xs k l) [ inl e ↦ inl e | inr later ↦ inr (inl later) ]
      | inr r ↦ elim (contains_cases x ys k r) [ inl e ↦ inl e | inr later ↦ inr (inr later) ]
    ],
    λ has. elim has [
      | inl e ↦ inl (contains_same x xs k e)
      | inr rest ↦ elim rest [ inl l ↦ inl (contains_there x xs k l) | inr r ↦ inr (contains_there x ys k r) ]
    ],
  );
}

pub taken_both : (l r l' r' : List (List (List ℕ))) (found : Option (List (List ℕ))) → IsAscending l → IsAscending r → Fronts Equal l r → l ≡ option_to_list found ++ l' → l' ≡ drop 1 l → r' ≡ drop 1 r → Taken l r found l' r'
taken_both [] [] l' r' found one two fronts is rest rest' =
    subst (λ o. Taken [] [] o l' r') (sym (popped_none l' found is))
    (subst (λ t. Taken [] [] None t r') (sym rest) (subst (λ t. Taken [] [] None [] t) (sym rest') (record { left = one; right = two; none = (refl, refl); least = tt; members = tt })))
taken_both [] (y ∷ ys) l' r' found one two fronts is rest rest' = cc
taken_both (x ∷ xs) [] l' r' found one two fronts is rest rest' = cc
taken_both (x ∷ xs) (y ∷ ys) l' r' found one two fronts is rest rest' =
    let same : x ≡ y = fronts.equal.0 refl in
    subst (λ o. Taken (x ∷ xs) (y ∷ ys) o l' r') (sym (popped_first x xs l' found is rest))
    (subst (λ t. Taken (x ∷ xs) (y ∷ ys) (Some x) t r') (sym rest) (subst (λ t. Taken (x ∷ xs) (y ∷ ys) (Some x) xs t) (sym rest')
    (subst (λ z. Taken (x ∷ xs) (z ∷ ys) (Some x) xs ys) same (both_taken x xs ys one (subst (λ z. IsAscending (z ∷ ys)) (sym same) two)))))

-- ---- key by key

-- the keys that were taken ascend and are before all that are left, and with these they are the keys of both lists
pub record Merging (first second l r taken : List (List (List ℕ))) : Type 0 where
  pub left : IsAscending l
  pub right : IsAscending r
  pub ascending : IsAscending taken
  pub below : (k q : List (List ℕ)) → Contains taken k → Contains l q ⊎ Contains r q → PathBefore k q
  pub members : (k : List (List ℕ)) → (Contains first k ⊎ Contains second k) ↔ (Contains taken k ⊎ (Contains l k ⊎ Contains r k))

none_in : (k : Key) → Contains [] k → ⊥
none_in k has = let inside = has.1 in omega arith

pub none_merged : (first second taken : List (List (List ℕ))) → IsAscending first → IsAscending second → taken ≡ [] → Merging first second first second taken
none_merged first second taken one two none = subst (Merging first second first second) (sym none) (record {
  left = one;
  right = two;
  ascending = λ i j d before inside. absurd (omega arith);
  below = λ k q has rest. absurd (none_in k has);
  members = λ k. (λ has. inr has, λ has. elim has [ inl taken ↦ absurd (none_in k taken) | inr rest ↦ rest ]);
})

-- one key more behind those that are before it
ascends_push : (xs : List Key) (x : Key) → IsAscending xs → All (λ q. PathBefore q x) xs → IsAscending (xs ++ x ∷ [])
ascends_push [] x ascending below = λ i j d before inside. absurd (omega arith)
ascends_push (y ∷ ys) x ascending below =
    AllPairs-cons PathBefore y (ys ++ x ∷ []) (All-push (PathBefore y) ys x (head_below y ys ascending) (All-head (λ q. PathBefore q x) y ys below)) (ascends_push ys x (tail_ascends y ys ascending) (All-tail (λ q. PathBefore q x) y ys below))

pub merged_more : (first second l r taken l' r' more : List (List (List ℕ))) (x : List (List ℕ)) → Merging first second l r taken → Taken l r (Some x) l' r' → more ≡ taken ++ x ∷ [] → Merging first second l' r' more
merged_more first second l r taken l' r' more x m t pushed = subst (Merging first second l' r') (sym pushed) (record {
  left = t.left;
  right = t.right;
  ascending = ascends_push taken x m.ascending (All-from_contains taken (λ k has. m.below k x has was));
  below = λ k q has rest. elim (Contains-push_cases taken x k has) [
    | inl before ↦ m.below k q before ((t.members q).1 (inr rest))
    | inr e ↦ subst (λ z. PathBefore z q) e (elim rest [
      | inl l ↦ All-contains (PathBefore x) l' q t.least.0 l
      | inr r ↦ All-contains (PathBefore x) r' q t.least.1 r
    ])
  ];
  members = λ k. (
    λ has. elim ((m.members k).0 has) [
      | inl before ↦ inl (Contains-append_left taken (x ∷ []) k before)
      | inr rest ↦ elim ((t.members k).0 rest) [
        | inl e ↦ inl (subst (Contains (taken ++ x ∷ [])) e (Contains-push taken x))
        | inr later ↦ inr later
      ]
    ],
    λ has. (m.members k).1 (elim has [
      | inl now ↦ elim (Contains-push_cases taken x k now) [ inl before ↦ inl before | inr e ↦ inr ((t.members k).1 (inl e)) ]
      | inr later ↦ inr ((t.members k).1 (inr later))
    ]),
  );
})
  where
    was : Contains l x ⊎ Contains r x
    was = (t.members x).1 (inl refl)

    All-from_contains : (xs : List Key) → ((k : Key) → Contains xs k → PathBefore k x) → All (λ q. PathBefore q x) xs
    All-from_contains xs each = λ i d inside. each (get_or xs i d) (Contains-get_or xs i d inside)

pub all_merged : (first second l r taken : List (List (List ℕ))) → Merging first second l r taken → l ≡ [] → r ≡ [] → (k : List (List ℕ)) → Contains taken k ↔ (Contains first k ⊎ Contains second k)
all_merged first second l r taken m none none' k = (
  λ has. (m.members k).1 (inl has),
  λ has. elim ((m.members k).0 has) [
    | inl now ↦ now
    | inr rest ↦ absurd (elim rest [ inl x ↦ none_in k (subst (λ xs. Contains xs k) none x) | inr x ↦ none_in k (subst (λ xs. Contains xs k) none' x) ])
  ],
)
