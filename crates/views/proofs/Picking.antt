-- what is picked of a list
use Rattle.std.proofs.Common.{◌≡◌, ◌≢◌, ◌⊎◌, inl, inr, zero, suc, List, [], ◌∷◌, ◌++◌, get_or, map as each, refl, sym, ap, subst, arith}
use Rattle.std.specs.List.{All, AllPairs, Contains}
use Rattle.std.proofs.lemmas.List.Elements.{Contains-append_cases, Contains-get_or}
use Rattle.std.proofs.lemmas.List.Kept.{AllPairs-cons}
use Rattle.views.specs.Picks.{Picks}
use Rattle.views.specs.Picks.Picks.{none, takes, leaves}
use Rattle.views.specs.Row.{Row, row, keys_of}
use Rattle.views.proofs.Indexing.{key_there, row_there}

module _ {X : Type 0} where
  pub at_head : (x : X) (xs : List X) → Contains (x ∷ xs) x
  at_head x xs = (0, omega arith, refl)

  pub behind : (a x : X) (xs : List X) → Contains xs x → Contains (a ∷ xs) x
  behind a x xs there = let inside = there.1 in (suc there.0, omega arith, there.2)

  pub head_or_behind : (a x : X) (xs : List X) → Contains (a ∷ xs) x → (a ≡ x) ⊎ Contains xs x
  head_or_behind a x xs (zero, inside, is) = inl is
  head_or_behind a x xs (suc k, inside, is) = inr (k, omega arith, is)

  pub nothing_there : (x : X) → Contains [] x → ⊥
  nothing_there x there = let inside = there.1 in omega arith

  pub all_of : (P : X → Type 0) (xs : List X) → ((x : X) → Contains xs x → P x) → All P xs
  all_of P xs each_is k d inside = each_is (get_or xs k d) (Contains-get_or xs k d inside)

  pub pairs_appended : (R : X → X → Type 0) (xs ys : List X) → AllPairs R xs → AllPairs R ys → ((x y : X) → Contains xs x → Contains ys y → R x y) → AllPairs R (xs ++ ys)
  pairs_appended R [] ys first second between = second
  pairs_appended R (a ∷ xs) ys first second between =
      AllPairs-cons R a (xs ++ ys)
      (all_of (R a) (xs ++ ys) (λ x there. elim (Contains-append_cases xs ys x there) [
        | inl here ↦ subst (λ z. R a z) here.2 (first 0 (suc here.0) x (omega arith) (let inside = here.1 in omega arith))
        | inr later ↦ between a x (at_head a xs) later
      ]))
      (pairs_appended R xs ys (λ i j d before inside. first (suc i) (suc j) d (omega arith) (omega arith)) second (λ x y there later. between x y (behind a x xs there) later))

pub mapped : {X Y : Type 0} (f : X → Y) (xs : List X) (x : X) → Contains xs x → Contains (each f xs) (f x)
mapped f [] x there = absurd (nothing_there x there)
mapped f (a ∷ xs) x there = elim (head_or_behind a x xs there) [
  | inl same ↦ subst (λ y. Contains (each f (a ∷ xs)) (f y)) same (at_head (f a) (each f xs))
  | inr later ↦ behind (f a) (f x) (each f xs) (mapped f xs x later)
]

module _ {X : Type 0} {P : X → Type 0} where
  pub picked_of : (xs ys : List X) (x : X) → Picks P xs ys → Contains ys x → Contains xs x × P x
  picked_of _ _ x none there = absurd (nothing_there x there)
  picked_of _ _ x (takes a xs ys is rest) there = elim (head_or_behind a x ys there) [
    | inl same ↦ (subst (Contains (a ∷ xs)) same (at_head a xs), subst P same is)
    | inr later ↦ let p = picked_of xs ys x rest later in (behind a x xs p.0, p.1)
  ]
  picked_of _ _ x (leaves a xs ys never rest) there = let p = picked_of xs ys x rest there in (behind a x xs p.0, p.1)

  pub picked_if : (xs ys : List X) (x : X) → Picks P xs ys → Contains xs x → P x → Contains ys x
  picked_if _ _ x none there is = absurd (nothing_there x there)
  picked_if _ _ x (takes a xs ys has rest) there is = elim (head_or_behind a x xs there) [
    | inl same ↦ subst (Contains (a ∷ ys)) same (at_head a ys)
    | inr later ↦ behind a x ys (picked_if xs ys x rest later is)
  ]
  picked_if _ _ x (leaves a xs ys never rest) there is = elim (head_or_behind a x xs there) [
    | inl same ↦ absurd (never (subst P (sym same) is))
    | inr later ↦ picked_if xs ys x rest later is
  ]

  -- there is one such list
  pub picked_once : (xs ys zs : List X) → Picks P xs ys → Picks P xs zs → ys ≡ zs
  picked_once _ _ _ none none = refl
  picked_once _ _ _ (takes a xs ys is rest) (takes _ _ zs too others) = ap (λ l. a ∷ l) (picked_once xs ys zs rest others)
  picked_once _ _ _ (takes a xs ys is rest) (leaves _ _ zs never others) = absurd (never is)
  picked_once _ _ _ (leaves a xs ys never rest) (takes _ _ zs is others) = absurd (never is)
  picked_once _ _ _ (leaves a xs ys never rest) (leaves _ _ zs too others) = picked_once xs ys zs rest others

-- different keys stay different
pub keys_apart : {P : Row → Type 0} (rows picked : List Row) → Picks P rows picked → AllPairs ◌≢◌ (keys_of rows) → AllPairs ◌≢◌ (keys_of picked)
keys_apart _ _ none apart = apart
keys_apart _ _ (takes a rows picked is rest) apart =
    AllPairs-cons ◌≢◌ a.key (keys_of picked)
    (all_of (λ k. a.key ≢ k) (keys_of picked) (λ key there.
    let r = row_there picked key there in
    let in_rows = key_there rows (row key r.0) (picked_of rows picked (row key r.0) rest r.1).0 in
    let inside = in_rows.1 in
    subst (λ k. a.key ≢ k) in_rows.2 (apart 0 (suc in_rows.0) key (omega arith) (omega arith))))
    (keys_apart rows picked rest (λ i j d before inside. apart (suc i) (suc j) d (omega arith) (omega arith)))
keys_apart _ _ (leaves a rows picked never rest) apart = keys_apart rows picked rest (λ i j d before inside. apart (suc i) (suc j) d (omega arith) (omega arith))
