-- lists
use Rattle.std.proofs.Common.{◌≡◌, ◌⊎◌, inl, inr, ℕ, Bool, true, List, [], ◌∷◌, ◌++◌, Some, if◌then◌else◌, refl, ap, ◌∙◌, suc, zero}
use Rattle.std.proofs.lemmas.Option.{none-some}
use Rattle.std.specs.List.{slice_get, filter}

-- what stands in a list with one more is the one, or stood there before
pub slice_get_front : {X : Type 0} (xs : List X) (x y : X) (i : ℕ) → slice_get (xs ++ x ∷ []) i ≡ Some y → (slice_get xs i ≡ Some y) ⊎ (y ≡ x)
slice_get_front [] x y zero is = inr (cc)
slice_get_front [] x y (suc i) is = absurd (none-some y is)
slice_get_front (z ∷ xs) x y zero is = inl is
slice_get_front (z ∷ xs) x y (suc i) is = slice_get_front xs x y i is

-- and what stood there stands there then
pub slice_get_more : {X : Type 0} (xs : List X) (x y : X) (i : ℕ) → slice_get xs i ≡ Some y → slice_get (xs ++ x ∷ []) i ≡ Some y
slice_get_more [] x y i is = absurd (none-some y is)
slice_get_more (z ∷ xs) x y zero is = is
slice_get_more (z ∷ xs) x y (suc i) is = slice_get_more xs x y i is

-- nothing is taken out where all is to stay
pub filter_all : {X : Type 0} (p : X → Bool) (xs : List X) → ((x : X) → p x ≡ true) → filter p xs ≡ xs
filter_all p [] all = refl
filter_all p (x ∷ xs) all = ap (λ b. if b then x ∷ filter p xs else filter p xs) (all x) ∙ ap (λ l. x ∷ l) (filter_all p xs all)
