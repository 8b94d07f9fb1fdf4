-- filters that are joined, one by one
use Rattle.std.proofs.Common.{◌≡◌, ℕ, zero, suc, ◌<◌, List, [], ◌∷◌, length, get_or, Option, inl, inr, sym, subst, arith}
use Rattle.std.specs.List.{All}
use Rattle.std.proofs.lemmas.List.Elements.{All-head, All-tail}
use Rattle.value_model.specs.Data.{Data}
use Rattle.queries.specs.Filters.{FilterData, filters_of}
use Rattle.queries.specs.Holding.{Meets, MeetsAll, MeetsOne}

module _ (at : List (List ℕ) → Option Data) where
  pub all_from : (fs : List FilterData) → All (Meets at) fs → MeetsAll at (filters_of fs)
  all_from [] all = tt
  all_from (f ∷ fs) all = (All-head (Meets at) f fs all, all_from fs (All-tail (Meets at) f fs all))

  pub each_at : (fs : List FilterData) (i : ℕ) (f : FilterData) → i < length fs → f ≡ get_or fs i f → MeetsAll at (filters_of fs) → Meets at f
  each_at fs i f below is all = subst (Meets at) (sym is) (part fs i f below all)
    where
      part : (fs : List FilterData) (i : ℕ) (d : FilterData) → i < length fs → MeetsAll at (filters_of fs) → Meets at (get_or fs i d)
      part [] i d below all = absurd (omega arith)
      part (f ∷ fs) zero d below all = all.0
      part (f ∷ fs) (suc i) d below all = part fs i d (omega arith) all.1

  pub one_at : (fs : List FilterData) (i : ℕ) (f : FilterData) → i < length fs → f ≡ get_or fs i f → Meets at f → MeetsOne at (filters_of fs)
  one_at fs i f below is met = part fs i f below (subst (Meets at) is met)
    where
      part : (fs : List FilterData) (i : ℕ) (d : FilterData) → i < length fs → Meets at (get_or fs i d) → MeetsOne at (filters_of fs)
      part [] i d below met = absurd (omega arith)
      part (f ∷ fs) zero d below met = inl met
      part (f ∷ fs) (suc i) d below met = inr (part fs i d (omega arith) met)

  pub none_from : (fs : List FilterData) → All (λ f. Meets at f → ⊥) fs → MeetsOne at (filters_of fs) → ⊥
  none_from [] all one = one
  none_from (f ∷ fs) all one = elim one as (λ _. ⊥) [ inl here ↦ All-head (λ f. Meets at f → ⊥) f fs all here | inr there ↦ none_from fs (All-tail (λ f. Meets at f → ⊥) f fs all) there ]
