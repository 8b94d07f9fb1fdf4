-- when filters that are joined are the same
use Rattle.std.proofs.Common.{◌≡◌, ◌∙◌, ◌↔◌, Bool, IsTrue, List, [], ◌∷◌, refl, sym, ap}
use Rattle.queries.specs.declared.filter.Junction.{Junction}
use Rattle.queries.specs.Filters.{FilterData, composite, filters_of, list_of}

listed : (fs : List FilterData) → list_of (filters_of fs) ≡ fs
listed [] = refl
listed (f ∷ fs) = ap (λ gs. f ∷ gs) (listed fs)

pub composites : (a b : Junction) (fs gs : List FilterData) (told : Bool) → a ≡ b → IsTrue told ↔ (fs ≡ gs) → IsTrue told ↔ (composite a (filters_of fs) ≡ composite b (filters_of gs))
composites a b fs gs told same is = (
  λ yes. λ i. composite (same i) (filters_of (is.0 yes i)),
  λ whole. let inner : filters_of fs ≡ filters_of gs = cc in is.1 (sym (listed fs) ∙ ap list_of inner ∙ listed gs),
)
