-- The items of a list for which something holds, in their order.
use Rattle.std.specs.Prelude.{List, [], ◌∷◌}

pub data Picks {X : Type 0} (P : X → Type 0) : List X → List X → Type 0 where
  none : Picks P [] []
  takes : (x : X) (xs ys : List X) → P x → Picks P xs ys → Picks P (x ∷ xs) (x ∷ ys)
  leaves : (x : X) (xs ys : List X) → (P x → ⊥) → Picks P xs ys → Picks P (x ∷ xs) ys
