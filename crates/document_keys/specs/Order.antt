-- The order of texts, keys and paths: the first place at which two lists differ decides, and a front comes before the
-- longer list.
use Rattle.std.specs.Prelude.{◌≡◌, ◌↔◌, ℕ, ◌<◌, List, ◌∷◌, ◌++◌, cond}
use Rattle.std.specs.Bool.{◌==◌}
use Rattle.std.specs.Ordering.{nat_cmp}
use Rattle.std.specs.declared.cmp.Ordering.{Ordering}
use Rattle.std.specs.declared.cmp.Ordering.TheVariants.{Less, Equal, Greater}

-- one list is before another, by an order of their elements
pub data ListBefore {A : Type 0} (Below : A → A → Type 0) : List A → List A → Type 0 where
  differs : (same : List A) (x y : A) (xs ys : List A) → Below x y → ListBefore Below (same ++ x ∷ xs) (same ++ y ∷ ys)
  ends : (same : List A) (y : A) (ys : List A) → ListBefore Below same (same ++ y ∷ ys)

-- texts go by their bytes
abbrev pub TextBefore : List ℕ → List ℕ → Type 0
TextBefore = ListBefore ◌<◌

-- keys and paths go segment by segment
abbrev pub PathBefore : List (List ℕ) → List (List ℕ) → Type 0
PathBefore = ListBefore TextBefore

-- the order of two bytes that differ, in texts of paths: a `/`, at which a segment ends, comes first
abbrev pub byte_order : ℕ → ℕ → Ordering
byte_order x y = cond (x == 47) Less (cond (y == 47) Greater (nat_cmp x y))

-- what a comparison of two paths answers: Less and Greater exactly where one is before the other, Equal exactly where
-- they are equal
pub record Ranks (order : Ordering) (left right : List (List ℕ)) : Type 0 where
  pub less : (order ≡ Less) ↔ PathBefore left right
  pub greater : (order ≡ Greater) ↔ PathBefore right left
  pub equal : (order ≡ Equal) ↔ (left ≡ right)
