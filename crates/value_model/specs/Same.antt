-- Whether two values are the same, as a function: whether the codes are, by which proofs tell values apart.
use Rattle.std.specs.Prelude.{◌≡◌, ◌↔◌, ◌&&◌, nat_eq, Bool, true, false}
use base.Stored.{Gv, gnil, gnum, gcons}
use Rattle.value_model.specs.Codes.{encode}
use Rattle.value_model.specs.Data.{Data}

-- two trees of numbers are the same
abbrev pub same_tree : Gv → Gv → Bool
same_tree gnil gnil = true
same_tree (gnum m) (gnum n) = nat_eq m n
same_tree (gcons a b) (gcons c d) = same_tree a c && same_tree b d
same_tree _ _ = false

unfoldable pub same_value : Data → Data → Bool
same_value a b = same_tree (encode a) (encode b)

-- that decides whether they are
abbrev pub SameValuesAreEqual : Type 0
SameValuesAreEqual = (a b : Data) → (same_value a b ≡ true) ↔ (a ≡ b)
