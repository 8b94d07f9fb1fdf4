-- Values with the same code are the same.
use Rattle.std.proofs.Common.{◌≡◌, ◌∙◌, ◌&&◌, refl, sym, ap, subst, Bool, true, false}
use Rattle.std.proofs.lemmas.Bool.{eqb-true, eq-eqb}
use base.Stored.{Gv, gnil, gnum, gcons}
use Rattle.value_model.specs.Codes.{encode, decode, data_back}
use Rattle.value_model.specs.Same.{same_tree, same_value, SameValuesAreEqual}

both : (a b : Bool) → (a && b) ≡ true → (a ≡ true) × (b ≡ true)
both true b is = (refl, is)
both false b is = cc

tree_is : (a b : Gv) → same_tree a b ≡ true → a ≡ b
tree_is gnil gnil is = refl
tree_is gnil (gnum n) is = cc
tree_is gnil (gcons c d) is = cc
tree_is (gnum m) gnil is = cc
tree_is (gnum m) (gnum n) is = ap gnum (eqb-true m n is)
tree_is (gnum m) (gcons c d) is = cc
tree_is (gcons a b) gnil is = cc
tree_is (gcons a b) (gnum n) is = cc
tree_is (gcons a b) (gcons c d) is =
    let parts = both (same_tree a c) (same_tree b d) is in
    λ i. gcons (tree_is a c parts.0 i) (tree_is b d parts.1 i)

tree_itself : (a : Gv) → same_tree a a ≡ true
tree_itself gnil = refl
tree_itself (gnum n) = eq-eqb n n refl
tree_itself (gcons a b) = rw (tree_itself a, tree_itself b) refl

pub same_values : SameValuesAreEqual
unfolding same_value
same_values a b = (λ is. sym (data_back a) ∙ ap decode (tree_is (encode a) (encode b) is) ∙ data_back b, λ same. subst (λ x. same_value a x ≡ true) same (tree_itself (encode a)))
