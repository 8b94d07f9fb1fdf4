-- Of what has a code, two values that can't differ are the same.
use Rattle.std.proofs.Common.{◌≡◌, ◌≢◌, ◌&&◌, Bool, true, false, refl, ap, subst}
use Rattle.std.proofs.lemmas.Bool.{eqb-true, eq-eqb}
use Rattle.std.specs.Coded.{Coded}
use base.Stored.{Gv, gnil, gnum, gcons}
use Rattle.value_model.specs.Same.{same_tree}

both : (a b : Bool) → (a && b) ≡ true → (a ≡ true) × (b ≡ true)
both true b is = (refl, is)
both false b is = cc

one_tree : (a b : Gv) → same_tree a b ≡ true → a ≡ b
one_tree gnil gnil is = refl
one_tree gnil (gnum n) is = cc
one_tree gnil (gcons c d) is = cc
one_tree (gnum m) gnil is = cc
one_tree (gnum m) (gnum n) is = ap gnum (eqb-true m n is)
one_tree (gnum m) (gcons c d) is = cc
one_tree (gcons a b) gnil is = cc
one_tree (gcons a b) (gnum n) is = cc
one_tree (gcons a b) (gcons c d) is =
    let parts = both (same_tree a c) (same_tree b d) is in
    λ i. gcons (one_tree a c parts.0 i) (one_tree b d parts.1 i)

tree_itself : (a : Gv) → same_tree a a ≡ true
tree_itself gnil = refl
tree_itself (gnum n) = eq-eqb n n refl
tree_itself (gcons a b) = rw (tree_itself a, tree_itself b) refl

pub stable : {A : Type 0} (c : Coded A) (a b : A) → (a ≢ b → ⊥) → a ≡ b
stable c a b never = by (same_tree (c.code a) (c.code b)) refl
  where
    by : (t : Bool) → same_tree (c.code a) (c.code b) ≡ t → a ≡ b
    by true is = c.inj a b (one_tree (c.code a) (c.code b) is)
    by false is = absurd (never (λ same. let itself = subst (λ x. same_tree (c.code a) (c.code x) ≡ true) same (tree_itself (c.code a)) in cc))
