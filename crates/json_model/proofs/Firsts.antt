-- Of two lists of faults the first of the least kind is the better of each one's.
use Rattle.std.proofs.Common.{◌≡◌, List, [], ◌∷◌, ◌++◌, Bool, true, false, cond, nat_lt, Option, Some, None, refl, sym, ap, subst, ◌∙◌, arith}
use borrow.Author.Tests.{ltb-true, ltb-false}
use Rattle.json_model.specs.declared.fault.JsonFault.{JsonFault}
use Rattle.json_model.specs.Faults.{FirstOf}
use Rattle.json_model.specs.Ranks.{rank, better, first_of_least}

assoc_by : (a b c : JsonFault) (x y z : Bool) → x ≡ nat_lt (rank c) (rank b) → y ≡ nat_lt (rank b) (rank a) → z ≡ nat_lt (rank c) (rank a)
    → better (Some a) (cond x (Some c) (Some b)) ≡ better (cond y (Some b) (Some a)) (Some c)
assoc_by a b c true true true x y z = rw (← z, ← x)
assoc_by a b c true true false x y z =
    let one = ltb-true (rank c) (rank b) (sym x) in
    let two = ltb-true (rank b) (rank a) (sym y) in
    let three = ltb-false (rank c) (rank a) (sym z) in
    absurd (omega arith)
assoc_by a b c true false z x y is = refl
assoc_by a b c false true z x y is = rw (← x, ← y)
assoc_by a b c false false true x y z =
    let one = ltb-false (rank c) (rank b) (sym x) in
    let two = ltb-false (rank b) (rank a) (sym y) in
    let three = ltb-true (rank c) (rank a) (sym z) in
    absurd (omega arith)
assoc_by a b c false false false x y z = rw (← y, ← z)

none_last : (a b : JsonFault) (y : Bool) → cond y (Some b) (Some a) ≡ better (cond y (Some b) (Some a)) None
none_last a b true = refl
none_last a b false = refl

pub better_assoc : (a b c : Option JsonFault) → better a (better b c) ≡ better (better a b) c
better_assoc None b c = refl
better_assoc (Some a) None c = refl
better_assoc (Some a) (Some b) None = none_last a b (nat_lt (rank b) (rank a))
better_assoc (Some a) (Some b) (Some c) = assoc_by a b c (nat_lt (rank c) (rank b)) (nat_lt (rank b) (rank a)) (nat_lt (rank c) (rank a)) refl refl refl

pub first_append : (xs ys : List JsonFault) → first_of_least (xs ++ ys) ≡ better (first_of_least xs) (first_of_least ys)
first_append [] ys = refl
first_append (x ∷ xs) ys = ap (λ f. better (Some x) f) (first_append xs ys) ∙ better_assoc (Some x) (first_of_least xs) (first_of_least ys)

some_better : (x : JsonFault) (f : Option JsonFault) → None ≡ better (Some x) f → ⊥
some_better x None is = cc
some_better x (Some g) is = by (nat_lt (rank g) (rank x)) is
  where
    by : (b : Bool) → None ≡ cond b (Some g) (Some x) → ⊥
    by true e = cc
    by false e = cc

-- only an empty list has none
pub none_first : (xs : List JsonFault) → None ≡ first_of_least xs → xs ≡ []
none_first [] is = refl
none_first (x ∷ xs) is = absurd (some_better x (first_of_least xs) is)

pub none_found : (Faults : List JsonFault → Type 0) → FirstOf Faults None → Faults []
none_found Faults first = subst Faults (none_first first.faults first.first) first.are
