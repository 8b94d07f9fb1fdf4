-- the latest of some times
use Rattle.std.proofs.Common.{◌≡◌, ◌∙◌, ◌⊎◌, inl, inr, zero, suc, Bool, true, false, cond, Ordering, Less, Equal, Greater, Some, None, List, [], ◌∷◌, fold, refl, sym, ap, subst, arith}
use Rattle.std.specs.List.{Contains}
use Rattle.std.specs.Ordering.{is_lt, ordering_reverse}
use Rattle.value_model.specs.Order.{Earlier}
use Rattle.value_model.specs.declared.timestamp.Timestamp.{Timestamp}
use Rattle.value_model.proofs.Scalars.{time_cmp, times_compute}
use Rattle.acknowledgements.specs.Acked.{is_earlier, latest}

module _ {A : Type 0} where
  pub contains_cases : (x : A) (xs : List A) (y : A) → Contains (x ∷ xs) y → (x ≡ y) ⊎ Contains xs y
  contains_cases x xs y (zero, inside, is) = inl is
  contains_cases x xs y (suc k, inside, is) = inr (k, omega arith, is)

  pub contains_here : (x : A) (xs : List A) → Contains (x ∷ xs) x
  contains_here x xs = (0, omega arith, refl)

  pub contains_there : (x : A) (xs : List A) (y : A) → Contains xs y → Contains (x ∷ xs) y
  contains_there x xs y (k, inside, is) = (suc k, omega arith, is)

  pub contains_none : (y : A) → Contains [] y → ⊥
  contains_none y has = let inside = has.1 in omega arith

less_by : (o : Ordering) → is_lt o ≡ true → o ≡ Less
less_by Less e = refl
less_by Equal e = cc
less_by Greater e = cc

pub earlier_so : (t u : Timestamp) → is_earlier t u ≡ true → Earlier t u
earlier_so t u is = times_compute.below t u (less_by (time_cmp t u) is)

pub earlier_is : (t u : Timestamp) → Earlier t u → is_earlier t u ≡ true
earlier_is t u before = ap is_lt (times_compute.less t u before)

false_apart : false ≡ true → ⊥
false_apart e = cc

pub not_earlier : (t u : Timestamp) → is_earlier t u ≡ false → ¬ (Earlier t u)
not_earlier t u not before = false_apart (sym not ∙ earlier_is t u before)

-- two times of which none is before the other are one
pub one_time : (t u : Timestamp) → ¬ (Earlier t u) → ¬ (Earlier u t) → t ≡ u
one_time t u not nor = by (time_cmp t u) (time_cmp u t) refl refl (times_compute.total.antisymm t u)
  where
    by : (o p : Ordering) → time_cmp t u ≡ o → time_cmp u t ≡ p → time_cmp t u ≡ ordering_reverse (time_cmp u t) → t ≡ u
    by Less p is other turned = absurd (not (times_compute.below t u is))
    by Equal p is other turned = times_compute.exact t u is
    by Greater Less is other turned = absurd (nor (times_compute.below u t other))
    by Greater Equal is other turned = let e = sym is ∙ turned ∙ ap ordering_reverse other in cc
    by Greater Greater is other turned = let e = sym is ∙ turned ∙ ap ordering_reverse other in cc

earlier_than : (t u v : Timestamp) → Earlier t u → Earlier u v → Earlier t v
earlier_than t u v first second = times_compute.below t v (times_compute.total.trans t u v (times_compute.less t u first) (times_compute.less u v second))

-- where one time is before another, it is before each time that isn't before this one
earlier_still : (t u v : Timestamp) → Earlier t u → ¬ (Earlier v u) → Earlier t v
earlier_still t u v before not = by (is_earlier u v) refl
  where
    by : (b : Bool) → is_earlier u v ≡ b → Earlier t v
    by true is = earlier_than t u v before (earlier_so u v is)
    by false is = subst (Earlier t) (one_time u v (not_earlier u v is) not) before

-- a time of the list that no other one of it is later than
pub record IsLast (times : List Timestamp) (time : Timestamp) : Type 0 where
  pub one : Contains times time
  pub last : (other : Timestamp) → Contains times other → ¬ (Earlier time other)

abbrev Last : Timestamp → List Timestamp → Type 0
Last time times = (found : Timestamp) × (fold latest (Some time) times ≡ Some found) × IsLast (time ∷ times) found

last_of : (time : Timestamp) (times : List Timestamp) → Last time times
last_of time [] = (time, refl, record { one = contains_here time []; last = λ other has before. itself time (subst (Earlier time) (only other has) before) })
  where
    only : (other : Timestamp) → Contains (time ∷ []) other → other ≡ time
    only other has = elim (contains_cases time [] other has) [ inl e ↦ sym e | inr none ↦ absurd (contains_none other none) ]

    itself : (t : Timestamp) → Earlier t t → ⊥
    itself t before = let is = times_compute.less t t before in let turned = times_compute.total.antisymm t t in let e = sym is ∙ turned ∙ ap ordering_reverse is in cc
last_of time (next ∷ times) = by (is_earlier time next) refl (last_of next times) (last_of time times)
  where
    by : (b : Bool) → is_earlier time next ≡ b → Last next times → Last time times → (found : Timestamp) × (fold latest (Some (cond b next time)) times ≡ Some found) × IsLast (time ∷ next ∷ times) found
    by true is (found, so, last) other_last = (
      found,
      so,
      record {
        one = contains_there time (next ∷ times) found last.one;
        last = λ other has before. elim (contains_cases time (next ∷ times) other has) [
          | inl e ↦ last.last next (contains_here next times) (earlier_than found time next (subst (Earlier found) (sym e) before) (earlier_so time next is))
          | inr later ↦ last.last other later before
        ];
      },
    )
    by false is other_last (found, so, last) = (
      found,
      so,
      record {
        one = elim (contains_cases time times found last.one) [
          | inl e ↦ subst (Contains (time ∷ next ∷ times)) e (contains_here time (next ∷ times))
          | inr later ↦ contains_there time (next ∷ times) found (contains_there next times found later)
        ];
        last = λ other has before. elim (contains_cases time (next ∷ times) other has) [
          | inl e ↦ last.last other (subst (Contains (time ∷ times)) e (contains_here time times)) before
          | inr later ↦ elim (contains_cases next times other later) [
            | inl e ↦ last.last time (contains_here time times) (earlier_still found next time (subst (Earlier found) (sym e) before) (not_earlier time next is))
            | inr far ↦ last.last other (contains_there time times other far) before
          ]
        ];
      },
    )

-- the latest of a list is there unless the list is empty
pub latest_of : (times : List Timestamp) → ((fold latest None times ≡ None) × (times ≡ [])) ⊎ ((found : Timestamp) × (fold latest None times ≡ Some found) × IsLast times found)
latest_of [] = inl (refl, refl)
latest_of (time ∷ times) = inr (last_of time times)
