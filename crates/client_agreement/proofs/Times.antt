-- times as numbers stand as the times do
use Rattle.std.proofs.Common.{◌≡◌, ◌<◌, ◌≤◌, Bool, true, false, not, nat_le, nat_lt, refl, arith}
use Rattle.std.proofs.lemmas.Bool.{ltb-false, leb-true, leb-false}
use Rattle.acknowledgements.proofs.Times.{earlier_so, not_earlier}
use Rattle.acknowledgements.specs.Acked.{is_earlier}
use Rattle.agreement.proofs.Ticks.{ticks_ordered}
use Rattle.agreement.specs.Backend.{tick}
use Rattle.value_model.proofs.Instants.{times_ordered}
use Rattle.value_model.specs.Order.{Earlier}
use Rattle.value_model.specs.Time.{IsMoment}
use Rattle.value_model.specs.declared.timestamp.Timestamp.{Timestamp}

pub earlier_less : (a b : Timestamp) → IsMoment a → IsMoment b → Earlier a b → tick a < tick b
earlier_less a b first second before = (ticks_ordered.before a b first second).0 ((times_ordered a b first second).0 before)

pub less_earlier : (a b : Timestamp) → IsMoment a → IsMoment b → tick a < tick b → Earlier a b
less_earlier a b first second less = (times_ordered a b first second).1 ((ticks_ordered.before a b first second).1 less)

pub not_earlier_le : (a b : Timestamp) → IsMoment a → IsMoment b → ¬ (Earlier a b) → tick b ≤ tick a
not_earlier_le a b first second not_before = by (nat_le (tick b) (tick a)) refl
  where
    by : (x : Bool) → nat_le (tick b) (tick a) ≡ x → tick b ≤ tick a
    by true is = leb-true (tick b) (tick a) is
    by false is = let less = leb-false (tick b) (tick a) is in absurd (not_before (less_earlier a b first second (omega (arith, less))))

-- one isn't later exactly where the other isn't earlier
pub le_unless : (a b : Timestamp) → IsMoment a → IsMoment b → nat_le (tick a) (tick b) ≡ not (is_earlier b a)
le_unless a b first second = by (is_earlier b a) refl
  where
    by : (x : Bool) → is_earlier b a ≡ x → nat_le (tick a) (tick b) ≡ not x
    by true is = let less = earlier_less b a second first (earlier_so b a is) in le_false (nat_le (tick a) (tick b)) refl less
      where
        le_false : (y : Bool) → nat_le (tick a) (tick b) ≡ y → tick b < tick a → nat_le (tick a) (tick b) ≡ false
        le_false false same less = same
        le_false true same less = let other = leb-true (tick a) (tick b) same in absurd (omega (arith, other, less))
    by false is = le_true (nat_le (tick a) (tick b)) refl (not_earlier_le b a second first (not_earlier b a is))
      where
        le_true : (y : Bool) → nat_le (tick a) (tick b) ≡ y → tick a ≤ tick b → nat_le (tick a) (tick b) ≡ true
        le_true true same le = same
        le_true false same le = let other = leb-false (tick a) (tick b) same in absurd (omega (arith, other, le))

pub tick_above : (time : Timestamp) → nat_lt 0 (tick time) ≡ true
tick_above time = by (nat_lt 0 (tick time)) refl
  where
    by : (b : Bool) → nat_lt 0 (tick time) ≡ b → nat_lt 0 (tick time) ≡ true
    by true is = is
    by false is = let not_below = ltb-false 0 (tick time) is in let above = ticks_ordered.positive time in absurd (omega (arith, not_below, above))
