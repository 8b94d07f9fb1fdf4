-- Times as numbers.
use Rattle.std.proofs.Common.{◌≡◌, ◌<◌, arith}
use Rattle.std.specs.Prelude.{◌<ℤ◌}
use Rattle.std.proofs.lemmas.Int.{ints}
use Rattle.value_model.specs.Time.{IsMoment, instant}
use Rattle.value_model.specs.declared.timestamp.Timestamp.{Timestamp}
use Rattle.agreement.specs.Backend.{tick}
use Rattle.agreement.specs.Laws.{TicksAreOrdered}

positive : (time : Timestamp) → 0 < tick time
unfolding tick
positive time = omega arith

below : (time other : Timestamp) → IsMoment time → IsMoment other → instant time <ℤ instant other → tick time < tick other
unfolding tick
below time other first second h = omega (arith, ints, first.seconds.0, first.nanos, second.seconds.0, second.nanos, h)

above : (time other : Timestamp) → IsMoment time → IsMoment other → tick time < tick other → instant time <ℤ instant other
unfolding tick
above time other first second h = omega (arith, ints, first.seconds.0, first.nanos, second.seconds.0, second.nanos, h)

seconds_same : (time other : Timestamp) → IsMoment time → IsMoment other → tick time ≡ tick other → time.seconds ≡ other.seconds
unfolding tick
seconds_same time other first second h = omega (arith, ints, first.seconds.0, first.nanos, second.seconds.0, second.nanos, h)

nanos_same : (time other : Timestamp) → IsMoment time → IsMoment other → tick time ≡ tick other → time.nanos ≡ other.nanos
unfolding tick
nanos_same time other first second h = omega (arith, ints, first.seconds.0, first.nanos, second.seconds.0, second.nanos, h)

pub ticks_ordered : TicksAreOrdered
ticks_ordered = record {
  positive = positive;
  before = λ time other first second. (below time other first second, above time other first second);
  same = λ time other first second h i. record { seconds = seconds_same time other first second h i; nanos = nanos_same time other first second h i };
}
