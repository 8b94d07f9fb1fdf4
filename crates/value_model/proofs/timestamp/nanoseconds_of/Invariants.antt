use Rattle.std.proofs.Common.{◌≡◌, take, true, ◌<◌, ◌^◌}
use Rattle.std.specs.List.{list_all}
use Rattle.value_model.specs.Time.{number_of, is_digit}
use Rattle.value_model.proofs.timestamp.nanoseconds_of.Given as goal

abbrev pub invariant-loop-digit : goal.invariant-loop-digit
invariant-loop-digit l = (l.number ≡ number_of (take l.digit-index l.digits)) × (list_all is_digit (take l.digit-index l.digits) ≡ true) × (l.number < 10 ^ l.digit-index)
