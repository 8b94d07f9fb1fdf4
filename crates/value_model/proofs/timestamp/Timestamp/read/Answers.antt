use Rattle.std.proofs.Common.{◌∙◌, arith, sym, ap}
use Rattle.std.proofs.lemmas.Int.{ints}
use Rattle.value_model.specs.Time.{time_of}
use Rattle.value_model.proofs.Fractions.{read_is}
use Rattle.value_model.proofs.timestamp.Timestamp.read.Goals as goal

pub returns-clause-value : goal.returns-clause-value
returns-clause-value c =
    read_is c.as_bytes-bytes.result.now c.in_ok-day.day _ c.in_ok-second.second c.in_ok-nanos.nanos
    (sym c.has_marks.ensures ∙ c.if-not-has_marks.false) c.in_ok-day.ensures.value c.in_ok-second.ensures.value c.in_ok-nanos.ensures.value
    (omega (arith, ints, c.in_ok-day.ensures.bound.0, c.in_ok-day.ensures.bound.1, c.in_ok-second.ensures.bound))
    ∙ ap time_of c.as_bytes-bytes.ensures.value
