use Rattle.std.proofs.Common.{◌≡◌, pos, subst, sym}
use Rattle.jiff_core.specs.Calendar.{IsEpochDay}
use Rattle.jiff_core.specs.Date.{epoch_day}
use Rattle.jiff_core.proofs.DateLemmas.{epoch_day_range}
use Rattle.value_model.specs.Time.{IsDay}
use Rattle.value_model.proofs.Dates.{late_day}
use Rattle.value_model.proofs.Days.{days_are, first_day}
use Rattle.value_model.proofs.timestamp.day_number_of.Goals as goal
use Rattle.value_model.proofs.timestamp.day_number_of.Goals.{After-as_secs-seconds}

same : (c : After-as_secs-seconds) → epoch_day c.date.result ≡ pos 0
same c = first_day _ _ _ c.date.ensures.0 c.date.ensures.1 c.date.ensures.2

pub returns-clause-value : goal.returns-clause-value
returns-clause-value c =
    days_are _ _ _ _ (same c) c.duration_since.ensures c.as_secs-seconds.ensures (epoch_day_range c.args.date)

pub returns-clause-bound : goal.returns-clause-bound
returns-clause-bound c = subst IsEpochDay (sym (returns-clause-value c)) (epoch_day_range c.args.date)

pub returns-clause-late : goal.returns-clause-late
returns-clause-late c = λ late. subst IsDay (sym (returns-clause-value c)) (late_day c.args.date late, (epoch_day_range c.args.date).1)
