use Rattle.std.proofs.Common.{arith, FitsSigned, w64}
use Rattle.std.proofs.lemmas.Int.{ints}
use Rattle.value_model.proofs.Dates.{date_found}
use Rattle.value_model.proofs.timestamp.day_of_date.Goals as goal

pub returns-in-Ok-clause-value : goal.returns-in-Ok-clause-value
returns-in-Ok-clause-value c =
    let made = c.in-Ok.ensures.value in
    let day = c.day_number_of.ensures in
    let fits : FitsSigned w64 c.day_number_of.result = omega (arith, ints, day.bound.0, day.bound.1) in
    date_found _ _ _ _ _ _ _ (omega arith) c.requires.year c.requires.month c.requires.day fits
    made.0 made.1 made.2 c.in-Ok.date.month_in c.in-Ok.date.day_in day.value
