use Rattle.std.proofs.Common.{◌≡◌, ◌∙◌, w16, w64, unsigned_abs, arith, FitsSigned, sym}
use Rattle.std.proofs.lemmas.Int.{ints, to_z-of_z}
use Rattle.value_model.proofs.Written.{printed}
use Rattle.value_model.proofs.printing.put_date.Goals as goal

pub returns : goal.returns
returns c =
    let p = printed c.date_of-date.result c.args.day c.requires (c.date_of-date.ensures ∙ to_z-of_z w64 c.args.day c.ranges.day) in
    let fits : FitsSigned w16 c.date_of-date.result.year = omega (arith, ints, c.date_of-date.result.year_in.0, c.date_of-date.result.year_in.1) in
    let year : unsigned_abs c.date_of-date.result.year ≡ c.unsigned_abs.result = sym (rw (to_z-of_z w16 c.date_of-date.result.year fits) at c.unsigned_abs.ensures.value) in
    rw (p.text, year) c.put_ymd.ensures
