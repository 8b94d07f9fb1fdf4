use Rattle.std.specs.Int.{w64}
use Rattle.std.proofs.lemmas.Int.{to_z-of_z}
use Rattle.std.proofs.Common.{◌∷◌, []}
use Rattle.std.proofs.lemmas.Result.{err_from_is_err_and}
use Rattle.value_model.specs.Data as kind
use Rattle.record_parts.proofs.Wide.{fails_also}
use Rattle.record_parts.proofs.Basics.{whole_number}
use Rattle.record_parts.proofs.Values.{integer_kind}
use Rattle.record_parts.proofs.Combine.{kind_read, kind_none}
use Rattle.record_parts.proofs.scalars.integer_of.Goals as goal

pub returns-in_err-number : goal.returns-in_err-number
returns-in_err-number c = λ limit.
    let p = err_from_is_err_and c.from_residual.result c.from_residual.ensures.1 in
    rw (p.1, p.2) (fails_also c.in_err-number.field-0.0 (kind_none (2 ∷ []) kind.integer whole_number (integer_kind limit) c.args.bytes.now) c.in_err-number.ensures)

pub returns : goal.returns
returns c = λ limit. rw (to_z-of_z w64 c.in_ok-number.number c.in_ok-number.ensures.fits) (kind_read (2 ∷ []) kind.integer whole_number (integer_kind limit) c.args.bytes.now c.in_ok-number.number c.in_ok-number.rest.now c.in_ok-number.ensures)
