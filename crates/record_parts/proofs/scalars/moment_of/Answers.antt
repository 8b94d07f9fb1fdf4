use Rattle.std.proofs.Common.{◌∷◌, []}
use Rattle.std.proofs.lemmas.Result.{err_from_is_err_and}
use Rattle.value_model.specs.Data as kind
use Rattle.record_parts.proofs.Wide.{fails_also}
use Rattle.record_parts.proofs.Basics.{moment}
use Rattle.record_parts.proofs.Values.{time_kind}
use Rattle.record_parts.proofs.Combine.{kind_read, kind_none}
use Rattle.record_parts.proofs.scalars.moment_of.Goals as goal

pub returns-in_err-time : goal.returns-in_err-time
returns-in_err-time c = λ limit.
    let p = err_from_is_err_and c.from_residual.result c.from_residual.ensures.1 in
    rw (p.1, p.2) (fails_also c.in_err-time.field-0.0 (kind_none (3 ∷ []) kind.time moment (time_kind limit) c.args.bytes.now) c.in_err-time.ensures)

pub returns : goal.returns
returns c = λ limit. (kind_read (3 ∷ []) kind.time moment (time_kind limit) c.args.bytes.now c.in_ok-time.time c.in_ok-time.rest.now c.in_ok-time.ensures)
