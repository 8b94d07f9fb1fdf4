use Rattle.std.proofs.Common.{◌∷◌, []}
use Rattle.std.proofs.lemmas.Result.{err_from_is_err_and}
use Rattle.value_model.specs.Data as kind
use Rattle.record_parts.proofs.Wide.{fails_also}
use Rattle.record_parts.proofs.Basics.{flag}
use Rattle.record_parts.proofs.Values.{boolean_kind}
use Rattle.record_parts.proofs.Combine.{kind_read, kind_none}
use Rattle.record_parts.proofs.scalars.boolean_of.Goals as goal

pub returns-in_err-flag : goal.returns-in_err-flag
returns-in_err-flag c = λ limit.
    let p = err_from_is_err_and c.from_residual.result c.from_residual.ensures.1 in
    rw (p.1, p.2) (fails_also c.in_err-flag.field-0.0 (kind_none (1 ∷ []) kind.boolean flag (boolean_kind limit) c.args.bytes.now) c.in_err-flag.ensures)

pub returns : goal.returns
returns c = λ limit. (kind_read (1 ∷ []) kind.boolean flag (boolean_kind limit) c.args.bytes.now c.in_ok-flag.flag c.in_ok-flag.rest.now c.in_ok-flag.ensures)
