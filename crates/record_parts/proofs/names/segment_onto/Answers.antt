use Rattle.std.proofs.lemmas.Result.{err_from_is_err_and}
use Rattle.record_parts.proofs.Wide.{fails_also}
use Rattle.record_parts.proofs.Basics.{segment_other}
use Rattle.record_parts.proofs.names.segment_onto.Goals as goal

pub returns-in_err-longer-clause-none : goal.returns-in_err-longer-clause-none
returns-in_err-longer-clause-none c =
    let p = err_from_is_err_and c.from_residual-in_err-longer.result c.from_residual-in_err-longer.ensures.1 in
    rw p.1 (fails_also p.0 (λ other. segment_other c.args.bytes.now c.in_ok-content.content.now c.in_ok-content.rest.now c.in_ok-content.ensures (c.in_err-longer.ensures.fault other).1) p.2)
