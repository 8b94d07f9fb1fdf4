use Rattle.std.proofs.Common.{arith}
use Rattle.std.proofs.lemmas.Result.{err_from_is_err_and}
use Rattle.record_parts.proofs.Wide.{fails_also}
use Rattle.target_codec.proofs.Parts.{path_none, path_other, path_read}
use Rattle.target_codec.proofs.paths.query_path_of.Goals as goal

pub returns-in_err-names : goal.returns-in_err-names
returns-in_err-names c =
    let p = err_from_is_err_and c.from_residual.result c.from_residual.ensures.1 in
    rw (p.1, p.2) (fails_also c.in_err-names.field-0.0 (path_none c.args.bytes.now) c.in_err-names.ensures)

pub returns-in-Ok : goal.returns-in-Ok
returns-in-Ok c = path_read c.args.bytes.now c.in_ok-names.names.items c.in-Ok.path c.in_ok-names.rest.now c.in_ok-names.ensures c.in-Ok.ensures.path.0 c.in-Ok.ensures.path.1 (omega arith)

pub returns-in-Err : goal.returns-in-Err
returns-in-Err c = path_other c.args.bytes.now c.in_ok-names.names.items c.in_ok-names.rest.now c.in-Err.field-0 c.in_ok-names.ensures c.in-Err.ensures.fault
