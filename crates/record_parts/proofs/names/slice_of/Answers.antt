use Rattle.std.proofs.lemmas.Result.{err_from_is_err_and}
use Rattle.record_parts.proofs.Wide.{fails_also}
use Rattle.record_parts.proofs.Basics.{bytes_no_length, bytes_short, bytes_read}
use Rattle.record_parts.proofs.names.slice_of.Goals as goal

pub returns-in_err-len : goal.returns-in_err-len
returns-in_err-len c =
    let p = err_from_is_err_and c.from_residual.result c.from_residual.ensures.1 in
    rw (p.1, p.2) (fails_also c.in_err-len.field-0.0 (bytes_no_length c.args.bytes.now) c.in_err-len.ensures)

pub returns-then-rest-len : goal.returns-then-rest-len
returns-then-rest-len c = bytes_short c.args.bytes.now c.in_ok-len.len c.in_ok-len.rest.now c.in_ok-len.ensures c.if-rest-len.true

pub returns : goal.returns
returns c = bytes_read c.args.bytes.now c.in_ok-len.len c.in_ok-len.rest.now c.split_at.result.0.now c.split_at.result.1.now c.in_ok-len.ensures c.split_at.ensures.front c.split_at.ensures.back c.if-rest-len.false
