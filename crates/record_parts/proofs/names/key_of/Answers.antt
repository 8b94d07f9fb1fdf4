use Rattle.std.proofs.lemmas.Result.{err_from_is_err_and}
use Rattle.record_parts.proofs.Wide.{fails_also}
use Rattle.record_parts.proofs.Basics.{key_none, key_odd, key_read}
use Rattle.record_parts.proofs.names.key_of.Goals as goal

pub returns-in_err-builder : goal.returns-in_err-builder
returns-in_err-builder c =
    let p = err_from_is_err_and c.from_residual.result c.from_residual.ensures.1 in
    rw (p.1, p.2) (fails_also c.in_err-builder.field-0.0 (key_none c.args.bytes.now) c.in_err-builder.ensures)

pub returns-in_err-name : goal.returns-in_err-name
returns-in_err-name c =
    let p = err_from_is_err_and c.from_residual-in_err-name.result c.from_residual-in_err-name.ensures.1 in
    rw p.1 (fails_also p.0 (λ other. key_odd c.args.bytes.now c.in_ok-builder.builder c.in_ok-builder.rest.now c.in_ok-builder.ensures (c.in_err-name.ensures.fault other).1) p.2)

pub returns : goal.returns
returns c = key_read c.args.bytes.now c.in_ok-builder.builder c.in_ok-name.name c.in_ok-builder.rest.now c.in_ok-builder.ensures c.in_ok-name.ensures.key.0 c.in_ok-name.ensures.key.1
