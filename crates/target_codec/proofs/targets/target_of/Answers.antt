use Rattle.std.proofs.Common.{arith}
use Rattle.std.proofs.lemmas.Result.{err_from_is_err_and}
use Rattle.record_parts.proofs.Wide.{fails_also, fails_always}
use Rattle.record_parts.proofs.Combine.{no_tag, other_tag, tag_read, tag_none}
use Rattle.target_codec.proofs.FilterForms.{target_tagged, document_kind, collection_kind, target_other}
use Rattle.target_codec.proofs.targets.target_of.Goals as goal

pub returns-in_err-byte : goal.returns-in_err-byte
returns-in_err-byte c =
    let p = err_from_is_err_and c.from_residual.result c.from_residual.ensures.1 in
    rw p.1 (fails_always p.0 (no_tag target_tagged c.args.bytes.now c.in_err-byte.ensures))

pub returns-in_err-key-in-1 : goal.returns-in_err-key-in-1
returns-in_err-key-in-1 c =
    let p = err_from_is_err_and c.from_residual-in_err-key-in-1.result c.from_residual-in_err-key-in-1.ensures.1 in
    rw (p.1, p.2) (fails_also c.in_err-key-in-1.field-0.0 (tag_none document_kind c.args.bytes.now c.in_ok-byte.byte c.in_ok-byte.rest.now c.in_ok-byte.ensures c.in-1.is) c.in_err-key-in-1.ensures)

pub returns-in_ok-key-in-1 : goal.returns-in_ok-key-in-1
returns-in_ok-key-in-1 c = tag_read document_kind c.args.bytes.now c.in_ok-byte.byte c.in_ok-byte.rest.now c.in_ok-byte.ensures c.in-1.is c.in_ok-key-in-1.key c.in_ok-key-in-1.rest.now c.in_ok-key-in-1.ensures

pub returns-in_err-content-in-2 : goal.returns-in_err-content-in-2
returns-in_err-content-in-2 c =
    let p = err_from_is_err_and c.from_residual-in_err-content-in-2.result c.from_residual-in_err-content-in-2.ensures.1 in
    rw (p.1, p.2) (fails_also c.in_err-content-in-2.field-0.0 (tag_none collection_kind c.args.bytes.now c.in_ok-byte.byte c.in_ok-byte.rest.now c.in_ok-byte.ensures c.in-2.is) c.in_err-content-in-2.ensures)

pub returns-in_ok-content-in-2 : goal.returns-in_ok-content-in-2
returns-in_ok-content-in-2 c = tag_read collection_kind c.args.bytes.now c.in_ok-byte.byte c.in_ok-byte.rest.now c.in_ok-byte.ensures c.in-2.is c.in_ok-content-in-2.content c.in_ok-content-in-2.rest.now c.in_ok-content-in-2.ensures

pub returns-in_default : goal.returns-in_default
returns-in_default c = other_tag target_tagged c.args.bytes.now c.in_ok-byte.byte c.in_ok-byte.rest.now c.in_ok-byte.ensures (target_other c.in_ok-byte.byte (λ e. absurd (omega (arith, e))) (λ e. absurd (omega (arith, e))))
