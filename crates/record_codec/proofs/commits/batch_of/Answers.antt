use Rattle.std.proofs.Common.{[]}
use Rattle.std.proofs.lemmas.Result.{err_from_is_err_and}
use Rattle.record_parts.proofs.Wide.{fails_also}
use Rattle.record_parts.proofs.Basics.{word, moment}
use Rattle.record_parts.proofs.WriteForms.{write_form}
use Rattle.record_codec.proofs.CommitForms.{batch_kind, batch_parts, batch_of_parts, from_time}
use Rattle.record_parts.proofs.Combine.{no_first, no_second, pair_read, kind_read, kind_none, list}
use Rattle.record_codec.proofs.commits.batch_of.Goals as goal

pub returns-in_err-id : goal.returns-in_err-id
returns-in_err-id c =
    let p = err_from_is_err_and c.from_residual.result c.from_residual.ensures.1 in
    rw (p.1, p.2) (fails_also c.in_err-id.field-0.0 (λ none. kind_none [] batch_of_parts batch_parts batch_kind c.args.bytes.now (no_first word (λ _. from_time) c.args.bytes.now none)) c.in_err-id.ensures)

pub returns-in_err-at : goal.returns-in_err-at
returns-in_err-at c =
    let p = err_from_is_err_and c.from_residual-in_err-at.result c.from_residual-in_err-at.ensures.1 in
    rw (p.1, p.2) (fails_also c.in_err-at.field-0.0 (λ none. kind_none [] batch_of_parts batch_parts batch_kind c.args.bytes.now (no_second word (λ _. from_time) c.args.bytes.now c.in_ok-id.id c.in_ok-id.rest.now c.in_ok-id.ensures (no_first moment (λ _. (list write_form)) c.in_ok-id.rest.now none))) c.in_err-at.ensures)

pub returns-in_err-writes : goal.returns-in_err-writes
returns-in_err-writes c =
    let p = err_from_is_err_and c.from_residual-in_err-writes.result c.from_residual-in_err-writes.ensures.1 in
    rw (p.1, p.2) (fails_also c.in_err-writes.field-0.0 (λ none. kind_none [] batch_of_parts batch_parts batch_kind c.args.bytes.now (no_second word (λ _. from_time) c.args.bytes.now c.in_ok-id.id c.in_ok-id.rest.now c.in_ok-id.ensures (no_second moment (λ _. (list write_form)) c.in_ok-id.rest.now c.in_ok-at.at c.in_ok-at.rest.now c.in_ok-at.ensures (none)))) c.in_err-writes.ensures)

pub returns : goal.returns
returns c = kind_read [] batch_of_parts batch_parts batch_kind c.args.bytes.now (c.in_ok-id.id, (c.in_ok-at.at, c.in_ok-writes.writes)) c.in_ok-writes.rest.now (pair_read word (λ _. from_time) c.args.bytes.now c.in_ok-id.id c.in_ok-id.rest.now (c.in_ok-at.at, c.in_ok-writes.writes) c.in_ok-writes.rest.now c.in_ok-id.ensures (pair_read moment (λ _. (list write_form)) c.in_ok-id.rest.now c.in_ok-at.at c.in_ok-at.rest.now c.in_ok-writes.writes c.in_ok-writes.rest.now c.in_ok-at.ensures (c.in_ok-writes.ensures)))
