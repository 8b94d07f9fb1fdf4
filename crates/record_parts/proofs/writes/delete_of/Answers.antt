use Rattle.std.proofs.Common.{◌∷◌, []}
use Rattle.std.proofs.lemmas.Result.{err_from_is_err_and}
use Rattle.record_parts.proofs.Wide.{fails_also}
use Rattle.record_parts.proofs.Basics.{document_key}
use Rattle.record_parts.proofs.WriteForms.{delete_kind, delete_parts, delete_of_parts, condition}
use Rattle.record_parts.proofs.Combine.{no_first, no_second, pair_read, kind_read, kind_none}
use Rattle.record_parts.proofs.writes.delete_of.Goals as goal

pub returns-in_err-key : goal.returns-in_err-key
returns-in_err-key c =
    let p = err_from_is_err_and c.from_residual.result c.from_residual.ensures.1 in
    rw (p.1, p.2) (fails_also c.in_err-key.field-0.0 (λ none. kind_none (2 ∷ []) delete_of_parts delete_parts delete_kind c.args.bytes.now (no_first document_key (λ _. condition) c.args.bytes.now none)) c.in_err-key.ensures)

pub returns-in_err-condition : goal.returns-in_err-condition
returns-in_err-condition c =
    let p = err_from_is_err_and c.from_residual-in_err-condition.result c.from_residual-in_err-condition.ensures.1 in
    rw (p.1, p.2) (fails_also c.in_err-condition.field-0.0 (λ none. kind_none (2 ∷ []) delete_of_parts delete_parts delete_kind c.args.bytes.now (no_second document_key (λ _. condition) c.args.bytes.now c.in_ok-key.key c.in_ok-key.rest.now c.in_ok-key.ensures (none))) c.in_err-condition.ensures)

pub returns : goal.returns
returns c = kind_read (2 ∷ []) delete_of_parts delete_parts delete_kind c.args.bytes.now (c.in_ok-key.key, c.in_ok-condition.condition) c.in_ok-condition.rest.now (pair_read document_key (λ _. condition) c.args.bytes.now c.in_ok-key.key c.in_ok-key.rest.now c.in_ok-condition.condition c.in_ok-condition.rest.now c.in_ok-key.ensures (c.in_ok-condition.ensures))
