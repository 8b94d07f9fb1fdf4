use Rattle.std.proofs.Common.{[]}
use Rattle.std.proofs.lemmas.Result.{err_from_is_err_and}
use Rattle.record_parts.proofs.Wide.{fails_also}
use Rattle.record_parts.proofs.Combine.{kind_none, kind_read, no_first, no_second, pair_read}
use Rattle.record_parts.proofs.Basics.{document_key}
use Rattle.outcome_codec.proofs.OutcomeForms.{keyed_kind, keyed_of_parts, keyed_parts, seen_form}
use Rattle.outcome_codec.proofs.entries.keyed_of.Goals as goal

pub returns-in_err-key : goal.returns-in_err-key
returns-in_err-key c =
    let p = err_from_is_err_and c.from_residual.result c.from_residual.ensures.1 in
    rw (p.1, p.2) (fails_also c.in_err-key.field-0.0 (λ none. kind_none ([]) keyed_of_parts keyed_parts keyed_kind c.args.bytes.now (no_first document_key (λ _. seen_form) c.args.bytes.now none)) c.in_err-key.ensures)

pub returns-in_err-entry : goal.returns-in_err-entry
returns-in_err-entry c =
    let p = err_from_is_err_and c.from_residual-in_err-entry.result c.from_residual-in_err-entry.ensures.1 in
    rw (p.1, p.2) (fails_also c.in_err-entry.field-0.0 (λ none. kind_none ([]) keyed_of_parts keyed_parts keyed_kind c.args.bytes.now (no_second document_key (λ _. seen_form) c.args.bytes.now c.in_ok-key.key c.in_ok-key.rest.now c.in_ok-key.ensures (none))) c.in_err-entry.ensures)

pub returns : goal.returns
returns c = kind_read ([]) keyed_of_parts keyed_parts keyed_kind c.args.bytes.now (c.in_ok-key.key, c.in_ok-entry.entry) c.in_ok-entry.rest.now (pair_read document_key (λ _. seen_form) c.args.bytes.now c.in_ok-key.key c.in_ok-key.rest.now c.in_ok-entry.entry c.in_ok-entry.rest.now c.in_ok-key.ensures (c.in_ok-entry.ensures))
