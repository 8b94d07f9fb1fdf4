use Rattle.std.proofs.Common.{[], ◌∷◌}
use Rattle.std.proofs.lemmas.Result.{err_from_is_err_and}
use Rattle.record_parts.proofs.Wide.{fails_also}
use Rattle.record_parts.proofs.Combine.{both, kind_none, kind_read, list, no_first, no_second, pair_read}
use Rattle.record_parts.proofs.Basics.{word, moment}
use Rattle.outcome_codec.proofs.OutcomeForms.{result_form}
use Rattle.record_codec.proofs.CommitForms.{acknowledge_kind, acknowledge_of_parts, acknowledge_parts}
use Rattle.record_codec.proofs.commits.acknowledge_of.Goals as goal

pub returns-in_err-batch : goal.returns-in_err-batch
returns-in_err-batch c =
    let p = err_from_is_err_and c.from_residual.result c.from_residual.ensures.1 in
    rw (p.1, p.2) (fails_also c.in_err-batch.field-0.0 (λ none. kind_none (2 ∷ []) acknowledge_of_parts acknowledge_parts acknowledge_kind c.args.bytes.now (no_first word (λ _. (both moment (list result_form))) c.args.bytes.now none)) c.in_err-batch.ensures)

pub returns-in_err-at : goal.returns-in_err-at
returns-in_err-at c =
    let p = err_from_is_err_and c.from_residual-in_err-at.result c.from_residual-in_err-at.ensures.1 in
    rw (p.1, p.2) (fails_also c.in_err-at.field-0.0 (λ none. kind_none (2 ∷ []) acknowledge_of_parts acknowledge_parts acknowledge_kind c.args.bytes.now (no_second word (λ _. (both moment (list result_form))) c.args.bytes.now c.in_ok-batch.batch c.in_ok-batch.rest.now c.in_ok-batch.ensures (no_first moment (λ _. (list result_form)) c.in_ok-batch.rest.now none))) c.in_err-at.ensures)

pub returns-in_err-results : goal.returns-in_err-results
returns-in_err-results c =
    let p = err_from_is_err_and c.from_residual-in_err-results.result c.from_residual-in_err-results.ensures.1 in
    rw (p.1, p.2) (fails_also c.in_err-results.field-0.0 (λ none. kind_none (2 ∷ []) acknowledge_of_parts acknowledge_parts acknowledge_kind c.args.bytes.now (no_second word (λ _. (both moment (list result_form))) c.args.bytes.now c.in_ok-batch.batch c.in_ok-batch.rest.now c.in_ok-batch.ensures (no_second moment (λ _. (list result_form)) c.in_ok-batch.rest.now c.in_ok-at.at c.in_ok-at.rest.now c.in_ok-at.ensures (none)))) c.in_err-results.ensures)

pub returns : goal.returns
returns c = kind_read (2 ∷ []) acknowledge_of_parts acknowledge_parts acknowledge_kind c.args.bytes.now (c.in_ok-batch.batch, (c.in_ok-at.at, c.in_ok-results.results)) c.in_ok-results.rest.now (pair_read word (λ _. (both moment (list result_form))) c.args.bytes.now c.in_ok-batch.batch c.in_ok-batch.rest.now (c.in_ok-at.at, c.in_ok-results.results) c.in_ok-results.rest.now c.in_ok-batch.ensures (pair_read moment (λ _. (list result_form)) c.in_ok-batch.rest.now c.in_ok-at.at c.in_ok-at.rest.now c.in_ok-results.results c.in_ok-results.rest.now c.in_ok-at.ensures (c.in_ok-results.ensures)))
