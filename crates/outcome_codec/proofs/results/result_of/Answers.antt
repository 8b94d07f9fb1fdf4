use Rattle.std.proofs.Common.{[]}
use Rattle.std.proofs.lemmas.Result.{err_from_is_err_and}
use Rattle.record_parts.proofs.Wide.{fails_also}
use Rattle.record_parts.proofs.Combine.{kind_none, kind_read, list, no_first, no_second, pair_read}
use Rattle.record_parts.proofs.Basics.{moment}
use Rattle.record_parts.proofs.Options.{optional}
use Rattle.record_parts.proofs.Values.{value_within}
use Rattle.outcome_codec.proofs.OutcomeForms.{result_kind, result_of_parts, result_parts}
use Rattle.outcome_codec.proofs.results.result_of.Goals as goal

pub returns-in_err-update_time : goal.returns-in_err-update_time
returns-in_err-update_time c =
    let p = err_from_is_err_and c.from_residual.result c.from_residual.ensures.1 in
    rw (p.1, p.2) (fails_also c.in_err-update_time.field-0.0 (λ none. kind_none ([]) result_of_parts result_parts result_kind c.args.bytes.now (no_first (optional moment) (λ _. (list (value_within 20))) c.args.bytes.now none)) c.in_err-update_time.ensures)

pub returns-in_err-values : goal.returns-in_err-values
returns-in_err-values c =
    let p = err_from_is_err_and c.from_residual-in_err-values.result c.from_residual-in_err-values.ensures.1 in
    rw (p.1, p.2) (fails_also c.in_err-values.field-0.0 (λ none. kind_none ([]) result_of_parts result_parts result_kind c.args.bytes.now (no_second (optional moment) (λ _. (list (value_within 20))) c.args.bytes.now c.in_ok-update_time.update_time c.in_ok-update_time.rest.now c.in_ok-update_time.ensures (none))) c.in_err-values.ensures)

pub returns : goal.returns
returns c = rw c.from_vec-transforms.ensures (kind_read ([]) result_of_parts result_parts result_kind c.args.bytes.now (c.in_ok-update_time.update_time, c.in_ok-values.values.items) c.in_ok-values.rest.now (pair_read (optional moment) (λ _. (list (value_within 20))) c.args.bytes.now c.in_ok-update_time.update_time c.in_ok-update_time.rest.now c.in_ok-values.values.items c.in_ok-values.rest.now c.in_ok-update_time.ensures (c.in_ok-values.ensures)))
