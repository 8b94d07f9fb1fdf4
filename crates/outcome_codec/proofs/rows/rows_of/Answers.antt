use Rattle.std.proofs.Common.{IsTrue, ◌<◌, subst, sym, rules}
use Rattle.std.specs.List.{AllPairs}
use Rattle.std.proofs.lemmas.Result.{err_from_is_err_and}
use Rattle.record_parts.proofs.Wide.{fails_also}
use Rattle.outcome_codec.proofs.OutcomeForms.{ascending_none, ascending_other, rows_ascend}
use Rattle.outcome_codec.proofs.rows.rows_of.Goals as goal

pub returns-in_err-rows : goal.returns-in_err-rows
returns-in_err-rows c =
    let p = err_from_is_err_and c.from_residual.result c.from_residual.ensures.1 in
    rw (p.1, p.2) (fails_also c.in_err-rows.field-0.0 (ascending_none rows_ascend c.args.bytes.now) c.in_err-rows.ensures)

pub returns : goal.returns
returns c = ascending_other rows_ascend c.args.bytes.now c.in_ok-rows.rows.items c.in_ok-rows.rest.now c.in_ok-rows.ensures
    (λ order. let yes = subst IsTrue c.if-rows_ascend.false (c.rows_ascend.ensures.1 (subst (AllPairs (λ a b. a.id < b.id)) (sym c.as_slice.ensures.value) order)) in search rules)
