use Rattle.std.proofs.Common.{IsTrue, ◌<◌, subst, sym, rules}
use Rattle.std.specs.List.{AllPairs}
use Rattle.std.proofs.lemmas.Result.{err_from_is_err_and}
use Rattle.record_parts.proofs.Wide.{fails_also}
use Rattle.outcome_codec.proofs.OutcomeForms.{ascending_none, ascending_other, ids_ascend}
use Rattle.outcome_codec.proofs.ids.ids_of.Goals as goal

pub returns-in_err-ids : goal.returns-in_err-ids
returns-in_err-ids c =
    let p = err_from_is_err_and c.from_residual.result c.from_residual.ensures.1 in
    rw (p.1, p.2) (fails_also c.in_err-ids.field-0.0 (ascending_none ids_ascend c.args.bytes.now) c.in_err-ids.ensures)

pub returns : goal.returns
returns c = ascending_other ids_ascend c.args.bytes.now c.in_ok-ids.ids.items c.in_ok-ids.rest.now c.in_ok-ids.ensures
    (λ order. let yes = subst IsTrue c.if-ids_ascend.false (c.ids_ascend.ensures.1 (subst (AllPairs ◌<◌) (sym c.as_slice.ensures.value) order)) in search rules)
