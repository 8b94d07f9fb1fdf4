use Rattle.std.proofs.Common.{IsTrue, subst, sym, rules}
use Rattle.std.specs.List.{AllPairs}
use Rattle.document_keys.specs.Order.{PathBefore}
use Rattle.std.proofs.lemmas.Result.{err_from_is_err_and}
use Rattle.record_parts.proofs.Wide.{fails_also}
use Rattle.outcome_codec.proofs.OutcomeForms.{ascending_none, ascending_other, entries_ascend}
use Rattle.outcome_codec.proofs.entries.entries_of.Goals as goal

pub returns-in_err-entries : goal.returns-in_err-entries
returns-in_err-entries c =
    let p = err_from_is_err_and c.from_residual.result c.from_residual.ensures.1 in
    rw (p.1, p.2) (fails_also c.in_err-entries.field-0.0 (ascending_none entries_ascend c.args.bytes.now) c.in_err-entries.ensures)

pub returns : goal.returns
returns c = ascending_other entries_ascend c.args.bytes.now c.in_ok-entries.entries.items c.in_ok-entries.rest.now c.in_ok-entries.ensures
    (λ order. let yes = subst IsTrue c.if-entries_ascend.false (c.entries_ascend.ensures.1 (subst (AllPairs (λ a b. PathBefore a.key b.key)) (sym c.as_slice.ensures.value) order)) in search rules)
