use Rattle.std.proofs.Common.{IsTrue, subst, sym, rules}
use Rattle.std.specs.List.{AllPairs}
use Rattle.document_keys.specs.Order.{PathBefore}
use Rattle.std.proofs.lemmas.Result.{err_from_is_err_and}
use Rattle.record_parts.proofs.Wide.{fails_also}
use Rattle.outcome_codec.proofs.OutcomeForms.{ascending_none, ascending_other, keys_ascend}
use Rattle.outcome_codec.proofs.keys.keys_of.Goals as goal

pub returns-in_err-keys : goal.returns-in_err-keys
returns-in_err-keys c =
    let p = err_from_is_err_and c.from_residual.result c.from_residual.ensures.1 in
    rw (p.1, p.2) (fails_also c.in_err-keys.field-0.0 (ascending_none keys_ascend c.args.bytes.now) c.in_err-keys.ensures)

pub returns-then-not-keys_ascend : goal.returns-then-not-keys_ascend
returns-then-not-keys_ascend c = ascending_other keys_ascend c.args.bytes.now c.in_ok-keys.keys.items c.in_ok-keys.rest.now c.in_ok-keys.ensures
    (λ order. let yes = subst IsTrue c.if-not-keys_ascend.true (c.keys_ascend.ensures.1 (subst (AllPairs PathBefore) (sym c.as_slice.ensures.value) order)) in search rules)
