use Rattle.std.proofs.Common.{IsTrue, subst, rules}
use Rattle.std.proofs.lemmas.Result.{err_from_is_err_and}
use Rattle.record_parts.proofs.Wide.{fails_also}
use Rattle.target_codec.proofs.FilterForms.{query_none, query_other}
use Rattle.target_codec.proofs.targets.query_of.Goals as goal

pub returns-in_err-parts : goal.returns-in_err-parts
returns-in_err-parts c =
    let p = err_from_is_err_and c.from_residual.result c.from_residual.ensures.1 in
    rw (p.1, p.2) (fails_also c.in_err-parts.field-0.0 (query_none c.args.bytes.now) c.in_err-parts.ensures)

pub returns : goal.returns
returns c = query_other c.args.bytes.now c.in_ok-parts.parts c.in_ok-parts.rest.now c.in_ok-parts.ensures
    (λ checked. let yes = subst IsTrue c.if-branch.false (c.in_ok-is_checked.ensures.1 checked) in search rules)
