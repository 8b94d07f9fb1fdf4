use Rattle.std.proofs.Common.{◌∙◌, drop, rules, sym, ap, arith}
use Rattle.document_keys.specs.Names.{parts_of}
use Rattle.document_keys.proofs.PathTexts.{first_of, get_from, next_from, none_behind}
use Rattle.document_keys.proofs.relative.part_at.Goals as goal

pub returns-in_default : goal.returns-in_default
returns-in_default c =
    let here = rw c.in_default.is at c.cut.ensures.cut in
    sym (none_behind (parts_of c.args.path.now) c.loop.counter c.args.index c.cut.result.0.now (c.loop.invariant.1 ∙ here) (omega arith))

pub loop-preserved : goal.loop-preserved
loop-preserved c =
    let here = rw c.in-Some.is at c.cut.ensures.cut in
    (search rules, next_from (parts_of c.args.path.now) c.loop.counter c.cut.result.0.now (parts_of c.in-Some.next.now) (c.loop.invariant.1 ∙ here))

pub returns : goal.returns
returns c =
    let here = first_of c.loop.rest.now c.cut-2.result.0.now c.cut-2.result.1 c.cut-2.ensures.cut in
    sym (get_from (parts_of c.args.path.now) c.args.index c.cut-2.result.0.now here.0 (ap (λ n. drop n (parts_of c.args.path.now)) (omega arith) ∙ c.loop.invariant.1 ∙ here.1))
