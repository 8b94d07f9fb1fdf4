use Rattle.std.proofs.Common.{◌∙◌, ◌++◌, ap, arith, rules, sym, take}
use Rattle.document_keys.proofs.PathTexts.{differ_from, first_of, last_part, one_part_more, other_part, same_from}
use Rattle.document_keys.proofs.relative.after_segments.Goals as goal

pub returns-then-ne : goal.returns-then-ne
returns-then-ne c =
    let first = first_of c.loop-segment.rest.now c.cut.result.0.now c.cut.result.1 c.cut.ensures.cut in
    other_part _ _ first.0 c.loop-segment.segment-index c.cut.result.0.now c.segment-item.result (omega arith) c.segment-item.is (λ same. differ_from _ _ c.ne.result c.ne.ensures c.if-ne.true (same ∙ sym c.as_str.ensures.text)) (c.loop-segment.invariant.1 ∙ ap (λ ps. take c.loop-segment.segment-index c.args.segments.now ++ ps) first.1)

pub returns-in_default : goal.returns-in_default
returns-in_default c =
    let here = rw c.in_default.is at c.cut.ensures.cut in
    last_part _ _ c.loop-segment.segment-index c.cut.result.0.now c.segment-item.result (omega arith) c.segment-item.is (c.loop-segment.invariant.1 ∙ ap (λ ps. take c.loop-segment.segment-index c.args.segments.now ++ ps) here)

pub loop-segment-preserved : goal.loop-segment-preserved
loop-segment-preserved c =
    let here = rw c.in-Some.is at c.cut.ensures.cut in
    (search rules, one_part_more _ _ _ c.loop-segment.segment-index c.cut.result.0.now c.segment-item.result (omega arith) c.segment-item.is (same_from _ _ c.ne.result c.ne.ensures c.if-ne.false ∙ c.as_str.ensures.text) (c.loop-segment.invariant.1 ∙ ap (λ ps. take c.loop-segment.segment-index c.args.segments.now ++ ps) here))
