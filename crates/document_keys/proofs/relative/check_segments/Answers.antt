use Rattle.std.proofs.Common.{[], refl, rules}
use Rattle.std.proofs.lemmas.List.Elements.{All-nil}
use Rattle.document_keys.specs.Names.{IsSegment}
use Rattle.document_keys.proofs.PathTexts.{all_from, all_more, first_from, first_of}
use Rattle.document_keys.proofs.relative.check_segments.Goals as goal

pub returns-then-not-is_segment-clause-fault : goal.returns-then-not-is_segment-clause-fault
returns-then-not-is_segment-clause-fault c =
    let first = first_of c.loop-others.rest.now c.cut.result.0.now c.cut.result.1 c.cut.ensures.cut in
    (refl, λ all. let yes = c.is_segment.ensures.1 (first_from c.loop-others.rest.now c.cut.result.0.now first.0 first.1 (c.loop-others.invariant.1.0 all)) in cc)

pub returns-in_default-clause-segments : goal.returns-in_default-clause-segments
returns-in_default-clause-segments c =
    let here = rw c.in_default.is at c.cut.ensures.cut in
    c.loop-others.invariant.1.1 (all_from c.loop-others.rest.now c.cut.result.0.now [] here (c.is_segment.ensures.0 (search rules)) (All-nil IsSegment))

pub loop-others-preserved : goal.loop-others-preserved
loop-others-preserved c =
    let here = rw c.in-Some.is at c.cut.ensures.cut in
    (search rules, all_more c.args.path.now c.loop-others.rest.now c.cut.result.0.now c.in-Some.next.now here (c.is_segment.ensures.0 (search rules)) c.loop-others.invariant.1)
