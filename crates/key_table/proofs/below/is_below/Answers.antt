use Rattle.std.proofs.Common.{◌∙◌, Some, ap, arith, refl, sym}
use Rattle.std.proofs.lemmas.List.{take_all}
use Rattle.key_table.proofs.Ranges.{all_same, equal_texts, other_at, other_texts, same_more}
use Rattle.key_table.proofs.below.is_below.Goals as goal

pub returns : goal.returns
returns c = (λ yes. all_same c.args.collection.now c.args.key.now c.loop-index.index c.loop-index.invariant.0 (take_all c.loop-index.index c.args.collection.now (omega (arith, c.loop-index-test.false, c.loop-index.invariant))), λ below. refl)

pub returns-then-ne : goal.returns-then-ne
returns-then-ne c =
    let other = other_texts c.in-Some.segment.now c.in-Some-segment.other.now c.if-ne.ensures in
    (λ no. cc, λ below. absurd (other_at c.args.collection.now c.args.key.now c.loop-index.index (λ same. let one = c.in-Some.ensures ∙ same ∙ sym c.in-Some-segment.ensures in other cc) (omega (arith, c.loop-index-test.true, c.loop-index.invariant)) below))

pub loop-index-preserved : goal.loop-index-preserved
loop-index-preserved c =
    let same = equal_texts c.in-Some.segment.now c.in-Some-segment.other.now c.if-ne.ensures in
    (same_more c.args.collection.now c.args.key.now c.loop-index.index c.in-Some.segment.now c.loop-index.invariant.0 (sym c.in-Some.ensures) (sym c.in-Some-segment.ensures ∙ ap Some (sym same)), omega (arith, c.loop-index-test.true, c.loop-index.invariant), c.loop-index.invariant.2)
