use Rattle.std.proofs.Common.{rules, IsTrue, refl, ap, ◌∙◌}
use Rattle.json.specs.Value.{value_view}
use Rattle.json.proofs.Trees.{view-Object}
use Rattle.plain_json.proofs.Gathered.{no_parts, more_parts, all_parts}
use Rattle.plain_json.proofs.writes.plain_parts.Goals as goal

pub loop-member-init : goal.loop-member-init
loop-member-init c = no_parts _ _ refl

pub loop-member-preserved : goal.loop-member-preserved
loop-member-preserved c =
    let done : IsTrue c.put.result = search rules in
    more_parts _ _ c.loop-member.member-index c.member-item.result _ _ c.in-Some.part c.loop-member-test.true c.member-item.is c.loop-member.invariant (rw c.in-Some.is at c.in_ok-part.ensures) (c.put.ensures done)

pub returns : goal.returns
returns c =
    all_parts _ _ _ _ c.loop-member.member-index _ (ap value_view c.in-Object.is ∙ view-Object c.in-Object.members) c.deref-member-items.ensures.value c.loop-member-test.false c.loop-member.auto.member-index-end c.loop-member.invariant
