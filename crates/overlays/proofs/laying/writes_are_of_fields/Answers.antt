use Rattle.std.proofs.Common.{refl, subst}
use Rattle.std.proofs.lemmas.List.{take_all}
use Rattle.std.proofs.lemmas.List.Elements.{All-more}
use Rattle.std.specs.List.{All}
use Rattle.mutations.specs.Effect.{IsOfFieldsOnly}
use Rattle.overlays.proofs.laying.writes_are_of_fields.Goals as goal

pub loop-write-preserved : goal.loop-write-preserved
loop-write-preserved c = All-more IsOfFieldsOnly c.args.writes.now c.loop-write.write-index c.write-item.result c.loop-write-test.true c.loop-write.invariant (subst IsOfFieldsOnly c.write-item.is (c.is_of_fields_only.ensures.0 c.if-not-is_of_fields_only.false))

pub returns : goal.returns
returns c = (λ yes. subst (All IsOfFieldsOnly) (take_all c.loop-write.write-index c.args.writes.now c.loop-write-test.false) c.loop-write.invariant, λ all. refl)
