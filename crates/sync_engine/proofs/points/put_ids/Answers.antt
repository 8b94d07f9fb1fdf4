use Rattle.std.proofs.Common.{◌≡◌, refl, arith}
use Rattle.std.proofs.lemmas.List.{get_or_default}
use Rattle.sync_engine.proofs.Moved.{has_all, put_more}
use Rattle.sync_engine.proofs.points.put_ids.Goals as goal

pub loop-id-preserved : goal.loop-id-preserved
loop-id-preserved c = put_more c.args.ids.now c.loop-id.id-index _ _ _ _ c.loop-id-test.true (get_or_default c.args.ids.now c.loop-id.id-index _ _ c.loop-id-test.true) c.loop-id.invariant c.in_ok-insert.ensures.updates

pub returns-clause-each : goal.returns-clause-each
returns-clause-each c = λ id among. (has_all (λ x q. x ≡ q) c.args.ids.now c.loop-id.id-index _ _ (omega (arith, c.loop-id-test.false, c.loop-id.auto.id-index-end)) c.loop-id.invariant).each id among id refl
