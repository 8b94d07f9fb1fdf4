use Rattle.std.proofs.Common.{refl}
use Rattle.std.proofs.lemmas.List.{take_all}
use Rattle.std.proofs.lemmas.List.Elements.{All-more}
use Rattle.durable_state.specs.Rows.{HasRow}
use Rattle.durable_state.proofs.fitting.have_rows.Goals as goal

pub loop-id-preserved : goal.loop-id-preserved
loop-id-preserved c = All-more (HasRow c.args.targets.now.rows) c.args.ids.now c.loop-id.id-index 0 c.loop-id-test.true c.loop-id.invariant (c.has_row.ensures.0 c.if-not-has_row.false)

pub returns : goal.returns
returns c = (λ yes. rw (take_all _ _ c.loop-id-test.false) at c.loop-id.invariant, λ all. refl)
