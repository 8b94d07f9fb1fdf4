use Rattle.std.proofs.Common.{◌∙◌}
use Rattle.durable_state.proofs.Rows.{allocates}
use Rattle.durable_state.proofs.fitting.is_allocation.Goals as goal

pub returns-then-id-le-LAST_ID : goal.returns-then-id-le-LAST_ID
returns-then-id-le-LAST_ID c = allocates c.args.targets.now.rows c.args.id c.args.target.now c.find.result c.is_none.result (c.if-id-le-LAST_ID.true.0 ∙ c.next_id.ensures.id) c.if-id-le-LAST_ID.true.1 c.find.ensures c.is_none.ensures
