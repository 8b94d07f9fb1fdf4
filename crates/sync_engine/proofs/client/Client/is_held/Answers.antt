use Rattle.std.proofs.Common.{arith, w32, ap, ◌∙◌}
use Rattle.std.proofs.Math.Facts.{to_z_pos}
use Rattle.sync_engine.specs.Standing.{Kept}
use Rattle.sync_engine.proofs.Blanked.{no_row_held}
use Rattle.sync_engine.proofs.client.Client.is_held.Goals as goal

pub returns-in-None : goal.returns-in-None
returns-in-None c = no_row_held _ _ c.args.id _ (c.targets-2.ensures ∙ ap (λ (k : Kept). k.store.state.rows) c.self.view_is) (to_z_pos w32 (omega (arith, c.if-id-next.false, c.next_id-next.ensures.id, c.next_id-next.ensures.most))) c.in-None.ensures
