use Rattle.std.proofs.Common.{w32, ap, ◌∙◌}
use Rattle.std.proofs.lemmas.Int.{to_z-of_z}
use Rattle.sync_engine.specs.Standing.{Kept}
use Rattle.sync_engine.proofs.Holding.{no_row_holds, row_shares}
use Rattle.sync_engine.proofs.client.Client.row_holds.Goals as goal

pub returns-in_default : goal.returns-in_default
returns-in_default c = no_row_holds c.args.self.now _ c.args.id _ c.args.keys.now (c.targets.ensures ∙ ap (λ (k : Kept). k.store.state.rows) c.self.view_is) (to_z-of_z w32 c.args.id c.ranges.id) c.in_default.ensures

pub returns-in-Some-held : goal.returns-in-Some-held
returns-in-Some-held c = row_shares c.args.self.now _ c.args.id _ c.args.keys.now c.in-Some.row.now c.in-Some-held.held c.share_one.result (c.targets.ensures ∙ ap (λ (k : Kept). k.store.state.rows) c.self.view_is) (to_z-of_z w32 c.args.id c.ranges.id) c.in-Some.ensures c.in-Some-held.is c.share_one.ensures
