use Rattle.std.proofs.Common.{SFits, w32, rules}
use Rattle.std.proofs.lemmas.Int.{to_z-of_z}
use Rattle.sync_engine.proofs.Outgoing.{adds_nothing, adds_row}
use Rattle.sync_engine.proofs.client.Client.add_target.Goals as goal

pub returns-in_default-clause-adds : goal.returns-in_default-clause-adds
returns-in_default-clause-adds c =
    let fits : SFits w32 c.args.target.now = search rules in
    adds_nothing c.args.target.now _ c.targets.result.now.rows c.self.view_is (to_z-of_z w32 c.args.target.now fits) c.targets.ensures c.in_default.ensures

pub returns-clause-adds : goal.returns-clause-adds
returns-clause-adds c = λ has.
    let fits : SFits w32 c.args.target.now = search rules in
    adds_row c.args.target.now _ c.targets.result.now.rows c.in-Some.row.now c.in_ok-keys.keys c.in_ok-document.document c.self.view_is (to_z-of_z w32 c.args.target.now fits) c.targets.ensures c.in-Some.ensures
    c.in_ok-keys.ensures c.in_ok-document.ensures c.in_ok-request_add.ensures.done c.in_ok-push.ensures.items
