use Rattle.std.proofs.Common.{SFits, w32, rules}
use Rattle.std.proofs.lemmas.Int.{to_z-of_z}
use Rattle.sync_engine.proofs.Outgoing.{adds_listen, adds_no_listen}
use Rattle.sync_engine.proofs.client.Client.add_limbo_target.Goals as goal

pub returns-in_default-clause-adds : goal.returns-in_default-clause-adds
returns-in_default-clause-adds c =
    let fits : SFits w32 c.args.target.now = search rules in
    adds_no_listen c.args.target.now _ c.self.view_is (to_z-of_z w32 c.args.target.now fits) c.in_default.ensures

pub returns-clause-adds : goal.returns-clause-adds
returns-clause-adds c = λ runs.
    let fits : SFits w32 c.args.target.now = search rules in
    adds_listen c.args.target.now _ c.in-Some.key.now c.in_ok-document.document c.new.result c.self.view_is (to_z-of_z w32 c.args.target.now fits) c.in-Some.ensures
    c.in_ok-document.ensures c.new.ensures c.in_ok-request_add.ensures.done c.in_ok-push.ensures.items
