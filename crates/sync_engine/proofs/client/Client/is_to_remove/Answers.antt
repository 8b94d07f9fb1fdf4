use Rattle.std.proofs.Common.{◌↔◌, IsTrue, SFits, rules, w32}
use Rattle.std.proofs.lemmas.Int.{to_z-of_z}
use Rattle.std.specs.List.{Contains}
use Rattle.sync_engine.proofs.Outgoing.{removed_reset, removed_unless}
use Rattle.sync_engine.proofs.client.Client.is_to_remove.Goals as goal

pub returns-then-contains : goal.returns-then-contains
returns-then-contains c =
    let fits : SFits w32 c.args.target.now = search rules in
    let among : IsTrue c.contains.result ↔ Contains c.args.resets.now c.args.target.now = search rules in
    removed_reset c.args.resets.now c.args.target.now _ c.is_asked.result c.contains.result c.self.view_is (to_z-of_z w32 c.args.target.now fits) c.is_asked.ensures c.if-is_asked.true among c.if-contains.true

pub returns-else-contains : goal.returns-else-contains
returns-else-contains c =
    let fits : SFits w32 c.args.target.now = search rules in
    let among : IsTrue c.contains.result ↔ Contains c.args.resets.now c.args.target.now = search rules in
    removed_unless c.args.resets.now c.args.target.now _ c.is_asked.result c.contains.result c.is_sought.result c.self.view_is (to_z-of_z w32 c.args.target.now fits) c.is_asked.ensures c.if-is_asked.true among c.if-contains.false c.is_sought.ensures
