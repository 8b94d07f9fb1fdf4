use Rattle.std.proofs.Common.{◌≡◌, SFits, get_or, of_z, pos, rules, to_z, w32, refl, ◌∙◌}
use Rattle.std.proofs.lemmas.Int.{to_z-of_z}
use Rattle.sync_engine.proofs.Outgoing.{due_kept_then, removes_more}
use Rattle.sync_engine.proofs.Picking.{item_at}
use Rattle.sync_engine.proofs.client.Client.remove_targets.Goals as goal

pub loop-target-preserved : goal.loop-target-preserved
loop-target-preserved c =
    let targets = c.args.targets.now in
    let n = c.loop-target.target-index in
    let there = get_or targets n (pos 0) in
    let fits : SFits w32 there = search rules in
    let x = to_z w32 (of_z w32 there) in
    let at : x ≡ get_or targets n x = to_z-of_z w32 there fits ∙ item_at targets n (pos 0) x c.loop-target-test.true in
    record {
      rest = due_kept_then c.loop-target.invariant.rest (record {
        rest = record { root = refl; store = refl; listeners = refl; limbo = refl; writes = refl; spent = refl; opening = refl; online = refl; current = refl };
        due = refl;
      });
      removes = removes_more targets n x c.loop-target-test.true at c.loop-target.invariant.removes c.request_remove.ensures c.in_ok-push.ensures.items;
    }
