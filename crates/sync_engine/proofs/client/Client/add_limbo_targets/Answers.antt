use Rattle.std.proofs.Common.{◌≡◌, get_or, pos}
use Rattle.sync_engine.proofs.Outgoing.{due_kept_then, listens_more, run_kept}
use Rattle.sync_engine.proofs.Picking.{item_at}
use Rattle.sync_engine.proofs.client.Client.add_limbo_targets.Goals as goal

pub loop-target-preserved : goal.loop-target-preserved
loop-target-preserved c =
    let targets = c.args.targets.now in
    let n = c.loop-target.target-index in
    let x = get_or targets n (pos 0) in
    let at : x ≡ get_or targets n x = item_at targets n (pos 0) x c.loop-target-test.true in
    record {
      rest = due_kept_then c.loop-target.invariant.rest c.add_limbo_target.ensures.rest;
      adds = λ have. listens_more targets n x c.loop-target-test.true at c.loop-target.invariant.rest (c.loop-target.invariant.adds have)
          (c.in_ok-add_limbo_target.ensures.adds (run_kept targets n x c.loop-target-test.true at c.loop-target.invariant.rest have));
    }

pub returns-in_err-add_limbo_target-clause-rest : goal.returns-in_err-add_limbo_target-clause-rest
returns-in_err-add_limbo_target-clause-rest c = due_kept_then c.loop-target.invariant.rest c.add_limbo_target.ensures.rest
