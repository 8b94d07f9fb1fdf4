use Rattle.std.proofs.Common.{arith, ap, Vec, Global, ◌∙◌}
use Rattle.sync_engine.specs.declared.out.Out.{Out}
use Rattle.sync_engine.proofs.Picking.{item_at}
use Rattle.sync_engine.proofs.Settled.{keeps_then, none_settled, all_settled, settled_raised, settled_quiet}
use Rattle.sync_engine.proofs.client.Client.settle.Goals as goal
use Rattle.sync_engine.proofs.client.Client.settle.Goals.{then-branch+in_ok-push, else-branch}

pub loop-id-init : goal.loop-id-init
loop-id-init c = record { settling = none_settled _ _ _ }

pub loop-id-preserved : goal.loop-id-preserved
loop-id-preserved c = record {
  settling = elim c.if-branch.branch [
    | then-branch+in_ok-push w ↦ settled_raised _ _ _ _ _ _ _ _ _ _ c.requires.ascending c.loop-id-test.true (item_at _ _ _ _ c.loop-id-test.true) c.loop-id.invariant.settling c.in_ok-show.ensures.shows c.show.ensures.rest w.if-branch.true (ap (λ (v : Vec Out Global). v.items) w.outs-is ∙ w.in_ok-push.ensures.items)
    | else-branch w ↦ settled_quiet _ _ _ _ _ _ _ _ _ _ c.requires.ascending c.loop-id-test.true (item_at _ _ _ _ c.loop-id-test.true) c.loop-id.invariant.settling c.in_ok-show.ensures.shows c.show.ensures.rest w.if-branch.false (ap (λ (v : Vec Out Global). v.items) w.outs-is)
  ];
}

pub returns-clause-raises : goal.returns-clause-raises
returns-clause-raises c = λ others. all_settled (omega (arith, c.loop-id-test.false, c.loop-id.auto.id-index-end)) others c.loop-id.invariant.settling

pub returns-clause-rest : goal.returns-clause-rest
returns-clause-rest c = c.loop-id.invariant.settling.rest

pub returns-in_err-show-clause-rest : goal.returns-in_err-show-clause-rest
returns-in_err-show-clause-rest c = keeps_then c.loop-id.invariant.settling.rest c.show.ensures.rest

pub returns-in_err-push-clause-rest : goal.returns-in_err-push-clause-rest
returns-in_err-push-clause-rest c = keeps_then c.loop-id.invariant.settling.rest c.show.ensures.rest
