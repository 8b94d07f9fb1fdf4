use Rattle.std.proofs.Common.{◌++◌, ◌∷◌, [], ap, sym, ◌∙◌}
use Rattle.std.proofs.lemmas.Bool.{true≢false}
use Rattle.sync_engine.specs.declared.current.CurrentTarget.{CurrentTarget}
use Rattle.sync_engine.proofs.Moved.{current_kept, current_left}
use Rattle.sync_engine.proofs.client.Client.current_of.Goals as goal

pub loop-target-preserved-in-Continue-1 : goal.loop-target-preserved-in-Continue-1
loop-target-preserved-in-Continue-1 c = let it = c.stays_current.ensures.0 c.if-stays_current.true in current_kept c.args.self.now.listeners c.loop-target.yielded c.in-Some.target c.loop-target.current.targets.items c.loop-target.invariant _ it.0 it.1 (c.in_ok-push.ensures.items ∙ ap (λ (one : CurrentTarget). c.loop-target.current.targets.items ++ one ∷ []) (λ i. record { id = c.current_target.ensures.0 i; standing = c.current_target.ensures.1 i }))

pub loop-target-preserved : goal.loop-target-preserved
loop-target-preserved c = current_left c.args.self.now.listeners c.loop-target.yielded c.in-Some.target c.loop-target.current.targets.items c.loop-target.invariant (λ at. true≢false (sym (c.stays_current.ensures.1 (at.current, at.wanted)) ∙ c.if-stays_current.false))
