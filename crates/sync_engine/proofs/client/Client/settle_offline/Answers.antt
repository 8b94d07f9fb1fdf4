use Rattle.std.proofs.Common.{ℕ, List, inl, sym, ap, subst, ◌∙◌, is_some}
use Rattle.std.specs.List.{Contains}
use Rattle.listeners.specs.Table.{viewed}
use Rattle.sync_engine.specs.Standing.{Kept}
use Rattle.sync_engine.specs.Stream.{is_newly_offline}
use Rattle.client_turns.specs.Watching.{is_offline}
use Rattle.sync_engine.proofs.Handing.{raises_none}
use Rattle.sync_engine.proofs.Streamed.{newly_not, newly_was, quiet_unless}
use Rattle.sync_engine.proofs.client.Client.settle_offline.Goals as goal

pub returns-then-is_offline-clause-raises : goal.returns-then-is_offline-clause-raises
returns-then-is_offline-clause-raises c = λ quiet. raises_none c.args.outs.now.items (quiet_unless c.args.self.now (is_newly_offline c.args.was c.args.self.now.watch.online) (newly_was c.args.was c.args.self.now.watch.online (sym c.is_offline.ensures ∙ c.if-is_offline.true)) quiet)

pub returns-then-not-is_offline-clause-raises : goal.returns-then-not-is_offline-clause-raises
returns-then-not-is_offline-clause-raises c = λ quiet. raises_none c.args.outs.now.items (quiet_unless c.args.self.now (is_newly_offline c.args.was c.args.self.now.watch.online) (newly_not c.args.was c.args.self.now.watch.online (ap (λ (k : Kept). is_offline k.watch.online) (sym c.self.view_is) ∙ sym c.is_offline-2.ensures ∙ c.if-not-is_offline.true)) quiet)

pub returns-clause-raises : goal.returns-clause-raises
returns-clause-raises c = λ quiet. c.settle.ensures.raises (λ id view there. inl (subst (λ (l : List ℕ). Contains l id) (sym c.as_slice.ensures.value) ((c.in_ok-ids.ensures.members id).1 (ap is_some (ap (λ (k : Kept). viewed k.listeners id) c.self.view_is ∙ there)))))
