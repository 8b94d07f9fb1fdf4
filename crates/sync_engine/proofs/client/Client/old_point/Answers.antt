use Rattle.std.proofs.Common.{sym, ap, subst, ◌∙◌}
use Rattle.local_store.specs.State.{State}
use Rattle.client_turns.specs.Hearing.{IsOld}
use Rattle.sync_engine.specs.Standing.{Kept, StandsFor}
use Rattle.client_turns.specs.Watching.{calls_of}
use Rattle.sync_engine.proofs.Heard.{hands_old}
use Rattle.sync_engine.proofs.client.Client.old_point.Goals as goal

pub returns-clause-turn : goal.returns-clause-turn
returns-clause-turn c = λ s past stands.
    let as_kept = subst (λ (k : Kept). StandsFor k s past) (sym c.self.view_is) stands in
    hands_old _ c.args.response.now c.skipped.new.self as_kept (ap (λ (k : Kept). k.watch.due) c.self.view_is ∙ c.requires.idle) (ap (λ (k : Kept). k.watch.is_open) c.self.view_is ∙ c.requires.opening) c.requires.spelled c.new.ensures.items
    c.heard.new.self c.args.at c.in_ok-heard.ensures c.skipped.ensures (c.requires.gives (calls_of past) stands.watch.calls) (subst (λ (x : State). IsOld x.last_read c.args.at) stands.state c.requires.is_old)
