use Rattle.std.proofs.Common.{sym, ap, subst, ◌∙◌}
use Rattle.sync_engine.specs.Standing.{Kept, StandsFor}
use Rattle.client_turns.specs.Watching.{calls_of}
use Rattle.sync_engine.proofs.Heard.{hands_heard}
use Rattle.sync_engine.proofs.client.Client.heard.Goals as goal

pub returns-clause-turn : goal.returns-clause-turn
returns-clause-turn c = λ s past stands.
    let as_kept = subst (λ (k : Kept). StandsFor k s past) (sym c.self.view_is) stands in
    hands_heard _ c.args.response.now c.heard.new.self as_kept (ap (λ (k : Kept). k.watch.due) c.self.view_is ∙ c.requires.idle) (ap (λ (k : Kept). k.watch.is_open) c.self.view_is ∙ c.requires.opening) c.requires.spelled c.new.ensures.items
    c.in_ok-heard.ensures (c.requires.gives (calls_of past) stands.watch.calls)
