use Rattle.std.proofs.Common.{List, subst, ◌∙◌}
use Rattle.sync_engine.specs.Telling.{Loses}
use Rattle.client_turns.specs.Watching.{calls_of}
use Rattle.sync_engine.specs.declared.out.Out.{Out}
use Rattle.sync_engine.proofs.Heard.{hands_unheard}
use Rattle.sync_engine.proofs.client.Client.unheard.Goals as goal

pub returns-clause-turn : goal.returns-clause-turn
returns-clause-turn c = λ s past stands.
    hands_unheard c.lose_watch.new.outs c.args.response.now c.args.member c.in_ok-member.member (c.in_ok-member.ensures ∙ c.watch_member_name.ensures) stands c.requires.idle c.requires.opening (c.requires.refuses (calls_of past) stands.watch.calls)
    (subst (λ (os : List Out). Loses c.args.self.now c.lose_watch.new.self os c.lose_watch.new.outs.items) c.new-outs.ensures.items c.in_ok-lose_watch.ensures.loses)
