use Rattle.std.proofs.Common.{false, [], List, None, refl, sym, ap, subst, ◌∙◌}
use Rattle.client_events.specs.declared.event.Event.TheVariants as event
use Rattle.value_model.specs.declared.message.StreamName.TheVariants as stream
use Rattle.sync_engine.specs.Standing.{Kept}
use Rattle.sync_engine.specs.Stream.{resets_of}
use Rattle.sync_engine.specs.Telling.{Loses}
use Rattle.client_turns.specs.Turns.{answered}
use Rattle.sync_engine.specs.declared.out.Out.{Out}
use Rattle.sync_engine.proofs.Handing.{as_done, no_reset}
use Rattle.sync_engine.proofs.Streamed.{hands_disallowed, hands_lost, lost_due, watch_closed_now, watch_closed_unopened}
use Rattle.sync_engine.proofs.client.Client.close_watch.Goals as goal

pub returns-then-not-self-clause-turn : goal.returns-then-not-self-clause-turn
returns-then-not-self-clause-turn c = λ s past stands. hands_disallowed false _ c.refused.ensures c.requires.idle stands (watch_closed_unopened stands c.args.status.now (ap (λ (k : Kept). k.watch.is_open) (sym c.self.view_is) ∙ c.if-not-self.true))

pub returns-clause-turn : goal.returns-clause-turn
returns-clause-turn c = λ s past stands.
    let lost = subst (λ (os : List Out). Loses c.args.self.now c.lose_watch.new.self os c.lose_watch.new.outs.items) c.new-outs.ensures.items c.in_ok-lose_watch.ensures.loses in
    as_done refl (no_reset past (event.Closed stream.Watch c.args.status.now) None c.lose_watch.new.self (λ t. refl) (ap resets_of (lost_due lost c.requires.idle)))
    (hands_lost c.lose_watch.new.outs (event.Closed stream.Watch c.args.status.now) (answered []) stands (record { plain = λ id. refl; silent = refl; unmade = refl; steps = refl }) refl refl
    (watch_closed_now stands c.args.status.now (ap (λ (k : Kept). k.watch.is_open) (sym c.self.view_is) ∙ c.if-not-self.false)) lost)
