use Rattle.std.proofs.Common.{false, List, refl, sym, ap, subst, ◌∙◌}
use Rattle.client_events.specs.declared.event.Event.TheVariants as event
use Rattle.value_model.specs.declared.message.StreamName.TheVariants as stream
use Rattle.sync_engine.specs.Standing.{Kept}
use Rattle.sync_engine.specs.Telling.{Loses}
use Rattle.client_turns.specs.Turns.{refused}
use Rattle.sync_engine.specs.declared.out.Out.{Out}
use Rattle.client_turns.specs.declared.refusal.Refusal.TheVariants.{BadMessage}
use Rattle.sync_engine.proofs.Handing.{as_refused}
use Rattle.sync_engine.proofs.Streamed.{hands_disallowed, hands_lost, lost_due, watch_bad_now, watch_bad_unopened}
use Rattle.sync_engine.proofs.client.Client.bad_watch.Goals as goal

pub returns-then-not-self-clause-turn : goal.returns-then-not-self-clause-turn
returns-then-not-self-clause-turn c = λ s past stands. hands_disallowed false _ c.refused.ensures c.requires.idle stands (watch_bad_unopened stands c.args.member (ap (λ (k : Kept). k.watch.is_open) (sym c.self.view_is) ∙ c.if-not-self.true))

pub returns-clause-turn : goal.returns-clause-turn
returns-clause-turn c = λ s past stands.
    let lost = subst (λ (os : List Out). Loses c.args.self.now c.lose_watch.new.self os c.lose_watch.new.outs.items) c.new-outs.ensures.items c.in_ok-lose_watch.ensures.loses in
    as_refused (BadMessage stream.Watch c.args.member) refl refl (lost_due lost c.requires.idle)
    (hands_lost c.lose_watch.new.outs (event.BadMessage stream.Watch c.args.member) (refused (BadMessage stream.Watch c.args.member)) stands (record { plain = λ id. refl; silent = refl; unmade = refl; steps = refl }) refl refl
    (watch_bad_now stands c.args.member (ap (λ (k : Kept). k.watch.is_open) (sym c.self.view_is) ∙ c.if-not-self.false)) lost)
