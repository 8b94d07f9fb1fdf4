use Rattle.std.proofs.Common.{false, refl, sym, ap, subst, ◌∙◌}
use Rattle.client_events.specs.declared.event.Event.TheVariants as event
use Rattle.value_model.specs.declared.message.StreamName.TheVariants as stream
use Rattle.client_turns.specs.Past.{steps_of}
use Rattle.sync_engine.specs.Standing.{Kept, StandsFor}
use Rattle.client_turns.specs.declared.refusal.Refusal.TheVariants.{BadMessage, StreamState}
use Rattle.sync_engine.proofs.Closed.{bad_now, bad_unopened, hands_closed}
use Rattle.sync_engine.proofs.Handing.{hands_refused}
use Rattle.sync_engine.proofs.client.Client.bad_written.Goals as goal

pub returns-then-not-self-clause-turn : goal.returns-then-not-self-clause-turn
returns-then-not-self-clause-turn c = λ s past stands. hands_refused (StreamState stream.Write false) refl c.requires.idle stands (bad_unopened stands c.args.member (ap (λ (k : Kept). k.writes.is_open) (sym c.self.view_is) ∙ c.if-not-self.true)) c.new.ensures.items

pub returns-clause-turn : goal.returns-clause-turn
returns-clause-turn c = λ s past stands.
    let as_kept = subst (λ (k : Kept). StandsFor k s past) (sym c.self.view_is) stands in
    hands_closed (event.BadMessage stream.Write c.args.member) (BadMessage stream.Write c.args.member) refl (ap (λ (k : Kept). k.watch.due) c.self.view_is ∙ c.requires.idle) as_kept (record { root = refl; store = refl; listeners = refl; limbo = refl; watch = refl })
    (record { is_plain = record { step = refl; plain = λ id. refl; targets = λ id. refl; began = refl; unrequested = λ h. refl; unraised = λ id. refl }; unmade = refl }) (c.closed.ensures (steps_of past) as_kept.writes)
    (bad_now as_kept c.args.member c.if-not-self.false) c.new-2.ensures.items
