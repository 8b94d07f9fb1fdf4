use Rattle.std.proofs.Common.{refl, sym, ap, subst, ◌∙◌}
use Rattle.client_events.specs.declared.event.Event.TheVariants as event
use Rattle.value_model.specs.declared.message.StreamName.TheVariants as stream
use Rattle.client_turns.specs.Past.{steps_of}
use Rattle.sync_engine.specs.Standing.{Kept, StandsFor}
use Rattle.client_turns.specs.declared.refusal.Refusal.TheVariants.{BadMessage}
use Rattle.sync_engine.proofs.Closed.{hands_closed, unfit_is, written_as}
use Rattle.sync_engine.proofs.client.Client.unfit.Goals as goal

pub returns-clause-turn : goal.returns-clause-turn
returns-clause-turn c = λ s past stands.
    let as_kept = subst (λ (k : Kept). StandsFor k s past) (sym c.self.view_is) stands in
    hands_closed (event.Written c.args.response.now) (BadMessage stream.Write c.in_ok-member.member) refl (ap (λ (k : Kept). k.watch.due) c.self.view_is ∙ c.requires.idle) as_kept (record { root = refl; store = refl; listeners = refl; limbo = refl; watch = refl })
    (record { is_plain = record { step = refl; plain = λ id. refl; targets = λ id. refl; began = refl; unrequested = λ h. refl; unraised = λ id. refl }; unmade = refl }) (c.closed.ensures (steps_of past) as_kept.writes)
    (written_as stands c.args.response.now _ c.requires.opening
    (unfit_is c.args.member (c.in_ok-member.ensures ∙ c.member_name.ensures) stands (c.requires.fails (steps_of past) stands.writes.pipeline))) c.new.ensures.items
