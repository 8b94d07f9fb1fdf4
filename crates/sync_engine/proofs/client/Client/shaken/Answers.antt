use Rattle.std.proofs.Common.{refl, sym, ap, subst, ◌∙◌}
use Rattle.client_events.specs.declared.event.Event.TheVariants as event
use Rattle.client_turns.specs.Past.{steps_of}
use Rattle.sync_engine.specs.Standing.{Kept, StandsFor}
use Rattle.sync_engine.proofs.Closed.{hands_nothing, shaken_is, shaken_stands, written_as}
use Rattle.sync_engine.proofs.client.Client.shaken.Goals as goal

pub returns-clause-turn : goal.returns-clause-turn
returns-clause-turn c = λ s past stands.
    let as_kept = subst (λ (k : Kept). StandsFor k s past) (sym c.self.view_is) stands in
    let fits = c.requires.fits (steps_of past) stands.writes.pipeline in
    hands_nothing (event.Written c.args.response) (λ t. refl) (ap (λ (k : Kept). k.watch.due) c.self.view_is ∙ c.requires.idle) as_kept (record { root = refl; store = refl; listeners = refl; limbo = refl; watch = refl })
    (record { is_plain = record { step = refl; plain = λ id. refl; targets = λ id. refl; began = refl; unrequested = λ h. refl; unraised = λ id. refl }; unmade = refl })
    (shaken_stands fits.0 (c.came.ensures (steps_of past) as_kept.writes))
    (written_as stands c.args.response _ c.requires.opening (shaken_is stands fits)) c.new.ensures.items
