use Rattle.std.proofs.Common.{false, [], refl, sym, ap, subst, ◌∙◌}
use Rattle.client_events.specs.declared.event.Event.TheVariants as event
use Rattle.local_store.specs.State.{State}
use Rattle.value_model.specs.declared.message.StreamName.TheVariants as stream
use Rattle.client_turns.specs.Past.{steps_of}
use Rattle.sync_engine.specs.Standing.{Kept, StandsFor}
use Rattle.sync_engine.specs.Telling.{MovesBy}
use Rattle.client_turns.specs.Turns.{answered, refused}
use Rattle.client_turns.specs.declared.refusal.Refusal.TheVariants.{StreamState}
use Rattle.sync_engine.proofs.Closed.{closed_kept, closed_unopened, hands_nothing}
use Rattle.sync_engine.proofs.Committed.{nothing_moves}
use Rattle.sync_engine.proofs.Handing.{hands_refused}
use Rattle.sync_engine.proofs.Following.{by_state}
use Rattle.sync_engine.proofs.Turning.{moves_none}
use Rattle.sync_engine.proofs.client.Client.close_writes.Goals as goal

pub returns-then-not-self-clause-turn : goal.returns-then-not-self-clause-turn
returns-then-not-self-clause-turn g c = λ s past stands. hands_refused (StreamState stream.Write false) refl c.requires.idle stands (closed_unopened stands c.args.status (ap (λ (k : Kept). k.writes.is_open) (sym c.self.view_is) ∙ c.if-not-self.true)) c.new.ensures.items

pub returns-then-not-self-clause-files : goal.returns-then-not-self-clause-files
returns-then-not-self-clause-files g c = λ told s past stands. by_state (λ (t : State). MovesBy t past (event.Closed stream.Write c.args.status) (g.H.Host.view c.args.host.now) (g.H.Host.view c.args.host.now)) stands (λ st. moves_none (event.Closed stream.Write c.args.status) (refused (StreamState stream.Write false)) (closed_unopened st c.args.status (ap (λ (k : Kept). k.writes.is_open) (sym c.self.view_is) ∙ c.if-not-self.true)) refl (nothing_moves _ c.requires.whole (c.requires.stored told)))

pub returns-in-Kept-clause-turn : goal.returns-in-Kept-clause-turn
returns-in-Kept-clause-turn g c = λ s past stands.
    let as_kept = subst (λ (k : Kept). StandsFor k s past) (sym c.self.view_is) stands in
    hands_nothing (event.Closed stream.Write c.args.status) (λ t. refl) (ap (λ (k : Kept). k.watch.due) c.self.view_is ∙ c.requires.idle) as_kept (record { root = refl; store = refl; listeners = refl; limbo = refl; watch = refl })
    (record { is_plain = record { step = refl; plain = λ id. refl; targets = λ id. refl; began = refl; unrequested = λ h. refl; unraised = λ id. refl }; unmade = refl }) (c.closed.ensures (steps_of past) as_kept.writes)
    (closed_kept as_kept c.args.status c.if-not-self.false (sym (c.closing.ensures (steps_of past) as_kept.writes.pipeline) ∙ c.in-Kept.is)) c.new-in-Kept.ensures.items

pub returns-in-Kept-clause-files : goal.returns-in-Kept-clause-files
returns-in-Kept-clause-files g c = λ told s past stands. by_state (λ (t : State). MovesBy t past (event.Closed stream.Write c.args.status) (g.H.Host.view c.args.host.now) (g.H.Host.view c.args.host.now)) stands (λ st. let as_kept = subst (λ (k : Kept). StandsFor k c.args.self.now.store.state past) (sym c.self.view_is) st in moves_none (event.Closed stream.Write c.args.status) (answered []) (closed_kept st c.args.status (ap (λ (k : Kept). k.writes.is_open) (sym c.self.view_is) ∙ c.if-not-self.false) (sym (c.closing.ensures (steps_of past) as_kept.writes.pipeline) ∙ c.in-Kept.is)) refl (nothing_moves _ c.requires.whole (c.requires.stored told)))
