use Rattle.std.proofs.Common.{false, [], refl, sym, ap, subst, ◌∙◌}
use Rattle.client_events.specs.declared.event.Event.TheVariants as event
use Rattle.value_model.specs.declared.message.StreamName.TheVariants as stream
use Rattle.local_store.specs.State.{State}
use Rattle.client_turns.specs.Past.{steps_of}
use Rattle.sync_engine.specs.Standing.{Kept}
use Rattle.sync_engine.specs.Telling.{MovesBy}
use Rattle.client_turns.specs.Turns.{answered, refused}
use Rattle.client_turns.specs.Writing.{first_batch, member_name}
use Rattle.client_turns.specs.declared.refusal.Refusal.TheVariants.{BadMessage, StreamState}
use Rattle.sync_engine.proofs.Closed.{shaken_is, unfit_is, written_as, written_unopened}
use Rattle.sync_engine.proofs.Committed.{nothing_moves}
use Rattle.sync_engine.proofs.Handing.{hands_refused}
use Rattle.sync_engine.proofs.Following.{by_state}
use Rattle.sync_engine.proofs.Turning.{moves_none}
use Rattle.write_pipeline.specs.Standing.{Fits}
use Rattle.write_pipeline.specs.declared.answer.Answer.{Answer}
use Rattle.sync_engine.proofs.client.Client.written.Goals as goal

pub returns-then-not-self-clause-turn : goal.returns-then-not-self-clause-turn
returns-then-not-self-clause-turn g c = λ s past stands. hands_refused (StreamState stream.Write false) refl c.requires.idle stands (written_unopened stands c.args.response (ap (λ (k : Kept). k.writes.is_open) (sym c.self.view_is) ∙ c.if-not-self.true)) c.new.ensures.items

pub returns-then-not-self-clause-files : goal.returns-then-not-self-clause-files
returns-then-not-self-clause-files g c = λ told s past stands. by_state (λ (t : State). MovesBy t past (event.Written c.args.response) (g.H.Host.view c.args.host.now) (g.H.Host.view c.args.host.now)) stands (λ st. moves_none (event.Written c.args.response) (refused (StreamState stream.Write false)) (written_unopened st c.args.response (ap (λ (k : Kept). k.writes.is_open) (sym c.self.view_is) ∙ c.if-not-self.true)) refl (nothing_moves _ c.requires.whole (c.requires.stored told)))

pub returns-in-Ok-Handshake-clause-files : goal.returns-in-Ok-Handshake-clause-files
returns-in-Ok-Handshake-clause-files g c = λ told s past stands. by_state (λ (t : State). MovesBy t past (event.Written c.args.response) (g.H.Host.view c.args.host.now) (g.H.Host.view c.args.host.now)) stands (λ st. moves_none (event.Written c.args.response) (answered []) (written_as st c.args.response (answered []) (ap (λ (k : Kept). k.writes.is_open) (sym c.self.view_is) ∙ c.if-not-self.false) (shaken_is st (subst (λ (a : Answer). Fits (steps_of past) (first_batch c.args.self.now.store.state) c.args.response a) c.in-Ok-Handshake.field-0-is (c.in-Ok-Handshake.ensures.fits (steps_of past) st.writes.pipeline)))) refl (nothing_moves _ c.requires.whole (c.requires.stored told)))

pub returns-in-Err-clause-files : goal.returns-in-Err-clause-files
returns-in-Err-clause-files g c = λ told s past stands. by_state (λ (t : State). MovesBy t past (event.Written c.args.response) (g.H.Host.view c.args.host.now) (g.H.Host.view c.args.host.now)) stands (λ st. moves_none (event.Written c.args.response) (refused (BadMessage stream.Write (member_name c.in-Err.member))) (written_as st c.args.response _ (ap (λ (k : Kept). k.writes.is_open) (sym c.self.view_is) ∙ c.if-not-self.false) (unfit_is c.in-Err.member refl st (c.in-Err.ensures.fails (steps_of past) st.writes.pipeline))) refl (nothing_moves _ c.requires.whole (c.requires.stored told)))
