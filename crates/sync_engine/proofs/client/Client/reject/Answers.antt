use Rattle.local_store.specs.Files.{Moves}
use Rattle.std.proofs.Common.{ℕ, ◌+◌, List, [], ◌∷◌, ◌++◌, option_map, refl, sym, ap, subst, ◌∙◌, arith}
use Rattle.client_events.specs.declared.event.Event.TheVariants as event
use Rattle.local_store.specs.State.{State, committed}
use Rattle.mutations.specs.declared.write.Write.{Write}
use Rattle.record_codec.specs.declared.commit.Commit.TheVariants.{Reject}
use Rattle.write_pipeline.specs.Order.{closed}
use Rattle.sync_engine.specs.Concerned.{AreConcerned}
use Rattle.value_model.specs.declared.message.StreamName.TheVariants as stream
use Rattle.client_turns.specs.Past.{steps_of}
use Rattle.sync_engine.specs.Standing.{GoesOn, Kept}
use Rattle.sync_engine.specs.Telling.{HandsSettled, MovesBy, MakesOne}
use Rattle.client_turns.specs.Turns.{refused}
use Rattle.sync_engine.specs.declared.out.Out.{Out}
use Rattle.sync_engine.specs.declared.out.Out.TheVariants.{Rejected}
use Rattle.sync_engine.specs.declared.out.Outcome.TheVariants.{Done, Refused}
use Rattle.client_turns.specs.declared.refusal.Refusal.TheVariants.{IdsSpent}
use Rattle.sync_engine.specs.declared.write_stream.WriteStream.{WriteStream}
use Rattle.sync_engine.proofs.Closed.{hands_rejected, moves_rejected, spent_rejects, makes_rejected}
use Rattle.sync_engine.proofs.Committed.{nothing_moves}
use Rattle.sync_engine.proofs.Handing.{hands_refused}
use Rattle.sync_engine.proofs.Following.{by_state}
use Rattle.sync_engine.proofs.Turning.{moves_none}
use Rattle.sync_engine.proofs.client.Client.reject.Goals as goal

pub returns-then-number-ge-MOST_COMMITS-clause-turn : goal.returns-then-number-ge-MOST_COMMITS-clause-turn
returns-then-number-ge-MOST_COMMITS-clause-turn g c = λ s past stands. by_state (λ (t : State). HandsSettled t past (event.Closed stream.Write c.args.status) (Refused IdsSpent c.new.result) c.args.self.now) stands (λ st.
    hands_refused IdsSpent refl c.requires.idle st (spent_rejects c.in-Some.first.now c.args.status st (omega (arith, c.if-number-ge-MOST_COMMITS.true, (c.number-number.ensures.number ∙ ap (λ (k : Kept). k.store.state.number) c.self.view_is))) (sym c.first_pending.ensures ∙ ap (option_map (λ b. b.now)) c.in-Some.is) c.requires.opening (c.requires.rejects (steps_of past) st.writes.pipeline)) c.new.ensures.items)

pub returns-then-number-ge-MOST_COMMITS-clause-files : goal.returns-then-number-ge-MOST_COMMITS-clause-files
returns-then-number-ge-MOST_COMMITS-clause-files g c = λ told s past stands. by_state (λ (t : State). MovesBy t past (event.Closed stream.Write c.args.status) (g.H.Host.view c.args.host.now) (g.H.Host.view c.args.host.now)) stands (λ st. moves_none (event.Closed stream.Write c.args.status) (refused IdsSpent) (spent_rejects c.in-Some.first.now c.args.status st (omega (arith, c.if-number-ge-MOST_COMMITS.true, (c.number-number.ensures.number ∙ ap (λ (k : Kept). k.store.state.number) c.self.view_is))) (sym c.first_pending.ensures ∙ ap (option_map (λ b. b.now)) c.in-Some.is) c.requires.opening (c.requires.rejects (steps_of past) st.writes.pipeline)) refl (nothing_moves _ c.requires.whole (c.requires.stored told)))

pub returns-in_err-ids-clause-files : goal.returns-in_err-ids-clause-files
returns-in_err-ids-clause-files g c = λ told s past stands. by_state (λ (t : State). MovesBy t past (event.Closed stream.Write c.args.status) (g.H.Host.view c.args.host.now) (g.H.Host.view c.args.host.now)) stands (λ st. moves_rejected c.in-Some.first.now c.args.status st (omega (arith, c.if-number-ge-MOST_COMMITS.false, (c.number-number.ensures.number ∙ ap (λ (k : Kept). k.store.state.number) c.self.view_is))) (sym c.first_pending.ensures ∙ ap (option_map (λ b. b.now)) c.in-Some.is) c.requires.opening (c.requires.rejects (steps_of past) st.writes.pipeline) (nothing_moves _ c.requires.whole (c.requires.stored told)))

pub returns-in_err-push-clause-files : goal.returns-in_err-push-clause-files
returns-in_err-push-clause-files g c = λ told s past stands. by_state (λ (t : State). MovesBy t past (event.Closed stream.Write c.args.status) (g.H.Host.view c.args.host.now) (g.H.Host.view c.args.host.now)) stands (λ st. moves_rejected c.in-Some.first.now c.args.status st (omega (arith, c.if-number-ge-MOST_COMMITS.false, (c.number-number.ensures.number ∙ ap (λ (k : Kept). k.store.state.number) c.self.view_is))) (sym c.first_pending.ensures ∙ ap (option_map (λ b. b.now)) c.in-Some.is) c.requires.opening (c.requires.rejects (steps_of past) st.writes.pipeline) (nothing_moves _ c.requires.whole (c.requires.stored told)))

pub returns-clause-turn : goal.returns-clause-turn
returns-clause-turn g c = λ s past stands. by_state (λ (t : State). HandsSettled t past (event.Closed stream.Write c.args.status) (Done c.settle.new.outs) c.settle.new.self) stands (λ st.
    hands_rejected _ c.in-Some.first.now c.args.status c.in_ok-ids.ids.items c.requires.idle st
    (subst (λ (ws : List Write). AreConcerned c.args.self.now.listeners ws c.in_ok-ids.ids.items) c.as_slice.ensures c.in_ok-ids.ensures)
    (omega (arith, c.if-number-ge-MOST_COMMITS.false, (c.number-number.ensures.number ∙ ap (λ (k : Kept). k.store.state.number) c.self.view_is))) (sym c.first_pending.ensures ∙ ap (option_map (λ b. b.now)) c.in-Some.is) c.requires.opening (c.requires.rejects (steps_of past) st.writes.pipeline)
    (ap (λ (k : Kept). k.root) c.self-2.view_is ∙ c.commit.ensures.rest.root) (ap (λ (k : Kept). k.listeners) c.self-2.view_is ∙ c.commit.ensures.rest.listeners) (ap (λ (k : Kept). k.limbo) c.self-2.view_is ∙ c.commit.ensures.rest.limbo) (ap (λ (k : Kept). k.watch) c.self-2.view_is ∙ c.commit.ensures.rest.watch)
    (subst (λ (w : WriteStream). GoesOn w c.closed-2.new.self (λ h. closed ∷ h)) (ap (λ (k : Kept). k.writes) c.self-2.view_is ∙ c.commit.ensures.rest.writes) c.closed-2.ensures)
    (ap (λ (k : Kept). k.store.state) c.self-2.view_is ∙ c.in_ok-commit.ensures.state ∙ ap (λ (n : ℕ). committed c.args.self.now.store.state (Reject n)) c.id_of-batch.ensures)
    c.settle.ensures.rest c.as_slice-2.ensures.value c.in_ok-settle.ensures.raises
    (c.in_ok-push.ensures.items ∙ ap (λ (o : List Out). o ++ Rejected c.id_of-batch.result (c.number-number.result + 1) c.args.status ∷ []) c.new-outs.ensures.items
    ∙ ap (λ (n : ℕ). Rejected c.id_of-batch.result (n + 1) c.args.status ∷ []) (c.number-number.ensures.number ∙ ap (λ (k : Kept). k.store.state.number) c.self.view_is) ∙ ap (λ (n : ℕ). Rejected n (c.args.self.now.store.state.number + 1) c.args.status ∷ []) c.id_of-batch.ensures))

pub returns-in_err-commit-clause-files : goal.returns-in_err-commit-clause-files
returns-in_err-commit-clause-files g c = λ told s past stands. by_state (λ (t : State). MovesBy t past (event.Closed stream.Write c.args.status) (g.H.Host.view c.args.host.now) (g.H.Host.view c.commit.new.host)) stands (λ st. moves_rejected c.in-Some.first.now c.args.status st (omega (arith, c.if-number-ge-MOST_COMMITS.false, (c.number-number.ensures.number ∙ ap (λ (k : Kept). k.store.state.number) c.self.view_is))) (sym c.first_pending.ensures ∙ ap (option_map (λ b. b.now)) c.in-Some.is) c.requires.opening (c.requires.rejects (steps_of past) st.writes.pipeline)
    (subst (λ (n : ℕ). Moves c.args.self.now.store.state (committed c.args.self.now.store.state (Reject n)) (g.H.Host.view c.args.host.now) (g.H.Host.view c.commit.new.host)) c.id_of-batch.ensures (c.commit.ensures.files told)))

pub returns-in_err-settle-clause-files : goal.returns-in_err-settle-clause-files
returns-in_err-settle-clause-files g c = λ told s past stands. by_state (λ (t : State). MovesBy t past (event.Closed stream.Write c.args.status) (g.H.Host.view c.args.host.now) (g.H.Host.view c.commit.new.host)) stands (λ st. moves_rejected c.in-Some.first.now c.args.status st (omega (arith, c.if-number-ge-MOST_COMMITS.false, (c.number-number.ensures.number ∙ ap (λ (k : Kept). k.store.state.number) c.self.view_is))) (sym c.first_pending.ensures ∙ ap (option_map (λ b. b.now)) c.in-Some.is) c.requires.opening (c.requires.rejects (steps_of past) st.writes.pipeline)
    (subst (λ (n : ℕ). Moves c.args.self.now.store.state (committed c.args.self.now.store.state (Reject n)) (g.H.Host.view c.args.host.now) (g.H.Host.view c.commit.new.host)) c.id_of-batch.ensures (c.commit.ensures.files told)))

pub returns-clause-files : goal.returns-clause-files
returns-clause-files g c = λ told s past stands. by_state (λ (t : State). MovesBy t past (event.Closed stream.Write c.args.status) (g.H.Host.view c.args.host.now) (g.H.Host.view c.commit.new.host)) stands (λ st. moves_rejected c.in-Some.first.now c.args.status st (omega (arith, c.if-number-ge-MOST_COMMITS.false, (c.number-number.ensures.number ∙ ap (λ (k : Kept). k.store.state.number) c.self.view_is))) (sym c.first_pending.ensures ∙ ap (option_map (λ b. b.now)) c.in-Some.is) c.requires.opening (c.requires.rejects (steps_of past) st.writes.pipeline)
    (subst (λ (n : ℕ). Moves c.args.self.now.store.state (committed c.args.self.now.store.state (Reject n)) (g.H.Host.view c.args.host.now) (g.H.Host.view c.commit.new.host)) c.id_of-batch.ensures (c.commit.ensures.files told)))

pub returns-in_err-commit-clause-meets : goal.returns-in_err-commit-clause-meets
returns-in_err-commit-clause-meets g c = λ is s past stands. by_state (λ (t : State). MakesOne t past (event.Closed stream.Write c.args.status)) stands (λ st.
    makes_rejected c.in-Some.first.now c.args.status st (omega (arith, c.if-number-ge-MOST_COMMITS.false, (c.number-number.ensures.number ∙ ap (λ (k : Kept). k.store.state.number) c.self.view_is))) (sym c.first_pending.ensures ∙ ap (option_map (λ b. b.now)) c.in-Some.is) c.requires.opening (c.requires.rejects (steps_of past) st.writes.pipeline))
