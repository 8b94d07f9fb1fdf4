use Rattle.std.proofs.Common.{ℕ, ◌+◌, List, [], ◌∷◌, ◌++◌, refl, sym, ap, subst, ◌∙◌, arith}
use Rattle.client_events.specs.declared.event.Event.TheVariants as event
use Rattle.local_store.specs.State.{State, committed}
use Rattle.record_codec.specs.declared.commit.Commit.TheVariants.{Enqueue}
use Rattle.mutations.specs.declared.write.Write.{Write}
use Rattle.client_turns.specs.Turns.{refused}
use Rattle.sync_engine.specs.Concerned.{AreConcerned}
use Rattle.sync_engine.specs.Standing.{Kept}
use Rattle.sync_engine.specs.Telling.{HandsSettled, IsQuietOrAmong, MovesBy, MakesOne}
use Rattle.sync_engine.specs.declared.out.Out.{Out}
use Rattle.sync_engine.specs.declared.out.Out.TheVariants.{Wrote}
use Rattle.sync_engine.specs.declared.out.Outcome.TheVariants.{Done, Refused}
use Rattle.client_turns.specs.declared.refusal.Refusal.TheVariants.{IdsSpent}
use Rattle.sync_engine.proofs.Committed.{nothing_moves}
use Rattle.sync_engine.proofs.Handing.{hands_refused}
use Rattle.sync_engine.proofs.Following.{by_state}
use Rattle.sync_engine.proofs.Turning.{enqueued_not, hands_written, moves_none, moves_written, makes_written}
use Rattle.sync_engine.proofs.client.Client.write.Goals as goal

pub returns-then-number-ge-MOST_COMMITS-clause-turn : goal.returns-then-number-ge-MOST_COMMITS-clause-turn
returns-then-number-ge-MOST_COMMITS-clause-turn g c = λ s past stands. by_state (λ (t : State). HandsSettled t past (event.Write c.args.at c.args.writes) (Refused IdsSpent c.new.result) c.args.self.now) stands (λ st.
    hands_refused IdsSpent refl c.requires.idle st (sym (enqueued_not c.args.self.now.store.state c.args.at c.args.writes (omega (arith, c.if-number-ge-MOST_COMMITS.true, (c.number-number.ensures.number ∙ ap (λ (k : Kept). k.store.state.number) c.self.view_is))))) c.new.ensures.items)

pub returns-then-number-ge-MOST_COMMITS-clause-files : goal.returns-then-number-ge-MOST_COMMITS-clause-files
returns-then-number-ge-MOST_COMMITS-clause-files g c = λ told s past stands. by_state (λ (t : State). MovesBy t past (event.Write c.args.at c.args.writes) (g.H.Host.view c.args.host.now) (g.H.Host.view c.args.host.now)) stands (λ st.
    moves_none (event.Write c.args.at c.args.writes) (refused IdsSpent) (sym (enqueued_not c.args.self.now.store.state c.args.at c.args.writes (omega (arith, c.if-number-ge-MOST_COMMITS.true, (c.number-number.ensures.number ∙ ap (λ (k : Kept). k.store.state.number) c.self.view_is))))) refl (nothing_moves _ c.requires.whole (c.requires.stored told)))

pub returns-in_err-push-clause-files : goal.returns-in_err-push-clause-files
returns-in_err-push-clause-files g c = λ told s past stands. by_state (λ (t : State). MovesBy t past (event.Write c.args.at c.args.writes) (g.H.Host.view c.args.host.now) (g.H.Host.view c.args.host.now)) stands (λ st.
    moves_written c.next_batch-id.result c.args.at c.args.writes (c.next_batch-id.ensures ∙ ap (λ (k : Kept). k.store.state.next_batch) c.self.view_is) (omega (arith, c.if-number-ge-MOST_COMMITS.false, (c.number-number.ensures.number ∙ ap (λ (k : Kept). k.store.state.number) c.self.view_is))) (nothing_moves _ c.requires.whole (c.requires.stored told)))

pub returns-in_err-ids-clause-files : goal.returns-in_err-ids-clause-files
returns-in_err-ids-clause-files g c = λ told s past stands. by_state (λ (t : State). MovesBy t past (event.Write c.args.at c.args.writes) (g.H.Host.view c.args.host.now) (g.H.Host.view c.args.host.now)) stands (λ st.
    moves_written c.next_batch-id.result c.args.at c.args.writes (c.next_batch-id.ensures ∙ ap (λ (k : Kept). k.store.state.next_batch) c.self.view_is) (omega (arith, c.if-number-ge-MOST_COMMITS.false, (c.number-number.ensures.number ∙ ap (λ (k : Kept). k.store.state.number) c.self.view_is))) (nothing_moves _ c.requires.whole (c.requires.stored told)))

pub returns-in_err-commit-clause-files : goal.returns-in_err-commit-clause-files
returns-in_err-commit-clause-files g c = λ told s past stands. by_state (λ (t : State). MovesBy t past (event.Write c.args.at c.args.writes) (g.H.Host.view c.args.host.now) (g.H.Host.view c.commit.new.host)) stands (λ st.
    moves_written c.next_batch-id.result c.args.at c.args.writes (c.next_batch-id.ensures ∙ ap (λ (k : Kept). k.store.state.next_batch) c.self.view_is) (omega (arith, c.if-number-ge-MOST_COMMITS.false, (c.number-number.ensures.number ∙ ap (λ (k : Kept). k.store.state.number) c.self.view_is))) (c.commit.ensures.files told))

pub returns-in_err-settle-clause-files : goal.returns-in_err-settle-clause-files
returns-in_err-settle-clause-files g c = λ told s past stands. by_state (λ (t : State). MovesBy t past (event.Write c.args.at c.args.writes) (g.H.Host.view c.args.host.now) (g.H.Host.view c.commit.new.host)) stands (λ st.
    moves_written c.next_batch-id.result c.args.at c.args.writes (c.next_batch-id.ensures ∙ ap (λ (k : Kept). k.store.state.next_batch) c.self.view_is) (omega (arith, c.if-number-ge-MOST_COMMITS.false, (c.number-number.ensures.number ∙ ap (λ (k : Kept). k.store.state.number) c.self.view_is))) (c.commit.ensures.files told))

pub returns-clause-files : goal.returns-clause-files
returns-clause-files g c = λ told s past stands. by_state (λ (t : State). MovesBy t past (event.Write c.args.at c.args.writes) (g.H.Host.view c.args.host.now) (g.H.Host.view c.commit.new.host)) stands (λ st.
    moves_written c.next_batch-id.result c.args.at c.args.writes (c.next_batch-id.ensures ∙ ap (λ (k : Kept). k.store.state.next_batch) c.self.view_is) (omega (arith, c.if-number-ge-MOST_COMMITS.false, (c.number-number.ensures.number ∙ ap (λ (k : Kept). k.store.state.number) c.self.view_is))) (c.commit.ensures.files told))

pub returns-clause-turn : goal.returns-clause-turn
returns-clause-turn g c = λ s past stands. by_state (λ (t : State). HandsSettled t past (event.Write c.args.at c.args.writes) (Done c.settle.new.outs) c.settle.new.self) stands (λ st.
    hands_written c.commit.new.self c.args.at c.args.writes c.in_ok-ids.ids.items c.requires.idle st
    (subst (λ (ws : List Write). AreConcerned c.args.self.now.listeners ws c.in_ok-ids.ids.items) c.as_slice.ensures c.in_ok-ids.ensures)
    (omega (arith, c.if-number-ge-MOST_COMMITS.false, (c.number-number.ensures.number ∙ ap (λ (k : Kept). k.store.state.number) c.self.view_is))) c.commit.ensures.rest.root c.commit.ensures.rest.listeners c.commit.ensures.rest.limbo c.commit.ensures.rest.watch c.commit.ensures.rest.writes (c.in_ok-commit.ensures.state ∙ ap (λ (n : ℕ). committed c.args.self.now.store.state (Enqueue (record { id = n; at = c.args.at; writes = c.args.writes }))) (c.next_batch-id.ensures ∙ ap (λ (k : Kept). k.store.state.next_batch) c.self.view_is)) c.settle.ensures.rest (λ others. c.in_ok-settle.ensures.raises (subst (λ (l : List ℕ). IsQuietOrAmong l c.commit.new.self) (sym c.as_slice-2.ensures.value) others))
    (c.in_ok-push.ensures.items ∙ ap (λ (o : List Out). o ++ Wrote c.next_batch-id.result (c.number-number.result + 1) ∷ []) c.new-outs.ensures.items
    ∙ ap (λ (n : ℕ). Wrote c.next_batch-id.result (n + 1) ∷ []) (c.number-number.ensures.number ∙ ap (λ (k : Kept). k.store.state.number) c.self.view_is) ∙ ap (λ (n : ℕ). Wrote n (c.args.self.now.store.state.number + 1) ∷ []) (c.next_batch-id.ensures ∙ ap (λ (k : Kept). k.store.state.next_batch) c.self.view_is)))

pub returns-in_err-commit-clause-meets : goal.returns-in_err-commit-clause-meets
returns-in_err-commit-clause-meets g c = λ is s past stands. by_state (λ (t : State). MakesOne t past (event.Write c.args.at c.args.writes)) stands (λ st.
    makes_written c.args.at c.args.writes (omega (arith, c.if-number-ge-MOST_COMMITS.false, (c.number-number.ensures.number ∙ ap (λ (k : Kept). k.store.state.number) c.self.view_is))))
