use Rattle.std.proofs.Common.{ℕ, ◌+◌, List, [], ◌∷◌, ◌++◌, Option, option_map, refl, sym, ap, subst, ◌∙◌, arith}
use Rattle.client_events.specs.declared.event.Event.TheVariants as event
use Rattle.local_store.specs.State.{State, committed}
use Rattle.mutations.specs.declared.batch.Batch.{Batch}
use Rattle.mutations.specs.declared.write.Write.{Write}
use Rattle.record_codec.specs.declared.commit.Commit.TheVariants.{Acknowledge}
use Rattle.write_pipeline.specs.Order.{acknowledged, kept}
use Rattle.sync_engine.specs.Concerned.{AreConcerned}
use Rattle.client_turns.specs.Past.{steps_of}
use Rattle.sync_engine.specs.Standing.{GoesOn, Kept}
use Rattle.sync_engine.specs.Telling.{HandsSettled, MovesBy, MakesOne}
use Rattle.client_turns.specs.Turns.{refused}
use Rattle.sync_engine.specs.declared.out.Out.{Out}
use Rattle.sync_engine.specs.declared.out.Out.TheVariants.{Result}
use Rattle.sync_engine.specs.declared.out.Outcome.TheVariants.{Done, Refused}
use Rattle.client_turns.specs.declared.refusal.Refusal.TheVariants.{IdsSpent}
use Rattle.sync_engine.specs.declared.write_stream.WriteStream.{WriteStream}
use Rattle.local_store.specs.Files.{Moves}
use Rattle.write_pipeline.specs.Standing.{HasTransforms}
use Rattle.sync_engine.proofs.Closed.{some_moment, acknowledge_fits, hands_acknowledged, moves_acknowledged, spent_acknowledges, makes_acknowledged}
use Rattle.sync_engine.proofs.Committed.{nothing_moves}
use Rattle.sync_engine.proofs.Handing.{hands_refused}
use Rattle.sync_engine.proofs.Sent.{comes_some}
use Rattle.sync_engine.proofs.Following.{by_state}
use Rattle.sync_engine.proofs.Turning.{moves_none}
use Rattle.sync_engine.proofs.client.Client.acknowledge.Goals as goal

pub returns-then-number-ge-MOST_COMMITS-clause-turn : goal.returns-then-number-ge-MOST_COMMITS-clause-turn
returns-then-number-ge-MOST_COMMITS-clause-turn g c = λ s past stands. by_state (λ (t : State). HandsSettled t past (event.Written c.args.response) (Refused IdsSpent c.new.result) c.args.self.now) stands (λ st.
    hands_refused IdsSpent refl c.requires.idle st (spent_acknowledges c.args.response st (omega (arith, c.if-number-ge-MOST_COMMITS.true, (c.number-number.ensures.number ∙ ap (λ (k : Kept). k.store.state.number) c.self.view_is))) c.requires.opening (c.requires.fits (steps_of past) st.writes.pipeline)) c.new.ensures.items)

pub returns-then-number-ge-MOST_COMMITS-clause-files : goal.returns-then-number-ge-MOST_COMMITS-clause-files
returns-then-number-ge-MOST_COMMITS-clause-files g c = λ told s past stands. by_state (λ (t : State). MovesBy t past (event.Written c.args.response) (g.H.Host.view c.args.host.now) (g.H.Host.view c.args.host.now)) stands (λ st. moves_none (event.Written c.args.response) (refused IdsSpent) (spent_acknowledges c.args.response st (omega (arith, c.if-number-ge-MOST_COMMITS.true, (c.number-number.ensures.number ∙ ap (λ (k : Kept). k.store.state.number) c.self.view_is))) c.requires.opening (c.requires.fits (steps_of past) st.writes.pipeline)) refl (nothing_moves _ c.requires.whole (c.requires.stored told)))

pub returns-in_err-ids-clause-files : goal.returns-in_err-ids-clause-files
returns-in_err-ids-clause-files g c = λ told s past stands. by_state (λ (t : State). MovesBy t past (event.Written c.args.response) (g.H.Host.view c.args.host.now) (g.H.Host.view c.args.host.now)) stands (λ st. moves_acknowledged c.in-Some.first.now c.in-Some-commit_time.time c.args.response st (omega (arith, c.if-number-ge-MOST_COMMITS.false, (c.number-number.ensures.number ∙ ap (λ (k : Kept). k.store.state.number) c.self.view_is))) (sym c.first_pending.ensures ∙ ap (option_map (λ b. b.now)) c.in-Some.is) c.in-Some-commit_time.is c.requires.opening (c.requires.fits (steps_of past) st.writes.pipeline) (nothing_moves _ c.requires.whole (c.requires.stored told)))

pub returns-in_err-push-clause-files : goal.returns-in_err-push-clause-files
returns-in_err-push-clause-files g c = λ told s past stands. by_state (λ (t : State). MovesBy t past (event.Written c.args.response) (g.H.Host.view c.args.host.now) (g.H.Host.view c.args.host.now)) stands (λ st. moves_acknowledged c.in-Some.first.now c.in-Some-commit_time.time c.args.response st (omega (arith, c.if-number-ge-MOST_COMMITS.false, (c.number-number.ensures.number ∙ ap (λ (k : Kept). k.store.state.number) c.self.view_is))) (sym c.first_pending.ensures ∙ ap (option_map (λ b. b.now)) c.in-Some.is) c.in-Some-commit_time.is c.requires.opening (c.requires.fits (steps_of past) st.writes.pipeline) (nothing_moves _ c.requires.whole (c.requires.stored told)))

pub commit-requires-clause-fits : goal.commit-requires-clause-fits
commit-requires-clause-fits g c = acknowledge_fits c.args.self.now.store.state c.in-Some.first.now c.id_of-batch.result c.in-Some-commit_time.time c.args.response c.id_of-batch.ensures (sym c.first_pending.ensures ∙ ap (option_map (λ b. b.now)) c.in-Some.is) (omega (arith, c.if-number-ge-MOST_COMMITS.false, (c.number-number.ensures.number ∙ ap (λ (k : Kept). k.store.state.number) c.self.view_is))) (comes_some c.args.self.now.writes c.requires.fits).1.2

pub unreachable-requires : goal.unreachable-requires
unreachable-requires g c = subst (λ (b : Option Batch). HasTransforms b c.args.response) (sym c.first_pending.ensures ∙ ap (option_map (λ b. b.now)) c.in_default.is) (comes_some c.args.self.now.writes c.requires.fits).1.2

pub unreachable-requires-in_default-commit_time : goal.unreachable-requires-in_default-commit_time
unreachable-requires-in_default-commit_time g c = (comes_some c.args.self.now.writes c.requires.fits).1.3 c.in_default-commit_time.is

pub returns-in_err-commit-clause-files : goal.returns-in_err-commit-clause-files
returns-in_err-commit-clause-files g c = λ told s past stands. by_state (λ (t : State). MovesBy t past (event.Written c.args.response) (g.H.Host.view c.args.host.now) (g.H.Host.view c.commit.new.host)) stands (λ st. moves_acknowledged c.in-Some.first.now c.in-Some-commit_time.time c.args.response st (omega (arith, c.if-number-ge-MOST_COMMITS.false, (c.number-number.ensures.number ∙ ap (λ (k : Kept). k.store.state.number) c.self.view_is))) (sym c.first_pending.ensures ∙ ap (option_map (λ b. b.now)) c.in-Some.is) c.in-Some-commit_time.is c.requires.opening (c.requires.fits (steps_of past) st.writes.pipeline) (subst (λ (n : ℕ). Moves c.args.self.now.store.state (committed c.args.self.now.store.state (Acknowledge n c.in-Some-commit_time.time c.args.response.results)) (g.H.Host.view c.args.host.now) (g.H.Host.view c.commit.new.host)) c.id_of-batch.ensures (c.commit.ensures.files told)))

pub returns-in_err-settle-clause-files : goal.returns-in_err-settle-clause-files
returns-in_err-settle-clause-files g c = λ told s past stands. by_state (λ (t : State). MovesBy t past (event.Written c.args.response) (g.H.Host.view c.args.host.now) (g.H.Host.view c.commit.new.host)) stands (λ st. moves_acknowledged c.in-Some.first.now c.in-Some-commit_time.time c.args.response st (omega (arith, c.if-number-ge-MOST_COMMITS.false, (c.number-number.ensures.number ∙ ap (λ (k : Kept). k.store.state.number) c.self.view_is))) (sym c.first_pending.ensures ∙ ap (option_map (λ b. b.now)) c.in-Some.is) c.in-Some-commit_time.is c.requires.opening (c.requires.fits (steps_of past) st.writes.pipeline) (subst (λ (n : ℕ). Moves c.args.self.now.store.state (committed c.args.self.now.store.state (Acknowledge n c.in-Some-commit_time.time c.args.response.results)) (g.H.Host.view c.args.host.now) (g.H.Host.view c.commit.new.host)) c.id_of-batch.ensures (c.commit.ensures.files told)))

pub returns-clause-files : goal.returns-clause-files
returns-clause-files g c = λ told s past stands. by_state (λ (t : State). MovesBy t past (event.Written c.args.response) (g.H.Host.view c.args.host.now) (g.H.Host.view c.commit.new.host)) stands (λ st. moves_acknowledged c.in-Some.first.now c.in-Some-commit_time.time c.args.response st (omega (arith, c.if-number-ge-MOST_COMMITS.false, (c.number-number.ensures.number ∙ ap (λ (k : Kept). k.store.state.number) c.self.view_is))) (sym c.first_pending.ensures ∙ ap (option_map (λ b. b.now)) c.in-Some.is) c.in-Some-commit_time.is c.requires.opening (c.requires.fits (steps_of past) st.writes.pipeline) (subst (λ (n : ℕ). Moves c.args.self.now.store.state (committed c.args.self.now.store.state (Acknowledge n c.in-Some-commit_time.time c.args.response.results)) (g.H.Host.view c.args.host.now) (g.H.Host.view c.commit.new.host)) c.id_of-batch.ensures (c.commit.ensures.files told)))

pub returns-clause-turn : goal.returns-clause-turn
returns-clause-turn g c = λ s past stands. by_state (λ (t : State). HandsSettled t past (event.Written c.args.response) (Done c.settle.new.outs) c.settle.new.self) stands (λ st.
    hands_acknowledged _ c.in-Some.first.now c.in-Some-commit_time.time c.args.response c.in_ok-ids.ids.items c.requires.idle st
    (subst (λ (ws : List Write). AreConcerned c.args.self.now.listeners ws c.in_ok-ids.ids.items) c.as_slice.ensures c.in_ok-ids.ensures)
    (omega (arith, c.if-number-ge-MOST_COMMITS.false, (c.number-number.ensures.number ∙ ap (λ (k : Kept). k.store.state.number) c.self.view_is))) (sym c.first_pending.ensures ∙ ap (option_map (λ b. b.now)) c.in-Some.is) c.in-Some-commit_time.is c.requires.opening (c.requires.fits (steps_of past) st.writes.pipeline)
    (ap (λ (k : Kept). k.root) c.self-2.view_is ∙ c.commit.ensures.rest.root) (ap (λ (k : Kept). k.listeners) c.self-2.view_is ∙ c.commit.ensures.rest.listeners) (ap (λ (k : Kept). k.limbo) c.self-2.view_is ∙ c.commit.ensures.rest.limbo) (ap (λ (k : Kept). k.watch) c.self-2.view_is ∙ c.commit.ensures.rest.watch)
    (subst (λ (w : WriteStream). GoesOn w c.came.new.self (λ h. kept c.args.response.token ∷ acknowledged ∷ h)) (ap (λ (k : Kept). k.writes) c.self-2.view_is ∙ c.commit.ensures.rest.writes) c.came.ensures)
    (ap (λ (k : Kept). k.store.state) c.self-2.view_is ∙ c.in_ok-commit.ensures.state ∙ ap (λ (n : ℕ). committed c.args.self.now.store.state (Acknowledge n c.in-Some-commit_time.time c.args.response.results)) c.id_of-batch.ensures)
    c.settle.ensures.rest c.as_slice-2.ensures.value c.in_ok-settle.ensures.raises
    (c.in_ok-push.ensures.items ∙ ap (λ (o : List Out). o ++ Result c.id_of-batch.result (c.number-number.result + 1) c.in-Some-commit_time.time ∷ []) c.new-outs.ensures.items
    ∙ ap (λ (n : ℕ). Result c.id_of-batch.result (n + 1) c.in-Some-commit_time.time ∷ []) (c.number-number.ensures.number ∙ ap (λ (k : Kept). k.store.state.number) c.self.view_is) ∙ ap (λ (n : ℕ). Result n (c.args.self.now.store.state.number + 1) c.in-Some-commit_time.time ∷ []) c.id_of-batch.ensures))

pub commit-requires-clause-spelled : goal.commit-requires-clause-spelled
commit-requires-clause-spelled g c = record { id = omega arith; moment = some_moment c.in-Some-commit_time.is c.requires.spelled.time; each = c.requires.spelled.results }

pub returns-in_err-commit-clause-meets : goal.returns-in_err-commit-clause-meets
returns-in_err-commit-clause-meets g c = λ is s past stands. by_state (λ (t : State). MakesOne t past (event.Written c.args.response)) stands (λ st.
    makes_acknowledged c.in-Some.first.now c.in-Some-commit_time.time c.args.response st (omega (arith, c.if-number-ge-MOST_COMMITS.false, (c.number-number.ensures.number ∙ ap (λ (k : Kept). k.store.state.number) c.self.view_is))) (sym c.first_pending.ensures ∙ ap (option_map (λ b. b.now)) c.in-Some.is) c.in-Some-commit_time.is c.requires.opening (c.requires.fits (steps_of past) st.writes.pipeline))
