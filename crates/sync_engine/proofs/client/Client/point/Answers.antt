use Rattle.std.proofs.Common.{◌∷◌, refl, sym, ap, subst, ◌∙◌, arith}
use Rattle.client_events.specs.declared.event.Event.TheVariants as event
use Rattle.listen_protocol.specs.Calls.{came}
use Rattle.local_store.specs.Files.{Moves}
use Rattle.local_store.specs.State.{State, committed}
use Rattle.record_codec.specs.declared.commit.Commit.TheVariants.{Point}
use Rattle.sync_engine.specs.Stream.{Hears}
use Rattle.sync_engine.specs.Standing.{Kept}
use Rattle.sync_engine.specs.Telling.{HandsSettled, MovesBy, MakesOne}
use Rattle.client_turns.specs.Watching.{calls_of}
use Rattle.sync_engine.specs.declared.out.Outcome.TheVariants.{Done, Refused}
use Rattle.sync_engine.specs.declared.watch_stream.WatchStream.{WatchStream}
use Rattle.client_turns.specs.declared.refusal.Refusal.TheVariants.{IdsSpent}
use Rattle.sync_engine.proofs.Following.{by_state, nothing_done}
use Rattle.sync_engine.proofs.Handing.{hands_refused}
use Rattle.sync_engine.proofs.Pointed.{current_as, hands_point, made_commit, made_spelled, moved_as, parts_as, moves_point, parts_of, point_ascends, point_moment, point_spent, makes_point}
use Rattle.sync_engine.proofs.Turning.{moves_none}
use Rattle.sync_engine.proofs.Committed.{nothing_moves}
use Rattle.client_turns.specs.Turns.{refused}
use Rattle.sync_engine.proofs.client.Client.point.Goals as goal

pub returns-then-number-ge-MOST_COMMITS-clause-turn : goal.returns-then-number-ge-MOST_COMMITS-clause-turn
returns-then-number-ge-MOST_COMMITS-clause-turn g c = λ s past stands. by_state (λ (t : State). HandsSettled t past (event.Watch c.args.response.now) (Refused IdsSpent c.new.result) c.args.self.now) stands (λ st.
    hands_refused IdsSpent refl c.requires.idle st (point_spent c.args.response.now c.args.at st c.requires.opening (c.requires.gives (calls_of past) st.watch.calls) c.requires.time (omega (arith, c.if-number-ge-MOST_COMMITS.true, (c.number-number.ensures.number ∙ ap (λ (k : Kept). k.store.state.number) c.self.view_is)))) c.new.ensures.items)

pub returns-then-number-ge-MOST_COMMITS-clause-files : goal.returns-then-number-ge-MOST_COMMITS-clause-files
returns-then-number-ge-MOST_COMMITS-clause-files g c = λ told s past stands. by_state (λ (t : State). MovesBy t past (event.Watch c.args.response.now) (g.H.Host.view c.args.host.now) (g.H.Host.view c.args.host.now)) stands (λ st.
    moves_none (event.Watch c.args.response.now) (refused IdsSpent) (point_spent c.args.response.now c.args.at st c.requires.opening (c.requires.gives (calls_of past) st.watch.calls) c.requires.time (omega (arith, c.if-number-ge-MOST_COMMITS.true, (c.number-number.ensures.number ∙ ap (λ (k : Kept). k.store.state.number) c.self.view_is)))) refl (nothing_moves _ c.requires.whole (c.requires.stored told)))

pub returns-in_err-heard-clause-files : goal.returns-in_err-heard-clause-files
returns-in_err-heard-clause-files g c = λ told. nothing_done c.requires.whole (c.requires.stored told)

pub returns-in_err-entries-clause-files : goal.returns-in_err-entries-clause-files
returns-in_err-entries-clause-files g c = λ told. nothing_done c.requires.whole (c.requires.stored told)

pub returns-in_err-made-clause-files : goal.returns-in_err-made-clause-files
returns-in_err-made-clause-files g c = λ told. nothing_done c.requires.whole (c.requires.stored told)

pub returns-in_err-ids-clause-files : goal.returns-in_err-ids-clause-files
returns-in_err-ids-clause-files g c = λ told. nothing_done c.requires.whole (c.requires.stored told)

pub commit-requires-clause-spelled : goal.commit-requires-clause-spelled
commit-requires-clause-spelled g c =
    let heard = c.requires.heard in
    made_spelled c.from_vec-entries.ensures c.from_vec-rows.ensures
    (c.in_ok-made.ensures.spelled (point_moment heard.0 c.args.response.now c.args.at (c.requires.gives heard.0 heard.1.0) c.requires.spelled) (came c.args.response.now ∷ heard.0)
    (parts_as refl c.as_slice.ensures.value (parts_of c.args.response.now (subst (λ (k : Kept). Hears c.args.response.now k.watch c.heard.new.self) c.self.view_is c.in_ok-heard.ensures) c.in_ok-entries.ensures heard.1.0))
    (c.requires.spelled, heard.1.1))

pub returns-in_err-commit-clause-files : goal.returns-in_err-commit-clause-files
returns-in_err-commit-clause-files g c = λ told s past stands. by_state (λ (t : State). MovesBy t past (event.Watch c.args.response.now) (g.H.Host.view c.args.host.now) (g.H.Host.view c.commit.new.host)) stands (λ st.
    moves_point c.args.response.now c.args.at st c.requires.opening (c.requires.gives (calls_of past) st.watch.calls) c.requires.time c.from_vec-entries.result c.from_vec-rows.result (omega (arith, c.if-number-ge-MOST_COMMITS.false, (c.number-number.ensures.number ∙ ap (λ (k : Kept). k.store.state.number) c.self.view_is)))
    (made_commit (c.tables.ensures ∙ ap (λ (k : Kept). k.store.state) c.self.view_is) c.from_vec-entries.ensures c.from_vec-rows.ensures (c.in_ok-made.ensures.commit (came c.args.response.now ∷ calls_of past) (parts_as refl c.as_slice.ensures.value (parts_of c.args.response.now (subst (λ (k : Kept). Hears c.args.response.now k.watch c.heard.new.self) c.self.view_is c.in_ok-heard.ensures) c.in_ok-entries.ensures st.watch.calls))))
    (subst (λ (k : Kept). Moves k.store.state (committed k.store.state (Point c.args.at c.from_vec-entries.result c.from_vec-rows.result)) (g.H.Host.view c.args.host.now) (g.H.Host.view c.commit.new.host)) c.self.view_is (c.commit.ensures.files told)))

pub returns-in_err-self-inside-clause-files : goal.returns-in_err-self-inside-clause-files
returns-in_err-self-inside-clause-files g c = λ told s past stands. by_state (λ (t : State). MovesBy t past (event.Watch c.args.response.now) (g.H.Host.view c.args.host.now) (g.H.Host.view c.commit.new.host)) stands (λ st.
    moves_point c.args.response.now c.args.at st c.requires.opening (c.requires.gives (calls_of past) st.watch.calls) c.requires.time c.from_vec-entries.result c.from_vec-rows.result (omega (arith, c.if-number-ge-MOST_COMMITS.false, (c.number-number.ensures.number ∙ ap (λ (k : Kept). k.store.state.number) c.self.view_is)))
    (made_commit (c.tables.ensures ∙ ap (λ (k : Kept). k.store.state) c.self.view_is) c.from_vec-entries.ensures c.from_vec-rows.ensures (c.in_ok-made.ensures.commit (came c.args.response.now ∷ calls_of past) (parts_as refl c.as_slice.ensures.value (parts_of c.args.response.now (subst (λ (k : Kept). Hears c.args.response.now k.watch c.heard.new.self) c.self.view_is c.in_ok-heard.ensures) c.in_ok-entries.ensures st.watch.calls))))
    (subst (λ (k : Kept). Moves k.store.state (committed k.store.state (Point c.args.at c.from_vec-entries.result c.from_vec-rows.result)) (g.H.Host.view c.args.host.now) (g.H.Host.view c.commit.new.host)) c.self.view_is (c.commit.ensures.files told)))

pub returns-in_err-settle-clause-files : goal.returns-in_err-settle-clause-files
returns-in_err-settle-clause-files g c = λ told s past stands. by_state (λ (t : State). MovesBy t past (event.Watch c.args.response.now) (g.H.Host.view c.args.host.now) (g.H.Host.view c.commit.new.host)) stands (λ st.
    moves_point c.args.response.now c.args.at st c.requires.opening (c.requires.gives (calls_of past) st.watch.calls) c.requires.time c.from_vec-entries.result c.from_vec-rows.result (omega (arith, c.if-number-ge-MOST_COMMITS.false, (c.number-number.ensures.number ∙ ap (λ (k : Kept). k.store.state.number) c.self.view_is)))
    (made_commit (c.tables.ensures ∙ ap (λ (k : Kept). k.store.state) c.self.view_is) c.from_vec-entries.ensures c.from_vec-rows.ensures (c.in_ok-made.ensures.commit (came c.args.response.now ∷ calls_of past) (parts_as refl c.as_slice.ensures.value (parts_of c.args.response.now (subst (λ (k : Kept). Hears c.args.response.now k.watch c.heard.new.self) c.self.view_is c.in_ok-heard.ensures) c.in_ok-entries.ensures st.watch.calls))))
    (subst (λ (k : Kept). Moves k.store.state (committed k.store.state (Point c.args.at c.from_vec-entries.result c.from_vec-rows.result)) (g.H.Host.view c.args.host.now) (g.H.Host.view c.commit.new.host)) c.self.view_is (c.commit.ensures.files told)))

pub returns-clause-files : goal.returns-clause-files
returns-clause-files g c = λ told s past stands. by_state (λ (t : State). MovesBy t past (event.Watch c.args.response.now) (g.H.Host.view c.args.host.now) (g.H.Host.view c.commit.new.host)) stands (λ st.
    moves_point c.args.response.now c.args.at st c.requires.opening (c.requires.gives (calls_of past) st.watch.calls) c.requires.time c.from_vec-entries.result c.from_vec-rows.result (omega (arith, c.if-number-ge-MOST_COMMITS.false, (c.number-number.ensures.number ∙ ap (λ (k : Kept). k.store.state.number) c.self.view_is)))
    (made_commit (c.tables.ensures ∙ ap (λ (k : Kept). k.store.state) c.self.view_is) c.from_vec-entries.ensures c.from_vec-rows.ensures (c.in_ok-made.ensures.commit (came c.args.response.now ∷ calls_of past) (parts_as refl c.as_slice.ensures.value (parts_of c.args.response.now (subst (λ (k : Kept). Hears c.args.response.now k.watch c.heard.new.self) c.self.view_is c.in_ok-heard.ensures) c.in_ok-entries.ensures st.watch.calls))))
    (subst (λ (k : Kept). Moves k.store.state (committed k.store.state (Point c.args.at c.from_vec-entries.result c.from_vec-rows.result)) (g.H.Host.view c.args.host.now) (g.H.Host.view c.commit.new.host)) c.self.view_is (c.commit.ensures.files told)))

pub returns-clause-turn : goal.returns-clause-turn
returns-clause-turn g c = λ s past stands. by_state (λ (t : State). HandsSettled t past (event.Watch c.args.response.now) (Done c.settle.new.outs) c.settle.new.self) stands (λ st.
    hands_point c.args.response.now c.args.at c.from_vec-entries.result c.from_vec-rows.result c.in_ok-ids.ids.items
    (record {
      heard = c.heard.new.self;
      passed_on = c.applied.new.self;
      hears = (subst (λ (k : Kept). Hears c.args.response.now k.watch c.heard.new.self) c.self.view_is c.in_ok-heard.ensures);
      it = c.in_ok-entries.field-0;
      applies = c.in_ok-entries.ensures;
      commit = (made_commit (c.tables.ensures ∙ ap (λ (k : Kept). k.store.state) c.self.view_is) c.from_vec-entries.ensures c.from_vec-rows.ensures (c.in_ok-made.ensures.commit (came c.args.response.now ∷ calls_of past) (parts_as refl c.as_slice.ensures.value (parts_of c.args.response.now (subst (λ (k : Kept). Hears c.args.response.now k.watch c.heard.new.self) c.self.view_is c.in_ok-heard.ensures) c.in_ok-entries.ensures st.watch.calls))));
      asked = _;
      asked_listeners = ap (λ (k : Kept). k.listeners) c.self.view_is;
      asked_current = c.in_ok-entries.ensures.rest.current ∙ (subst (λ (k : Kept). Hears c.args.response.now k.watch c.heard.new.self) c.self.view_is c.in_ok-heard.ensures).current;
      moved = moved_as (c.as_slice-2.ensures.value ∙ sym c.from_vec-entries.ensures) c.as_slice-3.ensures.value c.in_ok-ids.ensures;
      current = current_as (c.commit.ensures.rest.listeners ∙ ap (λ (k : Kept). k.listeners) c.self.view_is) (c.in_ok-self-inside.ensures (point_ascends c.args.response.now (subst (λ (k : Kept). Hears c.args.response.now k.watch c.heard.new.self) c.self.view_is c.in_ok-heard.ensures) c.in_ok-entries.ensures st.watch.calls));
      root = ap (λ (k : Kept). k.root) c.self-2.view_is ∙ c.commit.ensures.rest.root ∙ ap (λ (k : Kept). k.root) c.self.view_is;
      listeners = ap (λ (k : Kept). k.listeners) c.self-2.view_is ∙ c.commit.ensures.rest.listeners ∙ ap (λ (k : Kept). k.listeners) c.self.view_is;
      held = ap (λ (k : Kept). k.limbo) c.self-2.view_is ∙ c.commit.ensures.rest.limbo ∙ ap (λ (k : Kept). k.limbo) c.self.view_is;
      writes = ap (λ (k : Kept). k.writes) c.self-2.view_is ∙ c.commit.ensures.rest.writes ∙ ap (λ (k : Kept). k.writes) c.self.view_is;
      opening = ap (λ (k : Kept). k.watch.is_open) c.self-2.view_is ∙ ap (λ (w : WatchStream). w.is_open) c.commit.ensures.rest.watch;
      aggregator = ap (λ (k : Kept). k.watch.aggregator) c.self-2.view_is ∙ ap (λ (w : WatchStream). w.aggregator) c.commit.ensures.rest.watch;
      online = ap (λ (k : Kept). k.watch.online) c.self-2.view_is ∙ ap (λ (w : WatchStream). w.online) c.commit.ensures.rest.watch;
      due = ap (λ (k : Kept). k.watch.due) c.self-2.view_is ∙ ap (λ (w : WatchStream). w.due) c.commit.ensures.rest.watch;
      state = ap (λ (k : Kept). k.store.state) c.self-2.view_is ∙ c.in_ok-commit.ensures.state ∙ ap (λ (k : Kept). committed k.store.state (Point c.args.at c.from_vec-entries.result c.from_vec-rows.result)) c.self.view_is;
    })
    st c.requires.idle c.requires.opening c.requires.spelled (c.requires.gives (calls_of past) st.watch.calls) c.requires.time (omega (arith, c.if-number-ge-MOST_COMMITS.false, (c.number-number.ensures.number ∙ ap (λ (k : Kept). k.store.state.number) c.self.view_is)))
    c.settle.ensures.rest c.as_slice-4.ensures.value c.in_ok-settle.ensures.raises c.new-outs.ensures.items)

pub returns-in_err-commit-clause-meets : goal.returns-in_err-commit-clause-meets
returns-in_err-commit-clause-meets g c = λ is s past stands. by_state (λ (t : State). MakesOne t past (event.Watch c.args.response.now)) stands (λ st.
    makes_point c.args.response.now c.args.at st c.requires.opening (c.requires.gives (calls_of past) st.watch.calls) c.requires.time c.from_vec-entries.result c.from_vec-rows.result (omega (arith, c.if-number-ge-MOST_COMMITS.false, (c.number-number.ensures.number ∙ ap (λ (k : Kept). k.store.state.number) c.self.view_is)))
    (made_commit (c.tables.ensures ∙ ap (λ (k : Kept). k.store.state) c.self.view_is) c.from_vec-entries.ensures c.from_vec-rows.ensures (c.in_ok-made.ensures.commit (came c.args.response.now ∷ calls_of past) (parts_as refl c.as_slice.ensures.value (parts_of c.args.response.now (subst (λ (k : Kept). Hears c.args.response.now k.watch c.heard.new.self) c.self.view_is c.in_ok-heard.ensures) c.in_ok-entries.ensures st.watch.calls)))))
