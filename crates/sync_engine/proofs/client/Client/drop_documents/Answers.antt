use Rattle.std.proofs.Common.{ℕ, ◌<◌, ℤ, pos, nat_eq, if◌then◌else◌, List, [], ◌++◌, map as each, refl, sym, ap, subst, ◌∙◌, arith}
use Rattle.std.specs.List.{All, AllPairs, list_any}
use Rattle.client_events.specs.declared.event.Event.TheVariants as event
use Rattle.durable_state.specs.Rows.{HasRow}
use Rattle.local_store.specs.Files.{Moves}
use Rattle.local_store.specs.State.{State, committed}
use Rattle.record_codec.specs.declared.commit.Commit.TheVariants.{Drop}
use Rattle.sync_engine.specs.Dropping.{AreMovedBy, Drops}
use Rattle.sync_engine.specs.Standing.{Kept, limbo_in}
use Rattle.sync_engine.specs.Stream.{Hears}
use Rattle.sync_engine.specs.Telling.{HandsSettled, MovesBy, RemovesAll, MakesOne}
use Rattle.client_turns.specs.LimboListens.{without_all}
use Rattle.client_turns.specs.Watching.{calls_of}
use Rattle.sync_engine.specs.declared.out.Out.TheVariants.{Error}
use Rattle.sync_engine.specs.declared.out.Outcome.TheVariants.{Done, Refused}
use Rattle.client_turns.specs.declared.refusal.Refusal.TheVariants.{IdsSpent}
use Rattle.sync_engine.proofs.Dropped.{some_length}
use Rattle.sync_engine.proofs.DroppedDocuments.{dropped_spent, gone_of, hands_drop, moves_dropped, makes_dropped}
use Rattle.sync_engine.proofs.Following.{by_state, nothing_done}
use Rattle.sync_engine.proofs.Handing.{hands_refused}
use Rattle.sync_engine.proofs.client.Client.drop_documents.Goals as goal

pub returns-in_err-going-clause-files : goal.returns-in_err-going-clause-files
returns-in_err-going-clause-files g c = λ told. nothing_done c.requires.whole (c.requires.stored told)

pub returns-in_err-listeners-clause-files : goal.returns-in_err-listeners-clause-files
returns-in_err-listeners-clause-files g c = λ told. nothing_done c.requires.whole (c.requires.stored told)

pub returns-then-number-ge-MOST_COMMITS-clause-files : goal.returns-then-number-ge-MOST_COMMITS-clause-files
returns-then-number-ge-MOST_COMMITS-clause-files g c = λ told. nothing_done c.requires.whole (c.requires.stored told)

pub returns-in_err-outs-clause-files : goal.returns-in_err-outs-clause-files
returns-in_err-outs-clause-files g c = λ told. nothing_done c.requires.whole (c.requires.stored told)

pub returns-in_err-heard-clause-files : goal.returns-in_err-heard-clause-files
returns-in_err-heard-clause-files g c = λ told. nothing_done c.requires.whole (c.requires.stored told)

pub returns-in_err-moved-clause-files : goal.returns-in_err-moved-clause-files
returns-in_err-moved-clause-files g c = λ told s past stands. by_state (λ (t : State). MovesBy t past (event.Watch c.args.response.now) (g.H.Host.view c.args.host.now) (g.H.Host.view c.let_go.new.host)) stands (λ st.
    moves_dropped c.args.response.now c.args.ids.now c.args.status.now c.args.keys c.in_ok-going.going.rows.items c.in_ok-listeners.listeners.items st c.requires.opening (c.requires.gives (calls_of past) st.watch.calls) c.requires.dropped c.requires.some
    (c.in_ok-going.ensures.going (calls_of past) st.watch.calls).rows c.in_ok-listeners.ensures
    (omega (arith, c.if-number-ge-MOST_COMMITS.false, (c.number.ensures.number ∙ ap (λ (k : Kept). k.store.state.number) c.self.view_is)))
    (subst (λ (k : Kept). Moves k.store.state (committed k.store.state (Drop c.args.keys c.in_ok-going.going.rows.items)) (g.H.Host.view c.args.host.now) (g.H.Host.view c.let_go.new.host)) c.self.view_is (c.let_go.ensures.files told)))

pub returns-in_err-settle-clause-files : goal.returns-in_err-settle-clause-files
returns-in_err-settle-clause-files g c = λ told s past stands. by_state (λ (t : State). MovesBy t past (event.Watch c.args.response.now) (g.H.Host.view c.args.host.now) (g.H.Host.view c.let_go.new.host)) stands (λ st.
    moves_dropped c.args.response.now c.args.ids.now c.args.status.now c.args.keys c.in_ok-going.going.rows.items c.in_ok-listeners.listeners.items st c.requires.opening (c.requires.gives (calls_of past) st.watch.calls) c.requires.dropped c.requires.some
    (c.in_ok-going.ensures.going (calls_of past) st.watch.calls).rows c.in_ok-listeners.ensures
    (omega (arith, c.if-number-ge-MOST_COMMITS.false, (c.number.ensures.number ∙ ap (λ (k : Kept). k.store.state.number) c.self.view_is)))
    (subst (λ (k : Kept). Moves k.store.state (committed k.store.state (Drop c.args.keys c.in_ok-going.going.rows.items)) (g.H.Host.view c.args.host.now) (g.H.Host.view c.let_go.new.host)) c.self.view_is (c.let_go.ensures.files told)))

pub returns-clause-files : goal.returns-clause-files
returns-clause-files g c = λ told s past stands. by_state (λ (t : State). MovesBy t past (event.Watch c.args.response.now) (g.H.Host.view c.args.host.now) (g.H.Host.view c.let_go.new.host)) stands (λ st.
    moves_dropped c.args.response.now c.args.ids.now c.args.status.now c.args.keys c.in_ok-going.going.rows.items c.in_ok-listeners.listeners.items st c.requires.opening (c.requires.gives (calls_of past) st.watch.calls) c.requires.dropped c.requires.some
    (c.in_ok-going.ensures.going (calls_of past) st.watch.calls).rows c.in_ok-listeners.ensures
    (omega (arith, c.if-number-ge-MOST_COMMITS.false, (c.number.ensures.number ∙ ap (λ (k : Kept). k.store.state.number) c.self.view_is)))
    (subst (λ (k : Kept). Moves k.store.state (committed k.store.state (Drop c.args.keys c.in_ok-going.going.rows.items)) (g.H.Host.view c.args.host.now) (g.H.Host.view c.let_go.new.host)) c.self.view_is (c.let_go.ensures.files told)))

pub returns-then-number-ge-MOST_COMMITS-clause-turn : goal.returns-then-number-ge-MOST_COMMITS-clause-turn
returns-then-number-ge-MOST_COMMITS-clause-turn g c = λ s past stands. by_state (λ (t : State). HandsSettled t past (event.Watch c.args.response.now) (Refused IdsSpent c.new.result) c.args.self.now) stands (λ st.
    hands_refused IdsSpent refl c.requires.idle st
    (dropped_spent c.args.response.now c.args.ids.now c.args.status.now c.args.keys c.in_ok-going.going.rows.items c.in_ok-listeners.listeners.items st c.requires.opening (c.requires.gives (calls_of past) st.watch.calls) c.requires.dropped c.requires.some
    (c.in_ok-going.ensures.going (calls_of past) st.watch.calls).rows c.in_ok-listeners.ensures
    (omega (arith, c.if-number-ge-MOST_COMMITS.true, (c.number.ensures.number ∙ ap (λ (k : Kept). k.store.state.number) c.self.view_is))))
    c.new.ensures.items)

pub let_go-requires-clause-fits : goal.let_go-requires-clause-fits
let_go-requires-clause-fits g c = (
  record {
    some = some_length c.args.keys c.requires.some;
    known = subst (λ (k : Kept). All (HasRow k.store.state.rows) c.in_ok-going.going.rows.items) (sym c.self.view_is) c.in_ok-going.ensures.known;
  },
  omega (arith, c.if-number-ge-MOST_COMMITS.false, c.number.ensures.number),
)

pub settle-requires : goal.settle-requires
settle-requires g c = record { ascending = subst (AllPairs (λ (a b : ℕ). a < b)) (sym (c.as_slice-3.ensures.value ∙ c.in_ok-moved.ensures.moved)) c.in_ok-going.ensures.moved.ascending }

pub returns-clause-turn : goal.returns-clause-turn
returns-clause-turn g c = λ s past stands.
    let old = c.args.self.now in
    let ids = c.args.ids.now in
    let rows : List ℕ = c.in_ok-going.going.rows.items in
    let those : List ℕ = c.in_ok-listeners.listeners.items in
    let gone = gone_of c.as_slice-2.ensures.value c.in_ok-moved.ensures.gone in
    by_state (λ (t : State). HandsSettled t past (event.Watch c.args.response.now) (Done c.settle.new.outs) c.settle.new.self) stands (λ st.
    let going = c.in_ok-going.ensures.going (calls_of past) st.watch.calls in
    hands_drop c.let_go.new.self c.args.response.now ids c.args.status.now c.args.keys rows those c.in_ok-going.going.moved.items going.told c.heard.new.self
    st c.requires.opening c.requires.idle c.requires.spelled (c.requires.gives (calls_of past) st.watch.calls)
    c.requires.dropped c.requires.some going.rows going.told_are
    (omega (arith, c.if-number-ge-MOST_COMMITS.false, (c.number.ensures.number ∙ ap (λ (k : Kept). k.store.state.number) c.self.view_is)))
    (subst (λ (ts : List ℤ). AreMovedBy old c.args.keys ts c.in_ok-going.going.moved.items) c.in_ok-going.ensures.blanked c.in_ok-going.ensures.moved)
    (gone.root ∙ ap (λ (k : Kept). k.root) c.self.view_is)
    (gone.state ∙ ap (λ (k : Kept). committed k.store.state (Drop c.args.keys rows)) c.self.view_is)
    (gone.writes ∙ ap (λ (k : Kept). k.writes) c.self.view_is)
    c.in_ok-listeners.ensures
    (subst (λ (k : Kept). RemovesAll those k.listeners c.let_go.new.self.listeners) c.self.view_is gone.removed)
    (λ q. gone.forgets q ∙ ap (λ keys. if list_any (nat_eq q) those then [] else keys) (ap (λ (k : Kept). limbo_in k q) c.self.view_is))
    (gone.refuses ∙ ap (λ (k : Kept). record k.limbo.limbo { running = without_all ids k.limbo.limbo.running }) c.self.view_is)
    (subst (λ (k : Kept). Hears c.args.response.now k.watch c.heard.new.self) c.self.view_is c.in_ok-heard.ensures)
    (subst (λ (b : List ℤ). Drops ids b (each pos rows ++ going.told) c.heard.new.self c.let_go.new.self.watch) c.in_ok-going.ensures.blanked
    (subst (λ (r : List ℤ). Drops ids c.in_ok-going.going.blanked.items r c.heard.new.self c.let_go.new.self.watch) going.resets gone.watch))
    c.settle.ensures.rest (c.as_slice-3.ensures.value ∙ c.in_ok-moved.ensures.moved) c.in_ok-settle.ensures.raises
    (c.in_ok-outs.ensures ∙ ap (λ (l : List ℕ). each (λ id. Error id c.args.status.now) l) c.as_slice.ensures.value))

pub returns-in_err-moved-clause-meets : goal.returns-in_err-moved-clause-meets
returns-in_err-moved-clause-meets g c = λ is s past stands. by_state (λ (t : State). MakesOne t past (event.Watch c.args.response.now)) stands (λ st.
    makes_dropped c.args.response.now c.args.ids.now c.args.status.now c.args.keys c.in_ok-going.going.rows.items c.in_ok-listeners.listeners.items st c.requires.opening (c.requires.gives (calls_of past) st.watch.calls) c.requires.dropped c.requires.some
    (c.in_ok-going.ensures.going (calls_of past) st.watch.calls).rows c.in_ok-listeners.ensures
    (omega (arith, c.if-number-ge-MOST_COMMITS.false, (c.number.ensures.number ∙ ap (λ (k : Kept). k.store.state.number) c.self.view_is))))
