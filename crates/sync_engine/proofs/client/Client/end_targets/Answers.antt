use Rattle.std.proofs.Common.{◌↔◌, ℕ, ◌<◌, ◌^◌, nat_eq, if◌then◌else◌, IsTrue, List, [], length, arith, refl, sym, ap, subst, ◌∙◌, map as each}
use Rattle.std.proofs.lemmas.Bool.{true≢false}
use Rattle.client_events.specs.declared.event.Event.TheVariants as event
use Rattle.std.specs.List.{list_any}
use Rattle.limbo_listens.specs.Listens.{Listens, limbo_at}
use Rattle.limbo_resolver.specs.Limbo.{Limbo}
use Rattle.listeners.specs.Table.{Table}
use Rattle.local_store.specs.Files.{Moves}
use Rattle.local_store.specs.State.{State}
use Rattle.local_store.specs.Store.{Store}
use Rattle.client_turns.specs.Blanking.{IsBlanking, blanked_state}
use Rattle.client_turns.specs.Hearing.{IsAnyHeld}
use Rattle.sync_engine.specs.Standing.{Kept, limbo_in}
use Rattle.sync_engine.specs.Stream.{EndsAll, Hears}
use Rattle.sync_engine.specs.Telling.{ForgetsAll, HandsSettled, MovesBy, RemovesAll, MakesOne}
use Rattle.client_turns.specs.LimboListens.{without_all}
use Rattle.client_turns.specs.Watching.{calls_of}
use Rattle.sync_engine.specs.declared.out.Out.TheVariants.{Error}
use Rattle.sync_engine.specs.declared.out.Outcome.TheVariants.{Done, Refused}
use Rattle.client_turns.specs.declared.refusal.Refusal.TheVariants.{IdsSpent}
use Rattle.sync_engine.specs.declared.watch_stream.WatchStream.{WatchStream}
use Rattle.sync_engine.proofs.Dropped.{end_spent, hands_end, moves_end, makes_end}
use Rattle.sync_engine.proofs.Emptied.{blanking}
use Rattle.sync_engine.proofs.Following.{by_state, nothing_done}
use Rattle.sync_engine.proofs.Handing.{hands_refused}
use Rattle.sync_engine.proofs.client.Client.end_targets.Goals as goal
use Rattle.sync_engine.proofs.client.Client.end_targets.Goals.{else-blanks-via-then-blanks+else-number-ge-MOST_COMMITS, else-blanks-via-else-blanks}

pub blank-requires-clause-fits : goal.blank-requires-clause-fits
blank-requires-clause-fits g c = λ blanks.
    subst (λ (k : Kept). IsBlanking k.store.state c.in_ok-rows.rows.items) (sym c.self.view_is)
    (blanking c.args.self.now.store.state _ c.in_ok-rows.rows.items c.in_ok-rows.ensures.rows
    (subst (IsAnyHeld c.args.self.now.store.state.rows) c.as_slice.ensures.value (c.is_any_held-blanks.ensures.0 blanks))
    (elim c.else-blanks.branch [
      | else-blanks-via-then-blanks+else-number-ge-MOST_COMMITS w ↦ omega (arith, w.if-number-ge-MOST_COMMITS.false, (w.number.ensures.number ∙ ap (λ (k : Kept). k.store.state.number) c.self.view_is))
      | else-blanks-via-else-blanks w ↦ absurd (true≢false (sym blanks ∙ w.if-blanks.false))
    ])
    (subst (λ (l : List ℕ). length l < 2 ^ 64) c.as_slice.ensures.value c.as_slice.type_inv.0)
    c.in_ok-rows.ensures.low)

pub returns-then-number-ge-MOST_COMMITS-clause-turn : goal.returns-then-number-ge-MOST_COMMITS-clause-turn
returns-then-number-ge-MOST_COMMITS-clause-turn g c = λ s past stands. by_state (λ (t : State). HandsSettled t past (event.Watch c.args.response.now) (Refused IdsSpent c.new.result) c.args.self.now) stands (λ st.
    hands_refused IdsSpent refl c.requires.idle st
    (end_spent c.args.response.now c.args.ids.now c.args.status.now st c.requires.opening (c.requires.gives (calls_of past) st.watch.calls) c.in_ok-rows.rows.items c.in_ok-listeners.listeners.items c.requires.none c.in_ok-rows.ensures.rows c.in_ok-listeners.ensures
    (subst (IsAnyHeld c.args.self.now.store.state.rows) c.as_slice.ensures.value (c.is_any_held-blanks.ensures.0 c.if-blanks.true))
    (omega (arith, c.if-number-ge-MOST_COMMITS.true, (c.number.ensures.number ∙ ap (λ (k : Kept). k.store.state.number) c.self.view_is))))
    c.new.ensures.items)

pub returns-in_err-rows-clause-files : goal.returns-in_err-rows-clause-files
returns-in_err-rows-clause-files g c = λ told. nothing_done c.requires.whole (c.requires.stored told)

pub returns-then-number-ge-MOST_COMMITS-clause-files : goal.returns-then-number-ge-MOST_COMMITS-clause-files
returns-then-number-ge-MOST_COMMITS-clause-files g c = λ told. nothing_done c.requires.whole (c.requires.stored told)

pub returns-in_err-listeners-clause-files : goal.returns-in_err-listeners-clause-files
returns-in_err-listeners-clause-files g c = λ told. nothing_done c.requires.whole (c.requires.stored told)

pub returns-in_err-outs-clause-files : goal.returns-in_err-outs-clause-files
returns-in_err-outs-clause-files g c = λ told. nothing_done c.requires.whole (c.requires.stored told)

pub returns-in_err-heard-clause-files : goal.returns-in_err-heard-clause-files
returns-in_err-heard-clause-files g c = λ told. nothing_done c.requires.whole (c.requires.stored told)

pub returns-in_err-blank-clause-files : goal.returns-in_err-blank-clause-files
returns-in_err-blank-clause-files g c = λ told s past stands. by_state (λ (t : State). MovesBy t past (event.Watch c.args.response.now) (g.H.Host.view c.args.host.now) (g.H.Host.view c.blank.new.host)) stands (λ st.
    moves_end c.args.response.now c.args.ids.now c.args.status.now st c.requires.opening (c.requires.gives (calls_of past) st.watch.calls) c.in_ok-rows.rows.items c.in_ok-listeners.listeners.items c.is_any_held-blanks.result c.requires.none c.in_ok-rows.ensures.rows c.in_ok-listeners.ensures
    (subst (λ (l : List ℕ). IsTrue c.is_any_held-blanks.result ↔ IsAnyHeld c.args.self.now.store.state.rows l) c.as_slice.ensures.value c.is_any_held-blanks.ensures)
    (λ so. elim c.else-blanks.branch [
      | else-blanks-via-then-blanks+else-number-ge-MOST_COMMITS w ↦ omega (arith, w.if-number-ge-MOST_COMMITS.false, (w.number.ensures.number ∙ ap (λ (k : Kept). k.store.state.number) c.self.view_is))
      | else-blanks-via-else-blanks w ↦ absurd (true≢false (sym so ∙ w.if-blanks.false))
    ])
    (subst (λ (k : Kept). Moves k.store.state (blanked_state c.is_any_held-blanks.result k.store.state c.in_ok-rows.rows.items) (g.H.Host.view c.args.host.now) (g.H.Host.view c.blank.new.host)) c.self.view_is (c.blank.ensures.files told)))

pub returns-clause-files : goal.returns-clause-files
returns-clause-files g c = λ told s past stands. by_state (λ (t : State). MovesBy t past (event.Watch c.args.response.now) (g.H.Host.view c.args.host.now) (g.H.Host.view c.blank.new.host)) stands (λ st.
    moves_end c.args.response.now c.args.ids.now c.args.status.now st c.requires.opening (c.requires.gives (calls_of past) st.watch.calls) c.in_ok-rows.rows.items c.in_ok-listeners.listeners.items c.is_any_held-blanks.result c.requires.none c.in_ok-rows.ensures.rows c.in_ok-listeners.ensures
    (subst (λ (l : List ℕ). IsTrue c.is_any_held-blanks.result ↔ IsAnyHeld c.args.self.now.store.state.rows l) c.as_slice.ensures.value c.is_any_held-blanks.ensures)
    (λ so. elim c.else-blanks.branch [
      | else-blanks-via-then-blanks+else-number-ge-MOST_COMMITS w ↦ omega (arith, w.if-number-ge-MOST_COMMITS.false, (w.number.ensures.number ∙ ap (λ (k : Kept). k.store.state.number) c.self.view_is))
      | else-blanks-via-else-blanks w ↦ absurd (true≢false (sym so ∙ w.if-blanks.false))
    ])
    (subst (λ (k : Kept). Moves k.store.state (blanked_state c.is_any_held-blanks.result k.store.state c.in_ok-rows.rows.items) (g.H.Host.view c.args.host.now) (g.H.Host.view c.blank.new.host)) c.self.view_is (c.blank.ensures.files told)))

pub returns-clause-turn : goal.returns-clause-turn
returns-clause-turn g c = λ s past stands.
    let new : Kept = record {
      root = c.self-2.inside.root;
      store = c.self-2.inside.store;
      listeners = c.self-2.inside.listeners;
      limbo = c.refuse_all.new.limbo;
      watch = c.ended.new.self;
      writes = c.self-2.inside.writes;
      spent = c.self-2.inside.spent;
    } in
    by_state (λ (t : State). HandsSettled t past (event.Watch c.args.response.now) (Done c.in_ok-outs.outs) new) stands (λ st.
    hands_end c.args.response.now c.args.ids.now c.args.status.now c.in_ok-rows.rows.items c.in_ok-listeners.listeners.items c.is_any_held-blanks.result c.blank.new.self.watch st c.requires.opening c.requires.idle c.requires.spelled (c.requires.gives (calls_of past) st.watch.calls)
    c.requires.none c.in_ok-rows.ensures.rows
    (subst (λ (l : List ℕ). IsTrue c.is_any_held-blanks.result ↔ IsAnyHeld c.args.self.now.store.state.rows l) c.as_slice.ensures.value c.is_any_held-blanks.ensures)
    (λ so. elim c.else-blanks.branch [
      | else-blanks-via-then-blanks+else-number-ge-MOST_COMMITS w ↦ omega (arith, w.if-number-ge-MOST_COMMITS.false, (w.number.ensures.number ∙ ap (λ (k : Kept). k.store.state.number) c.self.view_is))
      | else-blanks-via-else-blanks w ↦ absurd (true≢false (sym so ∙ w.if-blanks.false))
    ])
    (ap (λ (k : Kept). k.root) c.self-2.view_is ∙ c.remove_listeners.ensures.rest.root ∙ c.blank.ensures.rest.root ∙ ap (λ (k : Kept). k.root) c.self.view_is)
    (ap (λ (k : Kept). k.store.state) c.self-2.view_is ∙ ap (λ (x : Store). x.state) c.remove_listeners.ensures.rest.store ∙ c.in_ok-blank.ensures.state ∙ ap (λ (k : Kept). blanked_state c.is_any_held-blanks.result k.store.state c.in_ok-rows.rows.items) c.self.view_is)
    (ap (λ (k : Kept). k.writes) c.self-2.view_is ∙ c.remove_listeners.ensures.rest.writes ∙ c.blank.ensures.rest.writes ∙ ap (λ (k : Kept). k.writes) c.self.view_is)
    c.in_ok-listeners.ensures
    (subst (λ (t : Table). RemovesAll c.in_ok-listeners.listeners.items t c.self-2.inside.listeners) (c.blank.ensures.rest.listeners ∙ ap (λ (k : Kept). k.listeners) c.self.view_is)
    (subst (λ (k : Kept). RemovesAll c.in_ok-listeners.listeners.items c.blank.new.self.listeners k.listeners) (sym c.self-2.view_is)
    (subst (λ (l : List ℕ). RemovesAll l c.blank.new.self.listeners c.remove_listeners.new.self.listeners) c.as_slice-3.ensures.value c.remove_listeners.ensures.removed)))
    (λ q. c.refuse_all.ensures.keys q ∙ ap (λ (k : Kept). limbo_in k q) c.self-2.view_is
    ∙ (subst (λ (l : List ℕ). ForgetsAll l c.blank.new.self.limbo c.remove_listeners.new.self.limbo) c.as_slice-3.ensures.value c.remove_listeners.ensures.forgotten).keys q
    ∙ ap (λ keys. if list_any (nat_eq q) c.in_ok-listeners.listeners.items then [] else keys) (ap (λ (l : Listens). limbo_at l q) c.blank.ensures.rest.limbo ∙ ap (λ (k : Kept). limbo_in k q) c.self.view_is))
    (c.refuse_all.ensures.limbo ∙ ap (λ (l : Limbo). record l { running = without_all c.args.ids.now l.running })
    (ap (λ (k : Kept). k.limbo.limbo) c.self-2.view_is ∙ c.remove_listeners.ensures.rest.limbo ∙ ap (λ (l : Listens). l.limbo) c.blank.ensures.rest.limbo ∙ ap (λ (k : Kept). k.limbo.limbo) c.self.view_is))
    (subst (λ (w : WatchStream). Hears c.args.response.now c.args.self.now.watch w) (sym c.blank.ensures.rest.watch) (subst (λ (k : Kept). Hears c.args.response.now k.watch c.heard.new.self) c.self.view_is c.in_ok-heard.ensures))
    (subst (λ (w : WatchStream). EndsAll c.args.ids.now w c.ended.new.self) (ap (λ (k : Kept). k.watch) c.self-2.view_is ∙ c.remove_listeners.ensures.rest.watch) c.ended.ensures)
    (c.in_ok-outs.ensures ∙ ap (λ (l : List ℕ). each (λ id. Error id c.args.status.now) l) c.as_slice-2.ensures.value))

pub returns-in_err-blank-clause-meets : goal.returns-in_err-blank-clause-meets
returns-in_err-blank-clause-meets g c = λ is s past stands. by_state (λ (t : State). MakesOne t past (event.Watch c.args.response.now)) stands (λ st.
    makes_end c.args.response.now c.args.ids.now c.args.status.now st c.requires.opening (c.requires.gives (calls_of past) st.watch.calls) c.in_ok-rows.rows.items c.in_ok-listeners.listeners.items c.is_any_held-blanks.result c.in_err-blank.ensures.meets c.requires.none c.in_ok-rows.ensures.rows c.in_ok-listeners.ensures
    (subst (λ (l : List ℕ). IsTrue c.is_any_held-blanks.result ↔ IsAnyHeld c.args.self.now.store.state.rows l) c.as_slice.ensures.value c.is_any_held-blanks.ensures)
    (λ so. elim c.else-blanks.branch [
      | else-blanks-via-then-blanks+else-number-ge-MOST_COMMITS w ↦ omega (arith, w.if-number-ge-MOST_COMMITS.false, (w.number.ensures.number ∙ ap (λ (k : Kept). k.store.state.number) c.self.view_is))
      | else-blanks-via-else-blanks w ↦ absurd (true≢false (sym so ∙ w.if-blanks.false))
    ]))
