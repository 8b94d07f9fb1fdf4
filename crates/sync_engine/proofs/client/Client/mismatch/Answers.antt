use Rattle.std.proofs.Common.{◌≡◌, ◌↔◌, ℕ, ◌<◌, ◌^◌, ℤ, IsTrue, SFits, List, [], ◌∷◌, length, Some, arith, rules, w32, refl, sym, ap, subst, ◌∙◌}
use Rattle.std.proofs.lemmas.Bool.{true≢false}
use Rattle.std.proofs.lemmas.Int.{to_z-of_z}
use Rattle.std.specs.List.{Contains}
use Rattle.client_events.specs.declared.event.Event.TheVariants as event
use Rattle.listeners.specs.Table.{target_of}
use Rattle.local_store.specs.Files.{Moves}
use Rattle.local_store.specs.State.{State}
use Rattle.client_turns.specs.Blanking.{IsBlanking, blanked_state}
use Rattle.client_turns.specs.Hearing.{HaveRows, IsAnyHeld}
use Rattle.sync_engine.specs.Standing.{Kept}
use Rattle.sync_engine.specs.Stream.{Hears, Resets}
use Rattle.sync_engine.specs.Telling.{HandsSettled, MovesBy, MakesOne}
use Rattle.client_turns.specs.Watching.{calls_of}
use Rattle.sync_engine.specs.declared.out.Outcome.TheVariants.{Done, Refused}
use Rattle.client_turns.specs.declared.refusal.Refusal.TheVariants.{IdsSpent}
use Rattle.sync_engine.specs.declared.watch_stream.WatchStream.{WatchStream}
use Rattle.sync_engine.proofs.Emptied.{blanking}
use Rattle.sync_engine.proofs.Following.{by_state, nothing_done}
use Rattle.sync_engine.proofs.Handing.{hands_refused}
use Rattle.sync_engine.proofs.Mismatched.{hands_mismatch, mismatch_spent, moves_mismatch, makes_mismatch}
use Rattle.sync_engine.proofs.client.Client.mismatch.Goals as goal
use Rattle.sync_engine.proofs.client.Client.mismatch.Goals.{else-blanks-via-then-blanks+else-number-ge-MOST_COMMITS, else-blanks-via-else-blanks}

pub blank-requires-clause-fits : goal.blank-requires-clause-fits
blank-requires-clause-fits g c = λ blanks.
    subst (λ (k : Kept). IsBlanking k.store.state c.in_ok-rows.rows.items) (sym c.self.view_is)
    (blanking c.args.self.now.store.state _ c.in_ok-rows.rows.items c.in_ok-rows.ensures.rows
    (subst (IsAnyHeld c.args.self.now.store.state.rows) c.as_slice.ensures.value (c.is_any_held-blanks.ensures.0 blanks))
    (elim c.else-blanks.branch [
      | else-blanks-via-then-blanks+else-number-ge-MOST_COMMITS w ↦ omega (arith, w.if-number-ge-MOST_COMMITS.false, (w.number.ensures.number ∙ ap (λ (k : Kept). k.store.state.number) c.self.view_is))
      | else-blanks-via-else-blanks w ↦ absurd (true≢false (sym blanks ∙ w.if-blanks.false))
    ])
    (subst (λ (l : List ℕ). length l < 2 ^ 64) c.as_slice.ensures.value c.as_slice.type_inv.0)
    c.in_ok-rows.ensures.low)

pub returns-then-number-ge-MOST_COMMITS-clause-turn : goal.returns-then-number-ge-MOST_COMMITS-clause-turn
returns-then-number-ge-MOST_COMMITS-clause-turn g c = λ s past stands.
    let fits : SFits w32 c.args.id.now = search rules in
    by_state (λ (t : State). HandsSettled t past (event.Watch c.args.response.now) (Refused IdsSpent c.new.result) c.args.self.now) stands (λ st.
    hands_refused IdsSpent refl c.requires.idle st
    (mismatch_spent c.args.response.now c.args.id.now c.requires.gives.0 c.requires.gives.1.0 c.in_ok-rows.rows.items st c.requires.opening (c.requires.gives.1.1 (calls_of past) st.watch.calls)
    (subst (λ (z : ℤ). HaveRows c.args.self.now.store.state.rows (z ∷ []) c.in_ok-rows.rows.items) (to_z-of_z w32 c.args.id.now fits) c.in_ok-rows.ensures.rows)
    (subst (IsAnyHeld c.args.self.now.store.state.rows) c.as_slice.ensures.value (c.is_any_held-blanks.ensures.0 c.if-blanks.true))
    (omega (arith, c.if-number-ge-MOST_COMMITS.true, (c.number.ensures.number ∙ ap (λ (k : Kept). k.store.state.number) c.self.view_is))))
    c.new.ensures.items)

pub returns-in_err-rows-clause-files : goal.returns-in_err-rows-clause-files
returns-in_err-rows-clause-files g c = λ told. nothing_done c.requires.whole (c.requires.stored told)

pub returns-then-number-ge-MOST_COMMITS-clause-files : goal.returns-then-number-ge-MOST_COMMITS-clause-files
returns-then-number-ge-MOST_COMMITS-clause-files g c = λ told. nothing_done c.requires.whole (c.requires.stored told)

pub returns-in_err-ids-clause-files : goal.returns-in_err-ids-clause-files
returns-in_err-ids-clause-files g c = λ told. nothing_done c.requires.whole (c.requires.stored told)

pub returns-in_err-heard-clause-files : goal.returns-in_err-heard-clause-files
returns-in_err-heard-clause-files g c = λ told. nothing_done c.requires.whole (c.requires.stored told)

pub returns-in_err-blank-clause-files : goal.returns-in_err-blank-clause-files
returns-in_err-blank-clause-files g c = λ told s past stands.
    let fits : SFits w32 c.args.id.now = search rules in
    by_state (λ (t : State). MovesBy t past (event.Watch c.args.response.now) (g.H.Host.view c.args.host.now) (g.H.Host.view c.blank.new.host)) stands (λ st.
    moves_mismatch c.args.response.now c.args.id.now c.requires.gives.0 c.requires.gives.1.0 c.in_ok-rows.rows.items st c.requires.opening (c.requires.gives.1.1 (calls_of past) st.watch.calls)
    (subst (λ (z : ℤ). HaveRows c.args.self.now.store.state.rows (z ∷ []) c.in_ok-rows.rows.items) (to_z-of_z w32 c.args.id.now fits) c.in_ok-rows.ensures.rows)
    c.is_any_held-blanks.result
    (subst (λ (l : List ℕ). IsTrue c.is_any_held-blanks.result ↔ IsAnyHeld c.args.self.now.store.state.rows l) c.as_slice.ensures.value c.is_any_held-blanks.ensures)
    (λ so. elim c.else-blanks.branch [
      | else-blanks-via-then-blanks+else-number-ge-MOST_COMMITS w ↦ omega (arith, w.if-number-ge-MOST_COMMITS.false, (w.number.ensures.number ∙ ap (λ (k : Kept). k.store.state.number) c.self.view_is))
      | else-blanks-via-else-blanks w ↦ absurd (true≢false (sym so ∙ w.if-blanks.false))
    ])
    (subst (λ (k : Kept). Moves k.store.state (blanked_state c.is_any_held-blanks.result k.store.state c.in_ok-rows.rows.items) (g.H.Host.view c.args.host.now) (g.H.Host.view c.blank.new.host)) c.self.view_is (c.blank.ensures.files told)))

pub returns-in_err-reset-clause-files : goal.returns-in_err-reset-clause-files
returns-in_err-reset-clause-files g c = λ told s past stands.
    let fits : SFits w32 c.args.id.now = search rules in
    by_state (λ (t : State). MovesBy t past (event.Watch c.args.response.now) (g.H.Host.view c.args.host.now) (g.H.Host.view c.blank.new.host)) stands (λ st.
    moves_mismatch c.args.response.now c.args.id.now c.requires.gives.0 c.requires.gives.1.0 c.in_ok-rows.rows.items st c.requires.opening (c.requires.gives.1.1 (calls_of past) st.watch.calls)
    (subst (λ (z : ℤ). HaveRows c.args.self.now.store.state.rows (z ∷ []) c.in_ok-rows.rows.items) (to_z-of_z w32 c.args.id.now fits) c.in_ok-rows.ensures.rows)
    c.is_any_held-blanks.result
    (subst (λ (l : List ℕ). IsTrue c.is_any_held-blanks.result ↔ IsAnyHeld c.args.self.now.store.state.rows l) c.as_slice.ensures.value c.is_any_held-blanks.ensures)
    (λ so. elim c.else-blanks.branch [
      | else-blanks-via-then-blanks+else-number-ge-MOST_COMMITS w ↦ omega (arith, w.if-number-ge-MOST_COMMITS.false, (w.number.ensures.number ∙ ap (λ (k : Kept). k.store.state.number) c.self.view_is))
      | else-blanks-via-else-blanks w ↦ absurd (true≢false (sym so ∙ w.if-blanks.false))
    ])
    (subst (λ (k : Kept). Moves k.store.state (blanked_state c.is_any_held-blanks.result k.store.state c.in_ok-rows.rows.items) (g.H.Host.view c.args.host.now) (g.H.Host.view c.blank.new.host)) c.self.view_is (c.blank.ensures.files told)))

pub returns-in_err-settle-clause-files : goal.returns-in_err-settle-clause-files
returns-in_err-settle-clause-files g c = λ told s past stands.
    let fits : SFits w32 c.args.id.now = search rules in
    by_state (λ (t : State). MovesBy t past (event.Watch c.args.response.now) (g.H.Host.view c.args.host.now) (g.H.Host.view c.blank.new.host)) stands (λ st.
    moves_mismatch c.args.response.now c.args.id.now c.requires.gives.0 c.requires.gives.1.0 c.in_ok-rows.rows.items st c.requires.opening (c.requires.gives.1.1 (calls_of past) st.watch.calls)
    (subst (λ (z : ℤ). HaveRows c.args.self.now.store.state.rows (z ∷ []) c.in_ok-rows.rows.items) (to_z-of_z w32 c.args.id.now fits) c.in_ok-rows.ensures.rows)
    c.is_any_held-blanks.result
    (subst (λ (l : List ℕ). IsTrue c.is_any_held-blanks.result ↔ IsAnyHeld c.args.self.now.store.state.rows l) c.as_slice.ensures.value c.is_any_held-blanks.ensures)
    (λ so. elim c.else-blanks.branch [
      | else-blanks-via-then-blanks+else-number-ge-MOST_COMMITS w ↦ omega (arith, w.if-number-ge-MOST_COMMITS.false, (w.number.ensures.number ∙ ap (λ (k : Kept). k.store.state.number) c.self.view_is))
      | else-blanks-via-else-blanks w ↦ absurd (true≢false (sym so ∙ w.if-blanks.false))
    ])
    (subst (λ (k : Kept). Moves k.store.state (blanked_state c.is_any_held-blanks.result k.store.state c.in_ok-rows.rows.items) (g.H.Host.view c.args.host.now) (g.H.Host.view c.blank.new.host)) c.self.view_is (c.blank.ensures.files told)))

pub returns-clause-files : goal.returns-clause-files
returns-clause-files g c = λ told s past stands.
    let fits : SFits w32 c.args.id.now = search rules in
    by_state (λ (t : State). MovesBy t past (event.Watch c.args.response.now) (g.H.Host.view c.args.host.now) (g.H.Host.view c.blank.new.host)) stands (λ st.
    moves_mismatch c.args.response.now c.args.id.now c.requires.gives.0 c.requires.gives.1.0 c.in_ok-rows.rows.items st c.requires.opening (c.requires.gives.1.1 (calls_of past) st.watch.calls)
    (subst (λ (z : ℤ). HaveRows c.args.self.now.store.state.rows (z ∷ []) c.in_ok-rows.rows.items) (to_z-of_z w32 c.args.id.now fits) c.in_ok-rows.ensures.rows)
    c.is_any_held-blanks.result
    (subst (λ (l : List ℕ). IsTrue c.is_any_held-blanks.result ↔ IsAnyHeld c.args.self.now.store.state.rows l) c.as_slice.ensures.value c.is_any_held-blanks.ensures)
    (λ so. elim c.else-blanks.branch [
      | else-blanks-via-then-blanks+else-number-ge-MOST_COMMITS w ↦ omega (arith, w.if-number-ge-MOST_COMMITS.false, (w.number.ensures.number ∙ ap (λ (k : Kept). k.store.state.number) c.self.view_is))
      | else-blanks-via-else-blanks w ↦ absurd (true≢false (sym so ∙ w.if-blanks.false))
    ])
    (subst (λ (k : Kept). Moves k.store.state (blanked_state c.is_any_held-blanks.result k.store.state c.in_ok-rows.rows.items) (g.H.Host.view c.args.host.now) (g.H.Host.view c.blank.new.host)) c.self.view_is (c.blank.ensures.files told)))

pub returns-clause-turn : goal.returns-clause-turn
returns-clause-turn g c = λ s past stands.
    let fits : SFits w32 c.args.id.now = search rules in
    by_state (λ (t : State). HandsSettled t past (event.Watch c.args.response.now) (Done c.settle.new.outs) c.settle.new.self) stands (λ st.
    hands_mismatch _ c.args.response.now c.args.id.now c.requires.gives.0 c.requires.gives.1.0 c.in_ok-rows.rows.items c.in_ok-ids.ids.items c.is_any_held-blanks.result c.blank.new.self.watch st c.requires.opening c.requires.idle c.requires.spelled (c.requires.gives.1.1 (calls_of past) st.watch.calls)
    (subst (λ (z : ℤ). HaveRows c.args.self.now.store.state.rows (z ∷ []) c.in_ok-rows.rows.items) (to_z-of_z w32 c.args.id.now fits) c.in_ok-rows.ensures.rows)
    (subst (λ (l : List ℕ). IsTrue c.is_any_held-blanks.result ↔ IsAnyHeld c.args.self.now.store.state.rows l) c.as_slice.ensures.value c.is_any_held-blanks.ensures)
    (λ so. elim c.else-blanks.branch [
      | else-blanks-via-then-blanks+else-number-ge-MOST_COMMITS w ↦ omega (arith, w.if-number-ge-MOST_COMMITS.false, (w.number.ensures.number ∙ ap (λ (k : Kept). k.store.state.number) c.self.view_is))
      | else-blanks-via-else-blanks w ↦ absurd (true≢false (sym so ∙ w.if-blanks.false))
    ])
    (ap (λ (k : Kept). k.root) c.self-2.view_is ∙ c.blank.ensures.rest.root ∙ ap (λ (k : Kept). k.root) c.self.view_is)
    (ap (λ (k : Kept). k.store.state) c.self-2.view_is ∙ c.in_ok-blank.ensures.state ∙ ap (λ (k : Kept). blanked_state c.is_any_held-blanks.result k.store.state c.in_ok-rows.rows.items) c.self.view_is)
    (ap (λ (k : Kept). k.listeners) c.self-2.view_is ∙ c.blank.ensures.rest.listeners ∙ ap (λ (k : Kept). k.listeners) c.self.view_is)
    (ap (λ (k : Kept). k.limbo) c.self-2.view_is ∙ c.blank.ensures.rest.limbo ∙ ap (λ (k : Kept). k.limbo) c.self.view_is)
    (ap (λ (k : Kept). k.writes) c.self-2.view_is ∙ c.blank.ensures.rest.writes ∙ ap (λ (k : Kept). k.writes) c.self.view_is)
    (subst (λ (w : WatchStream). Hears c.args.response.now c.args.self.now.watch w) (sym c.blank.ensures.rest.watch) (subst (λ (k : Kept). Hears c.args.response.now k.watch c.heard.new.self) c.self.view_is c.in_ok-heard.ensures))
    (subst (λ (k : Kept). Resets c.args.id.now k.watch c.reset.new.self) c.self-2.view_is c.in_ok-reset.ensures)
    (subst (λ (k : Kept). (q : ℕ) → Contains c.in_ok-ids.ids.items q ↔ (target_of k.listeners q ≡ Some c.args.id.now)) c.self.view_is
    (subst (λ (z : ℤ). (q : ℕ) → Contains c.in_ok-ids.ids.items q ↔ (target_of c.self.inside.listeners q ≡ Some z)) (to_z-of_z w32 c.args.id.now fits) c.in_ok-ids.ensures.members))
    c.settle.ensures.rest
    c.as_slice-2.ensures.value c.in_ok-settle.ensures.raises
    c.new-outs.ensures.items)

pub returns-in_err-blank-clause-meets : goal.returns-in_err-blank-clause-meets
returns-in_err-blank-clause-meets g c = λ is s past stands.
    let fits : SFits w32 c.args.id.now = search rules in
    by_state (λ (t : State). MakesOne t past (event.Watch c.args.response.now)) stands (λ st.
    makes_mismatch c.args.response.now c.args.id.now c.requires.gives.0 c.requires.gives.1.0 c.in_ok-rows.rows.items st c.requires.opening (c.requires.gives.1.1 (calls_of past) st.watch.calls)
    (subst (λ (z : ℤ). HaveRows c.args.self.now.store.state.rows (z ∷ []) c.in_ok-rows.rows.items) (to_z-of_z w32 c.args.id.now fits) c.in_ok-rows.ensures.rows)
    c.is_any_held-blanks.result c.in_err-blank.ensures.meets
    (subst (λ (l : List ℕ). IsTrue c.is_any_held-blanks.result ↔ IsAnyHeld c.args.self.now.store.state.rows l) c.as_slice.ensures.value c.is_any_held-blanks.ensures)
    (λ so. elim c.else-blanks.branch [
      | else-blanks-via-then-blanks+else-number-ge-MOST_COMMITS w ↦ omega (arith, w.if-number-ge-MOST_COMMITS.false, (w.number.ensures.number ∙ ap (λ (k : Kept). k.store.state.number) c.self.view_is))
      | else-blanks-via-else-blanks w ↦ absurd (true≢false (sym so ∙ w.if-blanks.false))
    ]))
