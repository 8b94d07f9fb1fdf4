use Rattle.std.proofs.Common.{ℤ, ◌≤◌, length, List, Some, refl, sym, ap, subst, ◌∙◌}
use Rattle.client_events.specs.declared.event.Event.TheVariants as event
use Rattle.listeners.specs.Table.{Changes, ChangesTarget, Table, fresh, viewed}
use Rattle.local_store.specs.State.{State}
use Rattle.local_store.specs.Store.{Store}
use Rattle.queries.specs.declared.target.Target.{Target}
use Rattle.client_turns.specs.Turns.{refused}
use Rattle.sync_engine.specs.Standing.{Kept}
use Rattle.sync_engine.specs.Targets.{GivesTarget, HasBegun, MovesForTarget, MakesRow}
use Rattle.sync_engine.specs.Telling.{HandsSettled, MovesBy, MakesOne}
use Rattle.sync_engine.specs.declared.out.Outcome.TheVariants.{Done, Refused}
use Rattle.client_turns.specs.declared.refusal.Refusal.TheVariants.{IdsSpent, ListenerTaken}
use Rattle.sync_engine.proofs.Committed.{nothing_moves}
use Rattle.sync_engine.proofs.Handing.{hands_refused, none_viewed, some_viewed}
use Rattle.target_cache.specs.Cache.{id_at}
use Rattle.target_cache.specs.declared.row.Row.{Row}
use Rattle.sync_engine.proofs.Showing.{given_back}
use Rattle.sync_engine.proofs.Following.{by_state}
use Rattle.sync_engine.proofs.Turning.{hands_begun, moves_begun, moves_none, spent_answers, spent_stands, taken_answers, makes_begun}
use Rattle.sync_engine.specs.declared.watch_stream.Due.TheVariants.{One}
use Rattle.sync_engine.specs.declared.watch_stream.WatchStream.{WatchStream}
use Rattle.sync_engine.proofs.client.Client.listen.Goals as goal

pub returns-then-not-is_none-clause-turn : goal.returns-then-not-is_none-clause-turn
returns-then-not-is_none-clause-turn g c = λ s past stands. let found = some_viewed _ c.view.result _ c.is_none.result c.view.ensures c.is_none.ensures c.if-not-is_none.true in by_state (λ (t : State). HandsSettled t past (event.Listen c.args.id c.args.query) (Refused (ListenerTaken c.args.id) c.new.result) c.args.self.now) stands (λ st. hands_refused (ListenerTaken c.args.id) refl c.requires.idle st (taken_answers c.args.id c.args.query found.0 st (sym (ap (λ (k : Kept). viewed k.listeners c.args.id) c.self.view_is) ∙ found.1)) c.new.ensures.items)

pub returns-then-not-is_none-clause-files : goal.returns-then-not-is_none-clause-files
returns-then-not-is_none-clause-files g c = λ told s past stands. let found = some_viewed _ c.view.result _ c.is_none.result c.view.ensures c.is_none.ensures c.if-not-is_none.true in by_state (λ (t : State). MovesBy t past (event.Listen c.args.id c.args.query) (g.H.Host.view c.args.host.now) (g.H.Host.view c.args.host.now)) stands (λ st. moves_none (event.Listen c.args.id c.args.query) (refused (ListenerTaken c.args.id)) (taken_answers c.args.id c.args.query found.0 st (sym (ap (λ (k : Kept). viewed k.listeners c.args.id) c.self.view_is) ∙ found.1)) refl (nothing_moves _ c.requires.whole (c.requires.stored told)))

pub returns-in_err-target-clause-files : goal.returns-in_err-target-clause-files
returns-in_err-target-clause-files g c = λ told s past stands. by_state (λ (t : State). MovesBy t past (event.Listen c.args.id c.args.query) (g.H.Host.view c.args.host.now) (g.H.Host.view c.target_for.new.host)) stands (λ st. moves_begun c.args.id c.args.query st (sym (ap (λ (k : Kept). viewed k.listeners c.args.id) c.self.view_is) ∙ none_viewed _ c.view.result _ c.is_none.result c.view.ensures c.is_none.ensures c.if-not-is_none.false) (subst (λ (q : Target). MovesForTarget c.args.self.now.store.state q (g.H.Host.view c.args.host.now) (g.H.Host.view c.target_for.new.host)) c.as_target.ensures.same (c.target_for.ensures.files told)))

pub returns-in_default-clause-files : goal.returns-in_default-clause-files
returns-in_default-clause-files g c = λ told s past stands. by_state (λ (t : State). MovesBy t past (event.Listen c.args.id c.args.query) (g.H.Host.view c.args.host.now) (g.H.Host.view c.target_for.new.host)) stands (λ st. moves_begun c.args.id c.args.query st (sym (ap (λ (k : Kept). viewed k.listeners c.args.id) c.self.view_is) ∙ none_viewed _ c.view.result _ c.is_none.result c.view.ensures c.is_none.ensures c.if-not-is_none.false) (subst (λ (q : Target). MovesForTarget c.args.self.now.store.state q (g.H.Host.view c.args.host.now) (g.H.Host.view c.target_for.new.host)) c.as_target.ensures.same (c.target_for.ensures.files told)))

pub returns-in_err-outs-clause-files : goal.returns-in_err-outs-clause-files
returns-in_err-outs-clause-files g c = λ told s past stands. by_state (λ (t : State). MovesBy t past (event.Listen c.args.id c.args.query) (g.H.Host.view c.args.host.now) (g.H.Host.view c.target_for.new.host)) stands (λ st. moves_begun c.args.id c.args.query st (sym (ap (λ (k : Kept). viewed k.listeners c.args.id) c.self.view_is) ∙ none_viewed _ c.view.result _ c.is_none.result c.view.ensures c.is_none.ensures c.if-not-is_none.false) (subst (λ (q : Target). MovesForTarget c.args.self.now.store.state q (g.H.Host.view c.args.host.now) (g.H.Host.view c.target_for.new.host)) c.as_target.ensures.same (c.target_for.ensures.files told)))

pub returns-clause-files : goal.returns-clause-files
returns-clause-files g c = λ told s past stands. by_state (λ (t : State). MovesBy t past (event.Listen c.args.id c.args.query) (g.H.Host.view c.args.host.now) (g.H.Host.view c.target_for.new.host)) stands (λ st. moves_begun c.args.id c.args.query st (sym (ap (λ (k : Kept). viewed k.listeners c.args.id) c.self.view_is) ∙ none_viewed _ c.view.result _ c.is_none.result c.view.ensures c.is_none.ensures c.if-not-is_none.false) (subst (λ (q : Target). MovesForTarget c.args.self.now.store.state q (g.H.Host.view c.args.host.now) (g.H.Host.view c.target_for.new.host)) c.as_target.ensures.same (c.target_for.ensures.files told)))

pub returns-in_default-clause-turn : goal.returns-in_default-clause-turn
returns-in_default-clause-turn g c = λ s past stands. by_state (λ (t : State). HandsSettled t past (event.Listen c.args.id c.args.query) (Refused IdsSpent c.new-in_default.result) c.target_for.new.self) stands (λ st. hands_refused IdsSpent refl (ap (λ (w : WatchStream). w.due) c.target_for.ensures.rest.watch ∙ c.requires.idle) (spent_stands c.args.query c.in_ok-target.field-0 st (subst (λ (q : Target). GivesTarget c.args.self.now.store.state q c.in_ok-target.field-0 c.target_for.new.self.store.state) c.as_target.ensures.same c.in_ok-target.ensures.found) c.in_default.is c.target_for.ensures.rest) (spent_answers c.args.id c.args.query c.in_ok-target.field-0 st (sym (ap (λ (k : Kept). viewed k.listeners c.args.id) c.self.view_is) ∙ none_viewed _ c.view.result _ c.is_none.result c.view.ensures c.is_none.ensures c.if-not-is_none.false) (subst (λ (q : Target). GivesTarget c.args.self.now.store.state q c.in_ok-target.field-0 c.target_for.new.self.store.state) c.as_target.ensures.same c.in_ok-target.ensures.found) c.in_default.is) c.new-in_default.ensures.items)

pub returns-clause-turn : goal.returns-clause-turn
returns-clause-turn g c = λ s past stands.
    let old = c.args.self.now in
    let id = c.args.id in
    let query = c.args.query in
    let rest = c.target_for.ensures.rest in
    let given = subst (λ (q : Target). GivesTarget old.store.state q c.in_ok-target.field-0 c.target_for.new.self.store.state) c.as_target.ensures.same c.in_ok-target.ensures.found in
    let few = subst (λ (l : List Row). id_at (length l) ≤ 2147483648) (c.targets.ensures ∙ ap (λ (k : Kept). k.store.state.rows) c.self.view_is) c.next_id-last.ensures.most in
    let begun = subst (λ (z : ℤ). HasBegun id query z c.target_for.new.self c.begin.new.self c.in_ok-outs.outs.items) (given_back old.store.state query c.in_ok-target.field-0 c.in-Some.target few given c.in-Some.is) c.in_ok-outs.ensures.begun in
    by_state (λ (t : State). HandsSettled t past (event.Listen id query) (Done c.in_ok-outs.outs) c.begin.new.self) stands (λ st.
    hands_begun old begun.mid c.begin.new.self past id query c.in_ok-target.field-0 c.in-Some.target st
    (sym (ap (λ (k : Kept). viewed k.listeners id) c.self.view_is) ∙ none_viewed _ c.view.result _ c.is_none.result c.view.ensures c.is_none.ensures c.if-not-is_none.false) c.requires.idle
    (subst (λ (x : Store). GivesTarget old.store.state query c.in_ok-target.field-0 x.state) (sym begun.store) given) c.in-Some.is
    (begun.root ∙ rest.root) (begun.limbo ∙ rest.limbo) (begun.writes ∙ rest.writes)
    (begun.watch ∙ ap (λ (w : WatchStream). record w { due = One c.in-Some.target }) rest.watch)
    (subst (λ (l : Table). Changes id (Some (fresh query)) l begun.mid.listeners) rest.listeners begun.listeners)
    (subst (λ (l : Table). ChangesTarget id (Some c.in-Some.target) l begun.mid.listeners) rest.listeners begun.targets)
    begun.rest begun.raises refl)

pub returns-in_err-target-clause-meets : goal.returns-in_err-target-clause-meets
returns-in_err-target-clause-meets g c = λ is s past stands. by_state (λ (t : State). MakesOne t past (event.Listen c.args.id c.args.query)) stands (λ st.
    makes_begun c.args.id c.args.query st (sym (ap (λ (k : Kept). viewed k.listeners c.args.id) c.self.view_is) ∙ none_viewed _ c.view.result _ c.is_none.result c.view.ensures c.is_none.ensures c.if-not-is_none.false)
    (subst (λ (q : Target). MakesRow c.args.self.now.store.state q) c.as_target.ensures.same c.in_err-target.ensures.meets))
