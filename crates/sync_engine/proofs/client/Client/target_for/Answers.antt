use Rattle.std.proofs.Common.{◌≤◌, List, length, sym, ap, subst, ◌∙◌, arith}
use Rattle.local_store.specs.Files.{Moves}
use Rattle.local_store.specs.State.{Fits, committed}
use Rattle.record_codec.specs.declared.commit.Commit.TheVariants.{Allocate}
use Rattle.queries.specs.declared.target.Target.{Target}
use Rattle.target_cache.specs.Cache.{id_at}
use Rattle.target_cache.specs.declared.row.Row.{Row}
use Rattle.sync_engine.specs.Standing.{Kept}
use Rattle.sync_engine.proofs.Committed.{nothing_moves, on_err}
use Rattle.sync_engine.proofs.Showing.{id_back, pos_back}
use Rattle.sync_engine.proofs.Targets.{allocation_fits, gives_found, gives_new, gives_no_id, gives_no_number, moves_found, moves_new, moves_no_id, moves_no_number, makes_new}
use Rattle.sync_engine.proofs.client.Client.target_for.Goals as goal

pub returns-in-Some-clause-found : goal.returns-in-Some-clause-found
returns-in-Some-clause-found g c = gives_found c.args.self.now.store.state c.args.target.now c.targets-2.result.now.rows (c.targets-2.ensures ∙ ap (λ (k : Kept). k.store.state.rows) c.self.view_is) c.in-Some.found _ (id_back _ _ _ (subst (λ (l : List Row). id_at (length l) ≤ 2147483648) (c.targets.ensures ∙ sym c.targets-2.ensures) c.next_id-id.ensures.most) c.in-Some.ensures) c.in-Some.ensures

pub returns-in-Some-clause-files : goal.returns-in-Some-clause-files
returns-in-Some-clause-files g c = λ told. moves_found c.args.self.now.store.state c.args.target.now c.targets-2.result.now.rows (c.targets-2.ensures ∙ ap (λ (k : Kept). k.store.state.rows) c.self.view_is) c.in-Some.found c.in-Some.ensures (nothing_moves _ c.requires.whole (c.requires.stored told))

pub returns-then-number-ge-MOST_COMMITS-clause-found : goal.returns-then-number-ge-MOST_COMMITS-clause-found
returns-then-number-ge-MOST_COMMITS-clause-found g c = gives_no_number c.args.self.now.store.state c.args.target.now c.targets-2.result.now.rows (c.targets-2.ensures ∙ ap (λ (k : Kept). k.store.state.rows) c.self.view_is) c.in_default.ensures (omega (arith, c.if-number-ge-MOST_COMMITS.true, (c.number-number.ensures.number ∙ ap (λ (k : Kept). k.store.state.number) c.self.view_is)))

pub returns-then-number-ge-MOST_COMMITS-clause-files : goal.returns-then-number-ge-MOST_COMMITS-clause-files
returns-then-number-ge-MOST_COMMITS-clause-files g c = λ told. moves_no_number c.args.self.now.store.state c.args.target.now c.targets-2.result.now.rows (c.targets-2.ensures ∙ ap (λ (k : Kept). k.store.state.rows) c.self.view_is) c.in_default.ensures (omega (arith, c.if-number-ge-MOST_COMMITS.true, (c.number-number.ensures.number ∙ ap (λ (k : Kept). k.store.state.number) c.self.view_is))) (nothing_moves _ c.requires.whole (c.requires.stored told))

pub returns-then-id-gt-LAST_TARGET-clause-found : goal.returns-then-id-gt-LAST_TARGET-clause-found
returns-then-id-gt-LAST_TARGET-clause-found g c = gives_no_id c.args.self.now.store.state c.args.target.now c.targets-2.result.now.rows (c.targets-2.ensures ∙ ap (λ (k : Kept). k.store.state.rows) c.self.view_is) c.next_id-id.result (c.next_id-id.ensures.id ∙ ap (λ (l : List Row). id_at (length l)) (c.targets.ensures ∙ sym c.targets-2.ensures)) c.in_default.ensures (omega (arith, c.if-id-gt-LAST_TARGET.true))

pub returns-then-id-gt-LAST_TARGET-clause-files : goal.returns-then-id-gt-LAST_TARGET-clause-files
returns-then-id-gt-LAST_TARGET-clause-files g c = λ told. moves_no_id c.args.self.now.store.state c.args.target.now c.targets-2.result.now.rows (c.targets-2.ensures ∙ ap (λ (k : Kept). k.store.state.rows) c.self.view_is) c.next_id-id.result (c.next_id-id.ensures.id ∙ ap (λ (l : List Row). id_at (length l)) (c.targets.ensures ∙ sym c.targets-2.ensures)) c.in_default.ensures (omega (arith, c.if-id-gt-LAST_TARGET.true)) (nothing_moves _ c.requires.whole (c.requires.stored told))

pub returns-in_err-target-clause-files : goal.returns-in_err-target-clause-files
returns-in_err-target-clause-files g c = λ told. moves_new c.args.self.now.store.state c.args.target.now c.targets-2.result.now.rows (c.targets-2.ensures ∙ ap (λ (k : Kept). k.store.state.rows) c.self.view_is) c.next_id-id.result (c.next_id-id.ensures.id ∙ ap (λ (l : List Row). id_at (length l)) (c.targets.ensures ∙ sym c.targets-2.ensures)) c.in_default.ensures (omega (arith, c.if-number-ge-MOST_COMMITS.false, (c.number-number.ensures.number ∙ ap (λ (k : Kept). k.store.state.number) c.self.view_is))) (omega (arith, c.if-id-gt-LAST_TARGET.false)) (nothing_moves _ c.requires.whole (c.requires.stored told))

pub commit-requires-clause-fits : goal.commit-requires-clause-fits
commit-requires-clause-fits g c = subst (λ (t : Target). Fits c.args.self.now.store.state (Allocate c.next_id-id.result t)) (sym c.in_ok-target.ensures) (allocation_fits c.args.self.now.store.state c.args.target.now c.targets-2.result.now.rows (c.targets-2.ensures ∙ ap (λ (k : Kept). k.store.state.rows) c.self.view_is) c.next_id-id.result (c.next_id-id.ensures.id ∙ ap (λ (l : List Row). id_at (length l)) (c.targets.ensures ∙ sym c.targets-2.ensures)) c.in_default.ensures (omega (arith, c.if-number-ge-MOST_COMMITS.false, (c.number-number.ensures.number ∙ ap (λ (k : Kept). k.store.state.number) c.self.view_is))) (omega (arith, c.if-id-gt-LAST_TARGET.false)))

pub returns-in_err-commit-clause-files : goal.returns-in_err-commit-clause-files
returns-in_err-commit-clause-files g c = λ told. moves_new c.args.self.now.store.state c.args.target.now c.targets-2.result.now.rows (c.targets-2.ensures ∙ ap (λ (k : Kept). k.store.state.rows) c.self.view_is) c.next_id-id.result (c.next_id-id.ensures.id ∙ ap (λ (l : List Row). id_at (length l)) (c.targets.ensures ∙ sym c.targets-2.ensures)) c.in_default.ensures (omega (arith, c.if-number-ge-MOST_COMMITS.false, (c.number-number.ensures.number ∙ ap (λ (k : Kept). k.store.state.number) c.self.view_is))) (omega (arith, c.if-id-gt-LAST_TARGET.false)) (subst (λ (t : Target). Moves c.args.self.now.store.state (committed c.args.self.now.store.state (Allocate c.next_id-id.result t)) (g.H.Host.view c.args.host.now) (g.H.Host.view c.commit.new.host)) c.in_ok-target.ensures (c.commit.ensures.files told))

pub returns-clause-files : goal.returns-clause-files
returns-clause-files g c = λ told. moves_new c.args.self.now.store.state c.args.target.now c.targets-2.result.now.rows (c.targets-2.ensures ∙ ap (λ (k : Kept). k.store.state.rows) c.self.view_is) c.next_id-id.result (c.next_id-id.ensures.id ∙ ap (λ (l : List Row). id_at (length l)) (c.targets.ensures ∙ sym c.targets-2.ensures)) c.in_default.ensures (omega (arith, c.if-number-ge-MOST_COMMITS.false, (c.number-number.ensures.number ∙ ap (λ (k : Kept). k.store.state.number) c.self.view_is))) (omega (arith, c.if-id-gt-LAST_TARGET.false)) (subst (λ (t : Target). Moves c.args.self.now.store.state (committed c.args.self.now.store.state (Allocate c.next_id-id.result t)) (g.H.Host.view c.args.host.now) (g.H.Host.view c.commit.new.host)) c.in_ok-target.ensures (c.commit.ensures.files told))

pub returns-clause-found : goal.returns-clause-found
returns-clause-found g c = gives_new c.args.self.now.store.state c.args.target.now c.targets-2.result.now.rows (c.targets-2.ensures ∙ ap (λ (k : Kept). k.store.state.rows) c.self.view_is) c.next_id-id.result (c.next_id-id.ensures.id ∙ ap (λ (l : List Row). id_at (length l)) (c.targets.ensures ∙ sym c.targets-2.ensures)) c.in_default.ensures (omega (arith, c.if-number-ge-MOST_COMMITS.false, (c.number-number.ensures.number ∙ ap (λ (k : Kept). k.store.state.number) c.self.view_is))) (omega (arith, c.if-id-gt-LAST_TARGET.false)) _ (pos_back c.next_id-id.result (omega (arith, c.if-id-gt-LAST_TARGET.false))) (c.in_ok-commit.ensures.state ∙ ap (λ (t : Target). committed c.args.self.now.store.state (Allocate c.next_id-id.result t)) c.in_ok-target.ensures)

pub returns-in_err-target-clause-meets : goal.returns-in_err-target-clause-meets
returns-in_err-target-clause-meets g c = on_err c.from_residual.result (makes_new c.args.self.now.store.state c.args.target.now c.targets-2.result.now.rows (c.targets-2.ensures ∙ ap (λ (k : Kept). k.store.state.rows) c.self.view_is) c.next_id-id.result (c.next_id-id.ensures.id ∙ ap (λ (l : List Row). id_at (length l)) (c.targets.ensures ∙ sym c.targets-2.ensures)) c.in_default.ensures (omega (arith, c.if-number-ge-MOST_COMMITS.false, (c.number-number.ensures.number ∙ ap (λ (k : Kept). k.store.state.number) c.self.view_is))) (omega (arith, c.if-id-gt-LAST_TARGET.false)))

pub returns-in_err-commit-clause-meets : goal.returns-in_err-commit-clause-meets
returns-in_err-commit-clause-meets g c = on_err c.from_residual-in_err-commit.result (makes_new c.args.self.now.store.state c.args.target.now c.targets-2.result.now.rows (c.targets-2.ensures ∙ ap (λ (k : Kept). k.store.state.rows) c.self.view_is) c.next_id-id.result (c.next_id-id.ensures.id ∙ ap (λ (l : List Row). id_at (length l)) (c.targets.ensures ∙ sym c.targets-2.ensures)) c.in_default.ensures (omega (arith, c.if-number-ge-MOST_COMMITS.false, (c.number-number.ensures.number ∙ ap (λ (k : Kept). k.store.state.number) c.self.view_is))) (omega (arith, c.if-id-gt-LAST_TARGET.false)))
