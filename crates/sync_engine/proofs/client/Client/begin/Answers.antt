use Rattle.std.proofs.Common.{◌≡◌, SFits, ℤ, to_z, of_z, w32, List, [], ◌∷◌, ◌++◌, Some, rules, ap, subst, ◌∙◌}
use Rattle.std.proofs.lemmas.Int.{to_z-of_z}
use Rattle.listeners.specs.Table.{Changes, ChangesTarget, Table, fresh}
use Rattle.sync_engine.specs.Standing.{Kept}
use Rattle.sync_engine.specs.declared.out.Out.{Out}
use Rattle.sync_engine.specs.declared.out.Out.TheVariants.{Listening}
use Rattle.sync_engine.specs.declared.watch_stream.Due.TheVariants.{One}
use Rattle.sync_engine.specs.declared.watch_stream.WatchStream.{WatchStream}
use Rattle.sync_engine.proofs.Turning.{has_begun}
use Rattle.sync_engine.proofs.client.Client.begin.Goals as goal

pub returns-clause-begun : goal.returns-clause-begun
returns-clause-begun c =
    let fits : SFits w32 c.args.target = search rules in
    let same : to_z w32 (of_z w32 c.args.target) ≡ c.args.target = to_z-of_z w32 c.args.target fits in
    let listeners = ap (λ (k : Kept). k.listeners) c.self.view_is in
    has_begun (ap (λ (k : Kept). k.root) c.self.view_is) (ap (λ (k : Kept). k.store) c.self.view_is) (ap (λ (k : Kept). k.limbo) c.self.view_is) (ap (λ (k : Kept). k.writes) c.self.view_is)
    (c.listened.ensures ∙ ap (λ (z : ℤ). record c.self.inside.watch { due = One z }) same
    ∙ ap (λ (w : WatchStream). record w { due = One c.args.target }) (ap (λ (k : Kept). k.watch) c.self.view_is))
    (subst (λ (l : Table). Changes c.args.id (Some (fresh c.args.query)) l c.add.new.self) listeners c.in_ok-add.ensures.done)
    (subst (λ (z : ℤ). ChangesTarget c.args.id (Some z) c.args.self.now.listeners c.add.new.self) same
    (subst (λ (l : Table). ChangesTarget c.args.id (Some (to_z w32 (of_z w32 c.args.target))) l c.add.new.self) listeners c.in_ok-add.ensures.target))
    c.settle.ensures.rest c.in_ok-settle.ensures.raises
    (c.in_ok-push.ensures.items ∙ ap (λ (o : List Out). o ++ Listening c.args.id (to_z w32 (of_z w32 c.args.target)) c.number-commit.result ∷ []) c.new-outs.ensures.items
    ∙ ap (λ (z : ℤ). Listening c.args.id z c.number-commit.result ∷ []) same
    ∙ ap (λ n. Listening c.args.id c.args.target n ∷ []) c.number-commit.ensures.number)
