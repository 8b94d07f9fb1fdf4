use Rattle.std.proofs.Common.{ℕ, ℤ, ◌↔◌, IsTrue, SFits, rules, w32, List, [], ◌∷◌, ◌++◌, refl, sym, ap, subst, ◌∙◌}
use Rattle.std.proofs.lemmas.Int.{to_z-of_z}
use Rattle.listeners.specs.Table.{IsWanted}
use Rattle.sync_engine.specs.Standing.{Kept, StandsFor}
use Rattle.sync_engine.specs.Stream.{Ends}
use Rattle.sync_engine.specs.declared.out.Out.{Out}
use Rattle.sync_engine.specs.declared.out.Out.TheVariants.{Unlistened}
use Rattle.client_turns.specs.declared.refusal.Refusal.TheVariants.{NoListener}
use Rattle.sync_engine.proofs.Ending.{ends_not, hands_ended}
use Rattle.sync_engine.proofs.Handing.{hands_refused}
use Rattle.sync_engine.proofs.client.Client.unlisten.Goals as goal

pub returns-in_default-clause-turn : goal.returns-in_default-clause-turn
returns-in_default-clause-turn c = λ s past stands.
    hands_refused (NoListener c.args.id) refl c.requires.idle stands (ends_not c.args.id (ap (λ (k : Kept). Rattle.listeners.specs.Table.target_of k.listeners c.args.id) (sym c.self.view_is) ∙ sym c.target_of.ensures ∙ c.in_default.is) stands) c.new.ensures.items

pub returns-clause-turn : goal.returns-clause-turn
returns-clause-turn c = λ s past stands.
    let as_kept = subst (λ (k : Kept). StandsFor k s past) (sym c.self.view_is) stands in
    let fits : SFits w32 c.in-Some.target = search rules in
    let back = to_z-of_z w32 c.in-Some.target fits in
    hands_ended _ _ s past c.args.id c.in-Some.target c.wants-wanted.result (sym c.target_of.ensures ∙ c.in-Some.is) as_kept (ap (λ (k : Kept). k.watch.due) c.self.view_is ∙ c.requires.idle) refl refl refl c.remove.ensures.done c.remove.ensures.target c.remove-2.ensures.removed c.remove-2.ensures.limbo (subst (λ (z : ℤ). IsTrue c.wants-wanted.result ↔ IsWanted c.remove.new.self z) back c.wants-wanted.ensures)
    (subst (λ (z : ℤ). Ends z c.wants-wanted.result c.self.inside.watch c.unlistened.new.self) back c.unlistened.ensures)
    (c.in_ok-push.ensures.items ∙ ap (λ (o : List Out). o ++ Unlistened c.args.id c.number-commit.result ∷ []) c.new-outs.ensures.items
    ∙ ap (λ (n : ℕ). Unlistened c.args.id n ∷ []) c.number-commit.ensures.number)
