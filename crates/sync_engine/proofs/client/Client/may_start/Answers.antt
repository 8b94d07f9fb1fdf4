use Rattle.std.proofs.Common.{◌≡◌, false, SFits, sym, ap, w32, rules, ◌∙◌}
use Rattle.std.proofs.lemmas.Int.{to_z-of_z}
use Rattle.listeners.specs.Table.{target_of}
use Rattle.sync_engine.specs.Standing.{Kept, stance_in}
use Rattle.sync_engine.proofs.Showing.{no_row, row_starts}
use Rattle.sync_engine.proofs.client.Client.may_start.Goals as goal

pub returns-in-Some-row : goal.returns-in-Some-row
returns-in-Some-row c =
    let stance = stance_in c.args.self.now c.args.id in
    let online : stance.offline ≡ false = search rules in
    let fits : SFits w32 c.in-Some.target = search rules in
    row_starts c.args.self.now.store.state stance c.targets.result.now.rows c.in-Some.target _ c.in-Some-row.row.now c.is_some.result online
    (sym (c.in-Some.ensures ∙ ap (λ (k : Kept). target_of k.listeners c.args.id) c.self.view_is))
    (c.targets.ensures ∙ ap (λ (k : Kept). k.store.state.rows) c.self.view_is)
    (to_z-of_z w32 c.in-Some.target fits) c.in-Some-row.ensures (sym c.is_some.ensures)

pub returns-in-None : goal.returns-in-None
returns-in-None c =
    let stance = stance_in c.args.self.now c.args.id in
    let online : stance.offline ≡ false = search rules in
    let fits : SFits w32 c.in-Some.target = search rules in
    no_row c.args.self.now.store.state stance c.targets.result.now.rows c.in-Some.target _ online
    (sym (c.in-Some.ensures ∙ ap (λ (k : Kept). target_of k.listeners c.args.id) c.self.view_is))
    (c.targets.ensures ∙ ap (λ (k : Kept). k.store.state.rows) c.self.view_is)
    (to_z-of_z w32 c.in-Some.target fits) c.in-None.ensures
