use Rattle.std.proofs.Common.{◌∙◌, option_map, subst}
use Rattle.mutations.specs.Changes.{Appends, Removes}
use Rattle.mutations.proofs.Fitting.{settles_append, settles_remove}
use Rattle.mutations.proofs.change.settled.Goals as goal

pub returns-in_ok-array-in-Append : goal.returns-in_ok-array-in-Append
returns-in_ok-array-in-Append c =
    let items = c.in_ok-items-in-Append.items.items in
    c.in_ok-array-in-Append.ensures ∙ settles_append (option_map (λ v. v.now) c.args.found) c.args.change.now c.in-Append.values c.items_of.result.now items c.args.returned.now c.in-Append.is c.items_of.ensures
    (subst (λ l. Appends c.items_of.result.now l items) c.as_slice.ensures c.in_ok-items-in-Append.ensures)

pub returns-in_ok-array-in-RemoveAll : goal.returns-in_ok-array-in-RemoveAll
returns-in_ok-array-in-RemoveAll c =
    let items = c.in_ok-items-in-RemoveAll.items.items in
    c.in_ok-array-in-RemoveAll.ensures ∙ settles_remove (option_map (λ v. v.now) c.args.found) c.args.change.now c.in-RemoveAll.values c.items_of-in-RemoveAll.result.now items c.args.returned.now c.in-RemoveAll.is c.items_of-in-RemoveAll.ensures
    (subst (λ l. Removes l c.items_of-in-RemoveAll.result.now items) c.as_slice-in-RemoveAll.ensures c.in_ok-items-in-RemoveAll.ensures)
