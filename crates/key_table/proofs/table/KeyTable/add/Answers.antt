use Rattle.std.proofs.Common.{◌∙◌, Some, ap, cond, subst, sym}
use Rattle.std.proofs.lemmas.Result.{err_from_is_err_and}
use Rattle.document_keys.specs.KeySet.{is_key}
use Rattle.key_table.specs.Table.{AreInOrder, value_at}
use Rattle.key_table.proofs.Tables.{changed, reordered, same_values, still_in_order}
use Rattle.key_table.proofs.table.KeyTable.add.Goals as goal

pub invariant_of-self-in_err-put : goal.invariant_of-self-in_err-put
invariant_of-self-in_err-put g c =
    let same = same_values c.self.inside.places.entries c.reserve.new.self.entries c.reserve.ensures.entries.2 in
    subst (AreInOrder c.reserve.new.self.entries) (sym c.in_err-put.ensures.undone) (reordered c.self.inside.places.entries c.reserve.new.self.entries c.self.inside.order same c.self.invariant)

pub returns-in_err-put-clause-undone : goal.returns-in_err-put-clause-undone
returns-in_err-put-clause-undone g c =
    let p = err_from_is_err_and c.from_residual-in_err-put.result c.from_residual-in_err-put.ensures.1 in
    rw (p.1, ← c.self.view_is) (same_values c.self.inside.places.entries c.reserve.new.self.entries c.reserve.ensures.entries.2)

pub invariant_of-self-2 : goal.invariant_of-self-2
invariant_of-self-2 g c =
    let before = c.reserve.new.self.entries in
    let same = same_values c.self.inside.places.entries before c.reserve.ensures.entries.2 in
    let were = reordered c.self.inside.places.entries before c.self.inside.order same c.self.invariant in
    still_in_order before c.insert.new.self.entries c.args.key (Some c.args.value) c.self.inside.order c.put.new.order
    (changed before c.insert.new.self.entries c.args.key (Some c.args.value) c.in-Ok.ensures.updates.0)
    c.in_ok-put.ensures.done (λ some. c.len-count.ensures.key) were

pub returns-clause-done : goal.returns-clause-done
returns-clause-done g c = λ q.
    let same = same_values c.self.inside.places.entries c.reserve.new.self.entries c.reserve.ensures.entries.2 q in
    let put = changed c.reserve.new.self.entries c.insert.new.self.entries c.args.key (Some c.args.value) c.in-Ok.ensures.updates.0 q in
    put ∙ ap (λ o. cond (is_key c.args.key q) (Some c.args.value) o) (same ∙ ap (λ t. value_at t q) c.self.view_is)
