use Rattle.std.proofs.Common.{◌∙◌, None, ap, sym}
use Rattle.key_table.specs.Table.{value_at}
use Rattle.key_table.proofs.Tables.{changed, found, still_in_order}
use Rattle.key_table.proofs.table.KeyTable.remove.Goals as goal

pub returns-in_err-value-clause-value : goal.returns-in_err-value-clause-value
returns-in_err-value-clause-value g c = c.from_residual.ensures ∙ sym c.in_err-value.was ∙ c.remove.ensures.value ∙ found c.self.inside.places.entries c.args.key.now ∙ ap (λ t. value_at t c.args.key.now) c.self.view_is

pub returns-in_err-value-clause-done : goal.returns-in_err-value-clause-done
returns-in_err-value-clause-done g c = λ q. rw (← c.self.view_is) (changed c.self.inside.places.entries c.remove.new.self.entries c.args.key.now None c.remove.ensures.updates.0 q)

pub invariant_of-self-2 : goal.invariant_of-self-2
invariant_of-self-2 g c =
    still_in_order c.self.inside.places.entries c.remove.new.self.entries c.args.key.now None c.self.inside.order c.take.new.order
    (changed c.self.inside.places.entries c.remove.new.self.entries c.args.key.now None c.remove.ensures.updates.0)
    c.take.ensures (λ some. cc) c.self.invariant

pub returns-clause-value : goal.returns-clause-value
returns-clause-value g c = sym c.in_ok-value.was ∙ c.remove.ensures.value ∙ found c.self.inside.places.entries c.args.key.now ∙ ap (λ t. value_at t c.args.key.now) c.self.view_is

pub returns-clause-done : goal.returns-clause-done
returns-clause-done g c = λ q. rw (← c.self.view_is) (changed c.self.inside.places.entries c.remove.new.self.entries c.args.key.now None c.remove.ensures.updates.0 q)
