use Rattle.std.proofs.Common.{◌∙◌, ap}
use Rattle.key_table.specs.Table.{value_at}
use Rattle.key_table.proofs.Tables.{reordered, same_values}
use Rattle.key_table.proofs.table.KeyTable.make_room.Goals as goal

pub invariant_of-self-2 : goal.invariant_of-self-2
invariant_of-self-2 g c =
    let same = same_values c.self.inside.places.entries c.reserve.new.self.entries c.reserve.ensures.entries.2 in
    reordered c.self.inside.places.entries c.reserve.new.self.entries c.self.inside.order same c.self.invariant

pub returns : goal.returns
returns g c = λ q.
    same_values c.self.inside.places.entries c.reserve.new.self.entries c.reserve.ensures.entries.2 q
    ∙ ap (λ t. value_at t q) c.self.view_is
