use Rattle.std.proofs.Common.{◌∙◌, ap}
use Rattle.key_table.proofs.Tables.{found}
use Rattle.key_table.specs.Table.{value_at}
use Rattle.key_table.proofs.table.KeyTable.get.Goals as goal

pub returns : goal.returns
returns g c = c.get.ensures.value ∙ found c.self.inside.places.entries c.args.key.now ∙ ap (λ t. value_at t c.args.key.now) c.self.view_is
