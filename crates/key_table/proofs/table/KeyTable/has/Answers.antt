use Rattle.std.proofs.Common.{◌∙◌, ap}
use Rattle.std.specs.Option.{is_some}
use Rattle.key_table.proofs.Tables.{found}
use Rattle.key_table.specs.Table.{has_key}
use Rattle.key_table.proofs.table.KeyTable.has.Goals as goal

pub returns : goal.returns
returns g c = c.contains_key.ensures ∙ ap is_some (found c.self.inside.places.entries c.args.key.now) ∙ ap (λ t. has_key t c.args.key.now) c.self.view_is
