use Rattle.std.proofs.Common.{subst}
use Rattle.std.specs.List.{IsDistinct}
use Rattle.std.specs.Map.{keys_of}
use Rattle.key_table.specs.Table.{HasEachKeyOnce}
use Rattle.key_table.proofs.Tables.{same_test}
use Rattle.key_table.proofs.table.KeyTable.has_each_key_once.Goals as goal

pub returns : goal.returns
returns g c = subst HasEachKeyOnce c.self.view_is (subst (λ test. IsDistinct test (keys_of c.self.inside.places.entries)) same_test c.iter-places.ensures.unique)
