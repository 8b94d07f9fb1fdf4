-- what the places of a table show
use Rattle.std.proofs.Common.{List, ℕ, IsTrue, Option, Some, None, refl}
use Rattle.std.specs.Option.{is_some, option_and_then, unwrap_or}
use Rattle.key_table.specs.Table.{has_key, value_at}
use Rattle.overlays.specs.declared.slot.Slot.{Slot}
use Rattle.overlays.specs.Table.{Table, laid, shown}

-- a key that shows a document of its overlay has a place
pub has_from_shown : (table : Table) (key : List (List ℕ)) → IsTrue (is_some (shown table key None)) → IsTrue (has_key table key)
has_from_shown table key some = by (value_at table key) some
  where
    by : (o : Option Slot) → IsTrue (is_some (unwrap_or (option_and_then laid o) None)) → IsTrue (is_some o)
    by None some = some
    by (Some slot) some = refl
