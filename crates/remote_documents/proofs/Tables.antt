-- what the places of a table hold
use Rattle.std.proofs.Common.{List, ℕ, IsTrue, Option, Some, None, refl}
use Rattle.std.specs.Option.{is_some, option_and_then}
use Rattle.key_table.specs.Table.{has_key, value_at}
use Rattle.remote_documents.specs.declared.slot.Slot.{Slot}
use Rattle.remote_documents.specs.Table.{Table, entry_of, held}

-- a key that has an entry has a place
pub has_from_entry : (table : Table) (key : List (List ℕ)) → IsTrue (is_some (entry_of table key)) → IsTrue (has_key table key)
has_from_entry table key some = by (value_at table key) some
  where
    by : (o : Option Slot) → IsTrue (is_some (option_and_then held o)) → IsTrue (is_some o)
    by None some = some
    by (Some slot) some = refl
