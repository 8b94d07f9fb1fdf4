-- The entries of a cache, as contracts see them: a finite map from keys to what is known of the document and how that is
-- sealed, and beside it the room for more.
use Rattle.std.specs.Prelude.{◌≡◌, ℕ, List, Option, Some, None, option_and_then, option_map, if◌then◌else◌}
use Rattle.std.specs.Cmp.Lexicographic.{slice_cmp}
use Rattle.std.specs.Coded.{Coded, coded×, coded_list, coded_ℕ}
use Rattle.std.specs.FinMap as map
use Rattle.std.specs.List.{filter_map}
use Rattle.std.specs.Ordering.{nat_cmp}
use Rattle.document_keys.specs.KeySet.{is_key}
use Rattle.key_table.specs.Table.{Pairs, value_at}
use Rattle.value_model.specs.declared.document.Entry.{Entry}
use Rattle.value_model.specs.declared.document.Seal.{Seal}
use Rattle.remote_documents.specs.contracts.slot.Slot as slot
use Rattle.remote_documents.specs.declared.slot.Slot.{Slot}
use Rattle.remote_documents.specs.declared.slot.Slot.TheVariants.{Reserved, Held}

-- the places of the table by key, in an order that is left open: each is made for an entry, or holds one
abbrev pub Table : Type 0
Table = Pairs Slot

abbrev pub table_code : Coded Table
table_code = coded_list (coded× (coded_list (coded_list coded_ℕ)) slot.the_row.coded)

-- the entry that a place holds, with its seal
abbrev pub held : Slot → Option (Entry × Seal)
held Reserved = None
held (Held entry seal) = Some (entry, seal)

-- the entry of a key, with its seal
abbrev pub entry_of : Table → List (List ℕ) → Option (Entry × Seal)
entry_of table key = option_and_then held (value_at table key)

-- entries with their seals, by key, as a finite map
abbrev pub EntryMap : Type 0
EntryMap = map.FinMap (slice_cmp (slice_cmp nat_cmp)) (Entry × Seal)

-- the entries of a table as such a map
abbrev pub entries_in : Table → EntryMap
entries_in table = map.from_entries (filter_map (λ place. option_map (λ pair. (place.0, pair)) (held place.1)) table)

-- each key has the same entry in the map and in the table
abbrev pub IsMapOf : Table → Type 0
IsMapOf table = (key : List (List ℕ)) → map.get (entries_in table) key ≡ entry_of table key

-- no entry changes
abbrev pub SameEntries : Table → Table → Type 0
SameEntries old new = (key : List (List ℕ)) → entry_of new key ≡ entry_of old key

-- one key has this entry, or none, and every other the one that it had
abbrev pub Changes : List (List ℕ) → Option (Entry × Seal) → Table → Table → Type 0
Changes key entry old new = (q : List (List ℕ)) → entry_of new q ≡ (if is_key key q then entry else entry_of old q)
