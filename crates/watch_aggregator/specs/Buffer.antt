-- The table of the entries that wait for the next point.
use Rattle.std.specs.Prelude.{◌≡◌, ℤ, Bool, ◌&&◌, ◌||◌, Option, Some, List}
use Rattle.std.specs.BTreeMap.{BTreeMap, get}
use Rattle.std.specs.List.{list_any}
use Rattle.std.specs.Ordering.{int_eq}
use Rattle.value_model.specs.declared.document.Entry.{Entry}
use Rattle.value_model.specs.declared.message.DocumentChange.{DocumentChange}
use Rattle.value_model.specs.declared.message.DocumentDelete.{DocumentDelete}
use Rattle.watch_aggregator.specs.declared.watched.Watched.{Watched}
use Rattle.listen_protocol.specs.Buffer.{buffered, changed_entry, deleted_entry, with_left}
use Rattle.listen_protocol.specs.Calls.{Key, Calls, key_cmp}

-- the table has the entries that wait
pub record IsBuffer (buffer : BTreeMap Key Entry) (h : Calls) : Type 0 where
  pub at : (k : Key) → get key_cmp buffer k ≡ buffered k h

-- the table has what a message left, if it left one
pub record KeepsLeft (left : Option (Key × Entry)) (was now : BTreeMap Key Entry) : Type 0 where
  pub at : (k : Key) → get key_cmp now k ≡ with_left k left (get key_cmp was k)

-- the table has the entry in place of the old one of its key
pub record Keeps (key : Key) (new : Entry) (was now : BTreeMap Key Entry) : Type 0 where
  pub at : (k : Key) → get key_cmp now k ≡ with_left k (Some (key, new)) (get key_cmp was k)

-- the table has the same entries
pub record Same (was now : BTreeMap Key Entry) : Type 0 where
  pub at : (k : Key) → get key_cmp now k ≡ get key_cmp was k

-- what is kept of the id counts
abbrev pub counts_in : List Watched → ℤ → Bool
counts_in ws t = list_any (λ w. w.counts && int_eq w.id t) ws

-- what a change leaves, and what a delete leaves, by what is kept of the ids
abbrev pub changed_by : List Watched → DocumentChange → Option (Key × Entry)
changed_by ws change = changed_entry (list_any (counts_in ws) change.target_ids || list_any (counts_in ws) change.removed_target_ids) change

abbrev pub deleted_by : List Watched → DocumentDelete → Option (Key × Entry)
deleted_by ws delete = deleted_entry (list_any (counts_in ws) delete.removed_target_ids) delete
