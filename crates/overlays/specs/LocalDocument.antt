-- The local document of a key: what is known of it, with the pending writes laid on.
use Rattle.std.specs.Prelude.{List, ℕ, fold, Option, Some, None, if◌then◌else◌}
use Rattle.document_keys.specs.KeySet.{is_key}
use Rattle.value_model.specs.declared.document.Document.{Document}
use Rattle.value_model.specs.declared.document.Entry.{Entry}
use Rattle.value_model.specs.declared.document.Entry.TheVariants.{Found, Missing, Unknown}
use Rattle.value_model.specs.declared.timestamp.Timestamp.{Timestamp}
use Rattle.mutations.specs.declared.batch.Batch.{Batch}
use Rattle.mutations.specs.declared.write.Write.{Write}
use Rattle.mutations.specs.Local.{effect}
use Rattle.mutations.specs.Written.{written_key}

-- the document that an entry knows of; where there is no entry, none
abbrev pub base_of : Option Entry → Option Document
base_of None = None
base_of (Some (Found fields version)) = Some (record { fields = fields; update_time = Some version })
base_of (Some (Missing version)) = None
base_of (Some (Unknown version)) = None

-- a key's document after a write: only one of the key changes it
abbrev pub after_write : List (List ℕ) → Timestamp → Option Document → Write → Option Document
after_write key at document write = if is_key (written_key write) key then effect document write at else document

-- after some writes that are made at one time, in order
abbrev pub after_writes : List (List ℕ) → Timestamp → Option Document → List Write → Option Document
after_writes key at document writes = fold (after_write key at) document writes

-- after a batch: its writes, in order
abbrev pub after_batch : List (List ℕ) → Option Document → Batch → Option Document
after_batch key document batch = fold (after_write key batch.at) document batch.writes

-- after some batches, in order
abbrev pub local_document : List (List ℕ) → Option Document → List Batch → Option Document
local_document key base batches = fold (after_batch key) base batches
