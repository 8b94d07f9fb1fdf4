-- What is lent to the calls of overlays and by them, as contracts see it.
use Rattle.std.specs.Prelude.{◌++◌, List, Option, option_map}
use Rattle.std.specs.Option.{option_to_list}
use Rattle.std.specs.Borrow.{Bor}
use Rattle.value_model.specs.Data.{Entries}
use Rattle.value_model.specs.declared.document.Document.{Document}
use Rattle.value_model.specs.declared.document.Entry.{Entry}
use Rattle.value_model.specs.declared.timestamp.Timestamp.{Timestamp}
use Rattle.mutations.specs.declared.batch.Batch.{Batch}
use Rattle.overlays.specs.LocalDocument.{base_of}

-- the document that a lent entry knows of
abbrev pub known : Option (Bor Entry) → Option Document
known entry = base_of (option_map (λ e. e.now) entry)

-- the document that is lent as its fields and its update time
abbrev pub lent_document : Option (Bor Entries × Option Timestamp) → Option Document
lent_document lent = option_map (λ d. record { fields = d.0.now; update_time = d.1 }) lent

-- the batches, and one more if there is one
abbrev pub with_more : List Batch → Option (Bor Batch) → List Batch
with_more batches more = batches ++ option_to_list (option_map (λ b. b.now) more)
