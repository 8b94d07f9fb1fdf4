-- Documents as a state lends them: each with how it stands to the backend.
use Rattle.std.specs.Prelude.{Option, option_map}
use Rattle.value_model.specs.Documents.{Stored}
use Rattle.value_model.specs.declared.document.DocState.{DocState}
use Rattle.value_model.specs.declared.document.Document.{Document}
use Rattle.value_model.specs.declared.document.Entry.{Entry}
use Rattle.value_model.specs.declared.document.Seal.{Seal}
use Rattle.overlays.specs.LocalDocument.{base_of}
use Rattle.durable_state.specs.Documents.{standing_by}

-- a document that stands so to the backend
abbrev pub standing : DocState → Document → Stored
standing state d = record { fields = d.fields; update_time = d.update_time; state = state }

-- the document that an entry knows of, where no pending write is laid on it
abbrev pub known_by : Option (Entry × Seal) → Option Stored
known_by sealed = option_map (standing (standing_by sealed)) (base_of (option_map (λ p. p.0) sealed))
