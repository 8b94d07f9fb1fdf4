-- The faults of trees that are to spell messages.
use Rattle.std.specs.Prelude.{List, codes}
use Rattle.serde_json.specs.Data.{Data as Json}
use Rattle.document_keys.specs.Names.{Root}
use Rattle.json_model.specs.declared.side.Side.{Side}
use Rattle.json_model.specs.declared.side.Side.TheVariants.{Backend}
use Rattle.json_model.specs.declared.place.Place.TheVariants as place
use Rattle.json_model.specs.declared.place.Object.TheVariants as object
use Rattle.json_model.specs.declared.fault.JsonFault.{JsonFault}
use Rattle.json_model.specs.Faults.{FaultsAt, max_nesting}
use Rattle.json_model.specs.Origin.{Origin}

-- the backend wrote it, with names under the root
abbrev pub sent : Root → Origin
sent root = record { side = Backend; root = root }

-- a message of a watch stream, as what `watch` of a line holds
abbrev pub ListenFaults : Root → Json → List JsonFault → Type 0
ListenFaults root d faults = FaultsAt (sent root) max_nesting (place.Object object.ListenResponse) (codes "watch") d faults

-- a message of a write stream, as what `written` of a line holds
abbrev pub WriteResponseFaults : Root → Json → List JsonFault → Type 0
WriteResponseFaults root d faults = FaultsAt (sent root) max_nesting (place.Object object.WriteResponse) (codes "written") d faults

-- a status, under whatever root: it has no names of documents
abbrev pub StatusFaults : Side → Json → List JsonFault → Type 0
StatusFaults side d faults = (root : Root) → FaultsAt (record { side = side; root = root }) max_nesting (place.Object object.Status) (codes "status") d faults
