-- The faults of a line's tree.
use Rattle.std.specs.Prelude.{List, []}
use Rattle.serde_json.specs.Data.{Data}
use Rattle.document_keys.specs.Names.{Root}
use Rattle.json_model.specs.declared.side.Side.TheVariants.{Caller}
use Rattle.json_model.specs.declared.place.Place.TheVariants as place
use Rattle.json_model.specs.declared.place.Object.TheVariants as object
use Rattle.json_model.specs.declared.fault.JsonFault.{JsonFault}
use Rattle.json_model.specs.Faults.{FaultsAt, max_nesting}
use Rattle.json_model.specs.Origin.{Origin}

-- the caller's lines, whose names are those of this database
abbrev pub caller : Root → Origin
caller root = record { side = Caller; root = root }

-- the faults of a line
abbrev pub LineFaults : Root → Data → List JsonFault → Type 0
LineFaults root d faults = FaultsAt (caller root) max_nesting (place.Object object.Line) [] d faults
