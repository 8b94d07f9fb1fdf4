-- The faults of a tree that is to spell a query.
use Rattle.std.specs.Prelude.{List, codes}
use Rattle.serde_json.specs.Data.{Data as Json}
use Rattle.json_model.specs.declared.place.Place.TheVariants as place
use Rattle.json_model.specs.declared.place.Object.TheVariants as object
use Rattle.json_model.specs.declared.fault.JsonFault.{JsonFault}
use Rattle.json_model.specs.Faults.{FaultsAt, max_nesting}
use Rattle.json_model.specs.Origin.{Origin}

-- as what `target` of a line holds
abbrev pub QueryFaults : Origin → Json → List JsonFault → Type 0
QueryFaults o d faults = FaultsAt o max_nesting (place.Object object.Target) (codes "target") d faults
