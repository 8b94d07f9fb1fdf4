-- Which of several faults is reported: the first of the kind that comes first.
use Rattle.std.specs.Prelude.{ℕ, List, [], ◌∷◌, Option, Some, None, nat_lt, if◌then◌else◌}
use Rattle.json_model.specs.declared.fault.JsonFault.{JsonFault}
use Rattle.json_model.specs.declared.fault.JsonFault.TheVariants.{BadShape, BadTime, BadBytes, TooDeep, Unsupported, BadName, NoMemory}

-- The order of kinds: a wrong shape, time or base64 text; then a value that nests too deep; then what isn't supported;
-- then a bad name.
abbrev pub rank : JsonFault → ℕ
rank (BadShape member) = 1
rank (BadTime member) = 1
rank (BadBytes member) = 1
rank TooDeep = 2
rank (Unsupported member) = 3
rank (BadName name) = 4
rank NoMemory = 5

-- the earlier of two faults, unless the later one is of a kind that comes first
abbrev pub better : Option JsonFault → Option JsonFault → Option JsonFault
better None later = later
better (Some first) None = Some first
better (Some first) (Some second) = if nat_lt (rank second) (rank first) then Some second else Some first

-- of a list of faults the first of the least kind, or none where there is none
abbrev pub first_of_least : List JsonFault → Option JsonFault
first_of_least [] = None
first_of_least (fault ∷ faults) = better (Some fault) (first_of_least faults)
