use Rattle.std.specs.List.{flat_map}
use Rattle.record_parts.specs.Spelling.{path, IsSpelledPath}
use Rattle.record_parts.specs.Reading.{Begins, AreMany}
use Rattle.record_parts.proofs.paths.paths_of.Given as goal

abbrev pub invariant-loop : goal.invariant-loop
invariant-loop l = Begins (flat_map path) (AreMany IsSpelledPath l.counter) l.initial.rest l.paths.items l.rest
