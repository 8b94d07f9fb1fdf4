use Rattle.std.specs.List.{flat_map}
use Rattle.record_parts.specs.Spelling.{text, IsNameText}
use Rattle.record_parts.specs.Reading.{Begins, AreMany}
use Rattle.record_parts.proofs.paths.names_of.Given as goal

abbrev pub invariant-loop : goal.invariant-loop
invariant-loop l = Begins (flat_map text) (AreMany IsNameText l.counter) l.initial.rest l.names.items l.rest
