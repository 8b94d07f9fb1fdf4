use Rattle.std.specs.List.{flat_map}
use Rattle.record_parts.specs.Spelling.{text, IsSegmentText}
use Rattle.record_parts.specs.Reading.{Begins, AreMany}
use Rattle.record_parts.proofs.names.builder_of.Given as goal

abbrev pub invariant-loop : goal.invariant-loop
invariant-loop l = Begins (flat_map text) (AreMany IsSegmentText l.counter) l.initial.rest l.builder l.rest
