use Rattle.std.specs.List.{flat_map}
use Rattle.record_parts.specs.Spelling.{write, IsSpelledWrite}
use Rattle.record_parts.specs.Reading.{Begins, AreMany}
use Rattle.record_parts.proofs.writes.writes_of.Given as goal

abbrev pub invariant-loop : goal.invariant-loop
invariant-loop l = Begins (flat_map write) (AreMany IsSpelledWrite l.counter) l.initial.rest l.writes.items l.rest
