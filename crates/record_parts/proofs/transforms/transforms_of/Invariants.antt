use Rattle.std.specs.List.{flat_map}
use Rattle.record_parts.specs.Spelling.{transform, IsSpelledTransform}
use Rattle.record_parts.specs.Reading.{Begins, AreMany}
use Rattle.record_parts.proofs.transforms.transforms_of.Given as goal

abbrev pub invariant-loop : goal.invariant-loop
invariant-loop l = Begins (flat_map transform) (AreMany IsSpelledTransform l.counter) l.initial.rest l.transforms.items l.rest
