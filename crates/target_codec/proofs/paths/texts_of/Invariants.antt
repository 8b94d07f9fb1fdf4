use Rattle.std.specs.List.{flat_map}
use Rattle.record_parts.specs.Spelling.{text, IsText}
use Rattle.record_parts.specs.Reading.{Begins, AreMany}
use Rattle.target_codec.proofs.paths.texts_of.Given as goal

abbrev pub invariant-loop : goal.invariant-loop
invariant-loop l = Begins (flat_map text) (AreMany IsText l.counter) l.initial.rest l.texts.items l.rest
