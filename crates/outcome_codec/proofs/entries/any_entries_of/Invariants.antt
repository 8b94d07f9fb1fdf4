use Rattle.std.specs.List.{flat_map}
use Rattle.record_parts.specs.Reading.{Begins, AreMany}
use Rattle.outcome_codec.specs.Spelling.{keyed, IsSpelledKeyed}
use Rattle.outcome_codec.proofs.entries.any_entries_of.Given as goal

abbrev pub invariant-loop : goal.invariant-loop
invariant-loop l = Begins (flat_map keyed) (AreMany IsSpelledKeyed l.counter) l.initial.rest l.entries.items l.rest
