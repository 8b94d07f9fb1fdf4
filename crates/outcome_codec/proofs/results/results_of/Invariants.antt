use Rattle.std.specs.List.{flat_map}
use Rattle.record_parts.specs.Reading.{Begins, AreMany}
use Rattle.outcome_codec.specs.Spelling.{result, IsSpelledResult}
use Rattle.outcome_codec.proofs.results.results_of.Given as goal

abbrev pub invariant-loop : goal.invariant-loop
invariant-loop l = Begins (flat_map result) (AreMany IsSpelledResult l.counter) l.initial.rest l.results.items l.rest
