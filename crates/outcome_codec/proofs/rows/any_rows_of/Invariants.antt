use Rattle.std.specs.List.{flat_map}
use Rattle.record_parts.specs.Reading.{Begins, AreMany}
use Rattle.outcome_codec.specs.Spelling.{row, IsSpelledRow}
use Rattle.outcome_codec.proofs.rows.any_rows_of.Given as goal

abbrev pub invariant-loop : goal.invariant-loop
invariant-loop l = Begins (flat_map row) (AreMany IsSpelledRow l.counter) l.initial.rest l.rows.items l.rest
