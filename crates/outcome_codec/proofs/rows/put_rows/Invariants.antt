use Rattle.std.proofs.Common.{◌≡◌, ◌++◌, length, take}
use Rattle.std.specs.List.{flat_map}
use Rattle.record_parts.specs.Spelling.{number}
use Rattle.outcome_codec.specs.Spelling.{row}
use Rattle.outcome_codec.proofs.rows.put_rows.Given as goal

abbrev pub invariant-loop-row : goal.invariant-loop-row
invariant-loop-row l = l.out.items ≡ (l.fn.out.items ++ number (length l.rows)) ++ flat_map row (take l.row-index l.rows)
