use Rattle.std.proofs.Common.{◌≡◌, ◌++◌, length, take}
use Rattle.std.specs.List.{flat_map}
use Rattle.record_parts.specs.Spelling.{number}
use Rattle.outcome_codec.specs.Spelling.{keyed}
use Rattle.outcome_codec.proofs.entries.put_entries.Given as goal

abbrev pub invariant-loop-entry : goal.invariant-loop-entry
invariant-loop-entry l = l.out.items ≡ (l.fn.out.items ++ number (length l.entries)) ++ flat_map keyed (take l.entry-index l.entries)
