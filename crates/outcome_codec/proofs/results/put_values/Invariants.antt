use Rattle.std.proofs.Common.{◌≡◌, ◌++◌, length, take}
use Rattle.std.specs.List.{flat_map}
use Rattle.record_parts.specs.Spelling.{number, value}
use Rattle.outcome_codec.proofs.results.put_values.Given as goal

abbrev pub invariant-loop-value : goal.invariant-loop-value
invariant-loop-value l = l.out.items ≡ (l.fn.out.items ++ number (length l.values)) ++ flat_map value (take l.value-index l.values)
