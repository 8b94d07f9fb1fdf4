use Rattle.std.proofs.Common.{◌≡◌, ◌++◌, length, take}
use Rattle.std.specs.List.{flat_map}
use Rattle.record_parts.specs.Spelling.{number}
use Rattle.outcome_codec.specs.Spelling.{result}
use Rattle.outcome_codec.proofs.results.put_results.Given as goal

abbrev pub invariant-loop-one : goal.invariant-loop-one
invariant-loop-one l = l.out.items ≡ (l.fn.out.items ++ number (length l.results)) ++ flat_map result (take l.one-index l.results)
