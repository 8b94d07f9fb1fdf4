use Rattle.std.proofs.Common.{◌≡◌, ◌++◌, length, take}
use Rattle.std.specs.List.{flat_map}
use Rattle.record_parts.specs.Spelling.{number, key}
use Rattle.outcome_codec.proofs.keys.put_keys.Given as goal

abbrev pub invariant-loop-key : goal.invariant-loop-key
invariant-loop-key l = l.out.items ≡ (l.fn.out.items ++ number (length l.keys)) ++ flat_map key (take l.key-index l.keys)
