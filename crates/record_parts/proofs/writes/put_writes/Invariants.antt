use Rattle.std.proofs.Common.{◌≡◌, ◌++◌, length, take}
use Rattle.std.specs.List.{flat_map}
use Rattle.record_parts.specs.Spelling.{number, write}
use Rattle.record_parts.proofs.writes.put_writes.Given as goal

abbrev pub invariant-loop-write : goal.invariant-loop-write
invariant-loop-write l = l.out.items ≡ (l.fn.out.items ++ number (length l.writes)) ++ flat_map write (take l.write-index l.writes)
