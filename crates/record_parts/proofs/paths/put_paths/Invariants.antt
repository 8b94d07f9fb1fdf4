use Rattle.std.proofs.Common.{◌≡◌, ◌++◌, length, take}
use Rattle.std.specs.List.{flat_map}
use Rattle.record_parts.specs.Spelling.{number, path}
use Rattle.record_parts.proofs.paths.put_paths.Given as goal

abbrev pub invariant-loop-path : goal.invariant-loop-path
invariant-loop-path l = l.out.items ≡ (l.fn.out.items ++ number (length l.paths)) ++ flat_map path (take l.path-index l.paths)
