use Rattle.std.proofs.Common.{◌≡◌, ◌++◌, length, take}
use Rattle.std.specs.List.{flat_map}
use Rattle.record_parts.specs.Spelling.{number, transform}
use Rattle.record_parts.proofs.transforms.put_transforms.Given as goal

abbrev pub invariant-loop-transform : goal.invariant-loop-transform
invariant-loop-transform l = l.out.items ≡ (l.fn.out.items ++ number (length l.transforms)) ++ flat_map transform (take l.transform-index l.transforms)
