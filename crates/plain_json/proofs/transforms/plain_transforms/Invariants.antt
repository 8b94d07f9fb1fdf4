use Rattle.std.proofs.Common.{take}
use Rattle.plain_json.proofs.Transformed.{TransformsSoFar}
use Rattle.plain_json.proofs.transforms.plain_transforms.Given as goal

abbrev pub invariant-loop-item : goal.invariant-loop-item
invariant-loop-item l = TransformsSoFar l.setting (take l.item-index l.item-items) l.transforms.items
