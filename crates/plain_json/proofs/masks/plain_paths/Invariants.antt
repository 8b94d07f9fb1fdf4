use Rattle.std.proofs.Common.{take}
use Rattle.json_model.specs.Grammar.{SpellsPathTree}
use Rattle.json_model.specs.Storable.{IsStorablePath}
use Rattle.plain_json.proofs.Lists.{EachSoFar}
use Rattle.plain_json.proofs.masks.plain_paths.Given as goal

abbrev pub invariant-loop-item : goal.invariant-loop-item
invariant-loop-item l = EachSoFar SpellsPathTree IsStorablePath (take l.item-index l.item-items) l.paths.items
