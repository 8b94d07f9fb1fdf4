use Rattle.std.proofs.Common.{take}
use Rattle.json_model.specs.Grammar.{SpellsPathTree}
use Rattle.json_model.specs.Storable.{IsStorablePath}
use Rattle.json_model.proofs.Forms.{Spelled}
use Rattle.json_rpc.proofs.mask.clean_paths.Given as goal

abbrev pub invariant-loop-item : goal.invariant-loop-item
invariant-loop-item l = Spelled SpellsPathTree IsStorablePath (take l.item-index l.item-items) l.paths.items
