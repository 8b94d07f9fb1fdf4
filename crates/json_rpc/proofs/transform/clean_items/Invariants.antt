use Rattle.std.proofs.Common.{take}
use Rattle.json_model.proofs.Forms.{Spelled}
use Rattle.json_rpc.specs.Grammar.{SpellsTransform}
use Rattle.json_rpc.specs.Storable.{IsStorableTransform}
use Rattle.json_rpc.proofs.transform.clean_items.Given as goal

abbrev pub invariant-loop-item : goal.invariant-loop-item
invariant-loop-item l = Spelled SpellsTransform IsStorableTransform (take l.item-index l.item-items) l.transforms.items
