use Rattle.std.proofs.Common.{take}
use Rattle.json_model.proofs.Forms.{Spelled}
use Rattle.json_rpc.specs.Grammar.{SpellsWrite}
use Rattle.json_rpc.specs.Storable.{IsStorableWrite}
use Rattle.json_rpc.proofs.write.clean_writes.Given as goal

abbrev pub invariant-loop-item : goal.invariant-loop-item
invariant-loop-item l = Spelled (SpellsWrite l.setting.root) IsStorableWrite (take l.item-index l.item-items) l.writes.items
