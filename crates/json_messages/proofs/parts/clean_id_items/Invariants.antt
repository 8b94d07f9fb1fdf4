use Rattle.std.proofs.Common.{take}
use Rattle.json_model.specs.Numbers.{SpellsShort}
use Rattle.json_model.proofs.Forms.{Spelled}
use Rattle.json_messages.proofs.Free.{Free}
use Rattle.json_messages.proofs.parts.clean_id_items.Given as goal

abbrev pub invariant-loop-item : goal.invariant-loop-item
invariant-loop-item l = Spelled SpellsShort Free (take l.item-index l.item-items) l.ids.items
