use Rattle.std.proofs.Common.{take}
use Rattle.json_model.proofs.Forms.{Spelled}
use Rattle.json_messages.specs.Grammar.{SpellsWriteResult}
use Rattle.json_messages.specs.Storable.{IsStorableResult}
use Rattle.json_messages.proofs.write_response.clean_result_items.Given as goal

abbrev pub invariant-loop-item : goal.invariant-loop-item
invariant-loop-item l = Spelled SpellsWriteResult IsStorableResult (take l.item-index l.item-items) l.results.items
