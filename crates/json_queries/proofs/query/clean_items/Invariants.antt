use Rattle.std.proofs.Common.{take}
use Rattle.value_model.specs.Storable.{IsStorableSegment}
use Rattle.json_model.proofs.Forms.{Spelled}
use Rattle.json_queries.specs.Grammar.{SpellsSelector}
use Rattle.json_queries.proofs.query.clean_items.Given as goal

abbrev pub invariant-loop-item : goal.invariant-loop-item
invariant-loop-item l = Spelled SpellsSelector IsStorableSegment (take l.item-index l.item-items) l.ids.items
