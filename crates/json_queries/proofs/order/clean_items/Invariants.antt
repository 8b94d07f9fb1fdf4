use Rattle.std.proofs.Common.{take}
use Rattle.json_model.proofs.Forms.{Spelled}
use Rattle.json_queries.specs.Grammar.{SpellsOrder}
use Rattle.json_queries.proofs.Stored.{HasQueryPath}
use Rattle.json_queries.proofs.order.clean_items.Given as goal

abbrev pub invariant-loop-item : goal.invariant-loop-item
invariant-loop-item l = Spelled SpellsOrder HasQueryPath (take l.item-index l.item-items) l.orders.items
