use Rattle.key_table.proofs.Orders.{ArePut}
use Rattle.key_table.proofs.order.in_order.Given as goal

-- the keys of the order and those that are left are all
abbrev pub invariant-loop-key : goal.invariant-loop-key
invariant-loop-key g l = ArePut l.initial.key-iterator l.key-iterator l.order.keys
