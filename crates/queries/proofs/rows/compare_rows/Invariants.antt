use Rattle.std.proofs.Common.{◌≡◌, take}
use Rattle.document_keys.specs.Names.{Root}
use Rattle.queries.specs.Holding.{standing}
use Rattle.queries.specs.Rows.{row_values}
use Rattle.queries.proofs.rows.compare_rows.Given as goal

-- as far as the orders were looked at the two have the same values
abbrev pub invariant-loop-order : goal.invariant-loop-order
invariant-loop-order l =
    (root : Root) → take l.order-index (row_values (standing root l.left.key.now l.left.fields.now) l.orders) ≡ take l.order-index (row_values (standing root l.right.key.now l.right.fields.now) l.orders)
