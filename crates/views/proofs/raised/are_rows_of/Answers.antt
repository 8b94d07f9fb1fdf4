use Rattle.std.proofs.Common.{IsTrue, arith}
use Rattle.views.proofs.PrintedRows.{prints_next, prints_there}
use Rattle.views.proofs.raised.are_rows_of.Goals as goal

pub returns-then-not-is_row_of : goal.returns-then-not-is_row_of
returns-then-not-is_row_of g c =
    let never : IsTrue c.is_row_of.result → ⊥ = λ yes. cc in
    (λ no. cc, λ prints. absurd (never (c.is_row_of.ensures.1 (prints_there (g.D.Documents.documents c.args.docs.now) c.args.keys.now c.loop-i.i c.index-keys-i.result (omega arith) c.index-keys-i.is c.args.rows.now c.index-rows-i.result (omega arith) c.index-rows-i.is prints))))

pub loop-i-preserved : goal.loop-i-preserved
loop-i-preserved g c =
    let yes : IsTrue c.is_row_of.result = cc in
    prints_next (g.D.Documents.documents c.args.docs.now) c.args.keys.now c.loop-i.i c.index-keys-i.result (omega arith) c.index-keys-i.is c.args.rows.now c.index-rows-i.result (omega arith) c.index-rows-i.is c.loop-i.invariant (c.is_row_of.ensures.0 yes)
