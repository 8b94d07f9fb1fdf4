use Rattle.json_text.proofs.Adding.{one_less}
use Rattle.line_printer.proofs.Rows.{rows_left}
use Rattle.line_printer.proofs.snapshot.put_rows.Goals as goal

pub loop-i-preserved : goal.loop-i-preserved
loop-i-preserved g c = one_less c.loop-i.invariant c.in_ok-put_document.ensures (rows_left c.args.root.now c.args.snapshot.now c.loop-i.i _ c.in-Some.ensures)
