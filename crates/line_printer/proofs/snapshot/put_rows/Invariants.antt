use Rattle.std.proofs.Common.{drop}
use Rattle.json_model.specs.Forms.{printed_each}
use Rattle.json_text.specs.Puts.{tokens_of_items}
use Rattle.json_text.proofs.Adding.{IsPartOf}
use Rattle.line_printer.specs.Lines.{row_tree}
use Rattle.line_printer.proofs.snapshot.put_rows.Given as goal

abbrev pub invariant-loop-i : goal.invariant-loop-i
invariant-loop-i g l = IsPartOf l.fn.out l.out (tokens_of_items (printed_each (row_tree l.root) (drop l.i l.snapshot.raised.rows))) (tokens_of_items (printed_each (row_tree l.root) l.snapshot.raised.rows))
