use Rattle.std.proofs.Common.{drop}
use Rattle.json_model.specs.Forms.{printed_each}
use Rattle.json_text.specs.Puts.{tokens_of_items}
use Rattle.json_text.proofs.Adding.{IsPartOf}
use Rattle.line_printer.specs.Lines.{change_tree}
use Rattle.line_printer.proofs.snapshot.put_each_change.Given as goal

abbrev pub invariant-loop-change : goal.invariant-loop-change
invariant-loop-change l = IsPartOf l.fn.out l.out (tokens_of_items (printed_each (change_tree l.root) (drop l.change-index l.changes))) (tokens_of_items (printed_each (change_tree l.root) l.changes))
