use Rattle.line_printer.proofs.Begun.{ended}
use Rattle.line_printer.proofs.answer.print_unlistened.Goals as goal

pub returns : goal.returns
returns c = ended _ _ _ _ _ c.in_ok-out.ensures c.in_ok-put_unlistened.ensures c.end_line.ensures
