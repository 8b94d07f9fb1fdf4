use Rattle.line_printer.proofs.Begun.{ended}
use Rattle.line_printer.proofs.answer.print_wrote.Goals as goal

pub returns : goal.returns
returns c = ended _ _ _ _ _ c.in_ok-out.ensures c.in_ok-put_wrote.ensures c.end_line.ensures
