use Rattle.line_printer.proofs.Begun.{ended}
use Rattle.line_printer.proofs.snapshot.print_snapshot.Goals as goal

pub returns : goal.returns
returns g c = ended _ _ _ _ _ c.in_ok-out.ensures c.in_ok-put_snapshot.ensures c.end_line.ensures
