use Rattle.std.proofs.Common.{ap, ◌∙◌}
use Rattle.std.proofs.lemmas.Result.{IfOk-weaker}
use Rattle.line_printer.specs.Lines.{line_of}
use Rattle.line_printer.proofs.refusal.print_no_listener.Goals as goal

pub returns : goal.returns
returns c = IfOk-weaker c.print_line.result _ _ (λ text is. is ∙ ap line_of c.in_ok-json.ensures) c.print_line.ensures
