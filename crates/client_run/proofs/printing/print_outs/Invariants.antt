use Rattle.std.proofs.Common.{◌≡◌, List, take}
use Rattle.std.specs.String.{string_bytes}
use Rattle.client_turns.specs.Lines.{Line}
use Rattle.client_run.specs.Printed.{text_of}
use Rattle.client_run.specs.Taken.{AreShown}
use Rattle.client_run.proofs.printing.print_outs.Given as goal

abbrev pub invariant-loop-out : goal.invariant-loop-out
invariant-loop-out l = (lines : List Line) → AreShown l.client (take l.out-index l.outs) lines → string_bytes l.text ≡ text_of l.client.root lines
