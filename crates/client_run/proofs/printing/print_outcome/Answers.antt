use Rattle.std.proofs.Common.{List, sym, subst}
use Rattle.sync_engine.specs.declared.out.Out.{Out}
use Rattle.client_run.specs.Taken.{AreShown}
use Rattle.client_run.proofs.printing.print_outcome.Goals as goal

pub print_outs-requires-clause-shown : goal.print_outs-requires-clause-shown
print_outs-requires-clause-shown c = let told = c.requires.told in let o = rw c.in-Done.is at told.1.outcome in (told.1.turn.lines, subst (λ (os : List Out). AreShown c.args.client.now os told.1.turn.lines) (sym c.as_slice.ensures.value) o.1)

pub print_refused-requires-clause-shown : goal.print_refused-requires-clause-shown
print_refused-requires-clause-shown c = let told = c.requires.told in let o = rw c.in-Refused.is at told.1.outcome in (told.1.turn.lines, subst (λ (os : List Out). AreShown c.args.client.now os told.1.turn.lines) (sym c.as_slice-in-Refused.ensures.value) o.1)
