use Rattle.std.proofs.Common.{ℕ, List, drop, subst, sym}
use Rattle.disk_journal.specs.Parts.{IsRecords}
use Rattle.disk_journal.proofs.payloads.Payloads.read.Goals as goal

pub returns-in-None : goal.returns-in-None
returns-in-None c = λ ps is.
    let none = rw c.in-None.is at c.in_ok-spans.ensures in
    none ps (subst (λ (l : List ℕ). IsRecords ps (drop c.args.from l)) (sym c.deref.ensures.value) is)
