use Rattle.std.proofs.Common.{sym}
use Rattle.disk_journal.proofs.Lent.{first_is_most}
use Rattle.disk_journal.proofs.payloads.size.Goals as goal

pub returns-in-Some : goal.returns-in-Some
returns-in-Some c = first_is_most c.args.spans.now c.in-Some.span.now (sym c.in-Some.ensures.value)
