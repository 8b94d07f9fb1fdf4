use Rattle.std.proofs.Common.{length}
use Rattle.disk_journal.proofs.Lent.{HasLent}
use Rattle.disk_journal.proofs.payloads.spans_in.Given as goal

abbrev pub invariant-records : goal.invariant-records
invariant-records l = HasLent l.file l.from l.spans.items l.rest

abbrev pub decreases-records : goal.decreases-records
decreases-records l = length l.rest
