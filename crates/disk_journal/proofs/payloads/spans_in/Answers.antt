use Rattle.std.proofs.Common.{subst, sym, List}
use Rattle.disk_journal.specs.declared.payloads.Span.{Span}
use Rattle.disk_journal.proofs.Once.{fewer, ends_broken}
use Rattle.disk_journal.proofs.Lent.{lends_none, lends_one, HasLent}
use Rattle.disk_journal.proofs.payloads.spans_in.Goals as goal

pub records-init : goal.records-init
records-init c = rw c.new-spans.ensures.items (lends_none c.args.file.now c.args.from)

pub records-smaller : goal.records-smaller
records-smaller c = fewer c.records.rest.now c.in-Open.payload.now c.in-Open.behind.now c.in-Open.ensures.1

pub records-preserved : goal.records-preserved
records-preserved c = subst (λ (l : List Span). HasLent c.args.file.now c.args.from l c.in-Open.behind.now) (sym c.in_ok-push-in-Open.ensures.items) (lends_one c.in-Open.payload.now c.in-Open.behind.now c.records.invariant c.in-Open.ensures.0 c.in-Open.ensures.1)

pub returns-in-Broken : goal.returns-in-Broken
returns-in-Broken c = ends_broken c.records.invariant.read c.in-Broken.ensures
