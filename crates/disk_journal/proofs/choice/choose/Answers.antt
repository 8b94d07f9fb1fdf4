use Rattle.std.proofs.Common.{subst}
use Rattle.host_api.specs.declared.host.FileId.TheVariants.{Zero, One}
use Rattle.disk_journal.specs.declared.reading.Reading.{Reading}
use Rattle.disk_journal.specs.File.{IsBelow}
use Rattle.disk_journal.specs.Reading.{IsReading}
use Rattle.disk_journal.proofs.choice.choose.Goals as goal

pub returns-then-second-first-clause-choice : goal.returns-then-second-first-clause-choice
returns-then-second-first-clause-choice c = λ files zero_is one_is.
    let first = subst (λ (r : Reading). IsReading r (files Zero)) c.in-Records-Records.is-0 zero_is in
    let second = subst (λ (r : Reading). IsReading r (files One)) c.in-Records-Records.is-1 one_is in
    (first, IsBelow.older c.in-Records-Records.second.generation _ _ second c.if-second-first.true)

pub returns-else-second-first-clause-choice : goal.returns-else-second-first-clause-choice
returns-else-second-first-clause-choice c = λ files zero_is one_is.
    let first = subst (λ (r : Reading). IsReading r (files Zero)) c.in-Records-Records.is-0 zero_is in
    let second = subst (λ (r : Reading). IsReading r (files One)) c.in-Records-Records.is-1 one_is in
    (second, IsBelow.older c.in-Records-Records.first.generation _ _ first c.if-second-first.false)
