use Rattle.std.proofs.Common.{subst, sym}
use Rattle.disk_journal.specs.Place.{Place}
use Rattle.disk_journal.specs.File.{Gives, GoesOn}
use Rattle.disk_journal.proofs.Appending.{seen_as}
use Rattle.disk_journal.proofs.Openings.{never_blank, opens_none, opens_after, opens_new, counted_before, fresh_as}
use Rattle.disk_journal.proofs.Settling.{settled_opens, settles}
use Rattle.disk_journal.proofs.journal.Journal.open.Goals as goal

pub returns-in_err-zero-clause-files : goal.returns-in_err-zero-clause-files
returns-in_err-zero-clause-files g c told = opens_none (c.look.ensures.files told)

pub returns-in_err-journal-in-Fresh-clause-files : goal.returns-in_err-journal-in-Fresh-clause-files
returns-in_err-journal-in-Fresh-clause-files g c told =
    let seen = c.in_ok-zero.ensures.readings told in
    let blank = c.in-Fresh.ensures.choice (g.H.Host.view c.look.new.host).bytes seen.zero_is seen.one_is in
    opens_after c.look.ensures.out.out (c.look.ensures.files told) (opens_new (fresh_as blank.0 blank.1 seen.on_disk) (c.format.ensures.files told))

pub returns-in-Foreign-clause-files : goal.returns-in-Foreign-clause-files
returns-in-Foreign-clause-files g c told = opens_none (c.look.ensures.files told)

pub returns-in_ok-journal-in-Fresh-clause-files : goal.returns-in_ok-journal-in-Fresh-clause-files
returns-in_ok-journal-in-Fresh-clause-files g c told =
    let seen = c.in_ok-zero.ensures.readings told in
    let blank = c.in-Fresh.ensures.choice (g.H.Host.view c.look.new.host).bytes seen.zero_is seen.one_is in
    opens_after c.look.ensures.out.out (c.look.ensures.files told) (opens_new (fresh_as blank.0 blank.1 seen.on_disk) (c.format.ensures.files told))

pub returns-in-Counting-clause-found : goal.returns-in-Counting-clause-found
returns-in-Counting-clause-found g c told =
    let seen = c.in_ok-zero.ensures.readings told in
    let counts = c.in-Counting.ensures.choice (g.H.Host.view c.look.new.host).bytes seen.zero_is seen.one_is in
    subst (λ (place : Place). Gives (g.H.Host.view c.args.host.now).bytes place.generation c.in-Counting.records.payloads) (sym c.at-journal.ensures) (Gives.counted c.in-Counting.file (counted_before (c.look.ensures.files told) counts.0 counts.1))

pub returns-in-Counting-clause-goes_on : goal.returns-in-Counting-clause-goes_on
returns-in-Counting-clause-goes_on g c told =
    let seen = c.in_ok-zero.ensures.readings told in
    let counts = c.in-Counting.ensures.choice (g.H.Host.view c.look.new.host).bytes seen.zero_is seen.one_is in
    GoesOn.same c.in-Counting.records.generation _ (counted_before (c.look.ensures.files told) counts.0 counts.1)

pub returns-in-Counting-clause-open : goal.returns-in-Counting-clause-open
returns-in-Counting-clause-open g c told =
    let seen = c.in_ok-zero.ensures.readings told in
    let counts = c.in-Counting.ensures.choice (g.H.Host.view c.look.new.host).bytes seen.zero_is seen.one_is in
    seen_as _ _ _ c.at-journal.ensures (record { counts = counts.0; below = counts.1; on_disk = seen.on_disk })

pub returns-in-Counting-clause-files : goal.returns-in-Counting-clause-files
returns-in-Counting-clause-files g c told = opens_none (c.look.ensures.files told)

pub returns-in-Counting-clause-first : goal.returns-in-Counting-clause-first
returns-in-Counting-clause-first g c told are =
    let seen = c.in_ok-zero.ensures.readings told in
    let counts = c.in-Counting.ensures.choice (g.H.Host.view c.look.new.host).bytes seen.zero_is seen.one_is in
    absurd (never_blank (counted_before (c.look.ensures.files told) counts.0 counts.1) are)

pub returns-in_err-journal-in-Fresh-clause-settled : goal.returns-in_err-journal-in-Fresh-clause-settled
returns-in_err-journal-in-Fresh-clause-settled g c told =
    let seen = c.in_ok-zero.ensures.readings told in
    let blank = c.in-Fresh.ensures.choice (g.H.Host.view c.look.new.host).bytes seen.zero_is seen.one_is in
    settles g.H.Host.view _ (settled_opens g.H.Host.view c.look.ensures.out.out (c.look.ensures.files told).bytes (c.in_ok-zero.ensures.settled told) (opens_new (fresh_as blank.0 blank.1 seen.on_disk) (c.format.ensures.files told)))

pub returns-in_ok-journal-in-Fresh-clause-settled : goal.returns-in_ok-journal-in-Fresh-clause-settled
returns-in_ok-journal-in-Fresh-clause-settled g c told =
    let seen = c.in_ok-zero.ensures.readings told in
    let blank = c.in-Fresh.ensures.choice (g.H.Host.view c.look.new.host).bytes seen.zero_is seen.one_is in
    settled_opens g.H.Host.view c.look.ensures.out.out (c.look.ensures.files told).bytes (c.in_ok-zero.ensures.settled told) (opens_new (fresh_as blank.0 blank.1 seen.on_disk) (c.format.ensures.files told))
