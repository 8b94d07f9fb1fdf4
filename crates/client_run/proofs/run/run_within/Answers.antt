use Rattle.std.proofs.Common.{[], inr, refl, subst, List, ℕ}
use Rattle.document_keys.specs.Names.{Root}
use Rattle.client_run.specs.Output.{called}
use Rattle.client_run.specs.Run.{Ran, Kept}
use Rattle.client_run.proofs.Began.{disk_first, memory_first, ran_from, opened_stands, opens_keeps, kept_is_store, causes_from, completed}
use Rattle.local_store.proofs.Opened.{refused_is_none, no_store_stays}
use Rattle.client_run.proofs.Agreeing.{agrees}
use Rattle.client_run.proofs.run.run_within.Goals as goal

pub returns-in-Err-DiskFault-clause-run : goal.returns-in-Err-DiskFault-clause-run
returns-in-Err-DiskFault-clause-run g c = λ tells told s finds.
    let settled = rw c.in-Err-DiskFault.field-0-is at c.in-Err-DiskFault.ensures.settled told in
    disk_first g.H.Host.view (λ h o x left. g.met.H.Host.only_now h o x told left) _ _ _ _ _ (g.H.Host.view c.args.host.now) (g.H.Host.view c.open.new.host) c.requires.budget c.in-Err-DiskFault.ensures.out.out finds settled refl

pub returns-in-Err-NoMemory-clause-run : goal.returns-in-Err-NoMemory-clause-run
returns-in-Err-NoMemory-clause-run g c = λ tells told s finds.
    let settled = rw c.in-Err-NoMemory.field-0-is at c.in-Err-NoMemory.ensures.settled told in
    memory_first g.H.Host.view (λ h o x left. g.met.H.Host.only_now h o x told left) _ _ _ _ _ (g.H.Host.view c.args.host.now) (g.H.Host.view c.open.new.host) c.requires.budget c.in-Err-NoMemory.ensures.out.out finds (inr settled) refl

pub returns-in-Err-NotAStore-clause-run : goal.returns-in-Err-NotAStore-clause-run
returns-in-Err-NotAStore-clause-run g c = λ tells told s finds.
    let refuses = rw c.in-Err-NotAStore.field-0-is at c.in-Err-NotAStore.ensures.refused told in
    absurd (refused_is_none _ _ refuses.0 s finds)

pub returns-in-Err-NotAStore-clause-not_a_store : goal.returns-in-Err-NotAStore-clause-not_a_store
returns-in-Err-NotAStore-clause-not_a_store g c = λ is. record {
  refused = λ told. let refuses = rw c.in-Err-NotAStore.field-0-is at c.in-Err-NotAStore.ensures.refused told in (_, refuses.0);
  no_store = λ told. let refuses = rw c.in-Err-NotAStore.field-0-is at c.in-Err-NotAStore.ensures.refused told in refused_is_none _ _ refuses.0;
  stays = λ told. let refuses = rw c.in-Err-NotAStore.field-0-is at c.in-Err-NotAStore.ensures.refused told in refuses.1;
  out = c.in-Err-NotAStore.ensures.out.out;
}

pub returns-clause-run : goal.returns-clause-run
returns-clause-run g c = λ tells told s finds.
    let ran = c.serve-status.ensures.run tells told s (opened_stands c.in-Ok.ensures.stands (c.in-Ok.ensures.found told) finds) in
    ran_from g.H.Host.view (λ h o x left. g.met.H.Host.only_now h o x told left) _ _ _ refl c.in-Ok.ensures.out.out finds (c.in-Ok.ensures.settled told)
    (subst (λ (o : List ℕ). Ran (called c.args.root (g.S.Source.left c.args.source.now) s c.args.budget g.H.Host.tells_out o) c.serve-status.result (g.S.Source.left c.serve-status.new.source) (g.S.Source.answered c.args.source.now) (g.S.Source.answered c.serve-status.new.source) (g.H.Host.view c.open.new.host) (g.H.Host.view c.serve-status.new.host)) c.in-Ok.ensures.out.out (subst (λ (r : Root). Ran (called r (g.S.Source.left c.args.source.now) s c.args.budget g.H.Host.tells_out (g.H.Host.view c.open.new.host).out) c.serve-status.result (g.S.Source.left c.serve-status.new.source) (g.S.Source.answered c.args.source.now) (g.S.Source.answered c.serve-status.new.source) (g.H.Host.view c.open.new.host) (g.H.Host.view c.serve-status.new.host)) c.in-Ok.ensures.root ran))

pub returns-in-Err-DiskFault-clause-agreement : goal.returns-in-Err-DiskFault-clause-agreement
returns-in-Err-DiskFault-clause-agreement g c = λ tells told s finds. agrees _ _ _ _ _ finds (returns-in-Err-DiskFault-clause-run g c tells told s finds)

pub returns-in-Err-NoMemory-clause-agreement : goal.returns-in-Err-NoMemory-clause-agreement
returns-in-Err-NoMemory-clause-agreement g c = λ tells told s finds. agrees _ _ _ _ _ finds (returns-in-Err-NoMemory-clause-run g c tells told s finds)

pub returns-in-Err-NotAStore-clause-agreement : goal.returns-in-Err-NotAStore-clause-agreement
returns-in-Err-NotAStore-clause-agreement g c = λ tells told s finds. agrees _ _ _ _ _ finds (returns-in-Err-NotAStore-clause-run g c tells told s finds)

pub returns-clause-agreement : goal.returns-clause-agreement
returns-clause-agreement g c = λ tells told s finds. agrees _ _ _ _ _ finds (returns-clause-run g c tells told s finds)

pub returns-clause-kept : goal.returns-clause-kept
returns-clause-kept g c = λ tells told s finds.
    subst (λ (o : List ℕ). Kept c.serve-status.result (called c.args.root (g.S.Source.left c.args.source.now) s c.args.budget g.H.Host.tells_out o) (g.H.Host.view c.serve-status.new.host).bytes) c.in-Ok.ensures.out.out
    (subst (λ (r : Root). Kept c.serve-status.result (called r (g.S.Source.left c.args.source.now) s c.args.budget g.H.Host.tells_out (g.H.Host.view c.open.new.host).out) (g.H.Host.view c.serve-status.new.host).bytes) c.in-Ok.ensures.root (c.serve-status.ensures.kept tells told s (opened_stands c.in-Ok.ensures.stands (c.in-Ok.ensures.found told) finds)))

pub returns-clause-no_store : goal.returns-clause-no_store
returns-clause-no_store g c = λ told none. absurd (none _ (c.in-Ok.ensures.found told))

pub returns-clause-untaken : goal.returns-clause-untaken
returns-clause-untaken g c = λ told none. absurd (none _ (c.in-Ok.ensures.found told))

pub returns-in-Err-DiskFault-clause-keeps : goal.returns-in-Err-DiskFault-clause-keeps
returns-in-Err-DiskFault-clause-keeps g c = λ told keeps. opens_keeps (c.in-Err-DiskFault.ensures.files told) (g.met.H.Host.may_stay _ told) keeps

pub returns-in-Err-NotAStore-clause-keeps : goal.returns-in-Err-NotAStore-clause-keeps
returns-in-Err-NotAStore-clause-keeps g c = λ told keeps. opens_keeps (c.in-Err-NotAStore.ensures.files told) (g.met.H.Host.may_stay _ told) keeps

pub returns-in-Err-NoMemory-clause-keeps : goal.returns-in-Err-NoMemory-clause-keeps
returns-in-Err-NoMemory-clause-keeps g c = λ told keeps. opens_keeps (c.in-Err-NoMemory.ensures.files told) (g.met.H.Host.may_stay _ told) keeps

pub returns-in-Err-DiskFault-clause-no_store : goal.returns-in-Err-DiskFault-clause-no_store
returns-in-Err-DiskFault-clause-no_store g c = λ told none. record { answer = tt; stays = no_store_stays none (c.in-Err-DiskFault.ensures.files told); out = c.in-Err-DiskFault.ensures.out.out }

pub returns-in-Err-NotAStore-clause-no_store : goal.returns-in-Err-NotAStore-clause-no_store
returns-in-Err-NotAStore-clause-no_store g c = λ told none. record { answer = tt; stays = no_store_stays none (c.in-Err-NotAStore.ensures.files told); out = c.in-Err-NotAStore.ensures.out.out }

pub returns-in-Err-NoMemory-clause-no_store : goal.returns-in-Err-NoMemory-clause-no_store
returns-in-Err-NoMemory-clause-no_store g c = λ told none. record { answer = tt; stays = no_store_stays none (c.in-Err-NoMemory.ensures.files told); out = c.in-Err-NoMemory.ensures.out.out }

pub returns-in-Err-DiskFault-clause-completes : goal.returns-in-Err-DiskFault-clause-completes
returns-in-Err-DiskFault-clause-completes g c = λ tells told keeps few none.
    let counts = rw c.in-Err-DiskFault.field-0-is at c.in-Err-DiskFault.ensures.counts in
    absurd (none.disk (counts.failed refl))

pub returns-in-Err-NotAStore-clause-completes : goal.returns-in-Err-NotAStore-clause-completes
returns-in-Err-NotAStore-clause-completes g c = λ tells told keeps few none.
    let refuses = rw c.in-Err-NotAStore.field-0-is at c.in-Err-NotAStore.ensures.refused told in
    absurd (kept_is_store keeps (refused_is_none _ _ refuses.0))

pub returns-clause-completes : goal.returns-clause-completes
returns-clause-completes g c = λ tells told keeps few none.
    let causes = causes_from (c.in-Ok.ensures.counts.stays (λ is. cc)) c.in-Ok.ensures.out.faults c.serve-status.ensures.cause in
    completed c.serve-status.result (c.serve-status.ensures.run tells told _ c.in-Ok.ensures.stands) causes few none

pub returns-clause-cause : goal.returns-clause-cause
returns-clause-cause g c = causes_from (c.in-Ok.ensures.counts.stays (λ is. cc)) c.in-Ok.ensures.out.faults c.serve-status.ensures.cause

pub returns-in-Err-NotAStore-clause-never_kept : goal.returns-in-Err-NotAStore-clause-never_kept
returns-in-Err-NotAStore-clause-never_kept g c = λ told keeps.
    let refuses = rw c.in-Err-NotAStore.field-0-is at c.in-Err-NotAStore.ensures.refused told in
    absurd (kept_is_store keeps (refused_is_none _ _ refuses.0))

pub serve-status-requires-clause-standing : goal.serve-status-requires-clause-standing
serve-status-requires-clause-standing g c = (c.in-Ok.client.store.state, ([], c.in-Ok.ensures.stands))
