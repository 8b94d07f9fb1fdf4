use Rattle.std.proofs.Common.{arith, refl, inl, subst}
use Rattle.client_run.specs.Output.{called}
use Rattle.client_run.specs.Run.{Ran, Kept}
use Rattle.document_keys.specs.Names.{Root}
use Rattle.client_run.proofs.Served.{stays_none}
use Rattle.client_run.proofs.Agreeing.{agrees}
use Rattle.client_run.proofs.Began.{memory_first}
use Rattle.client_run.proofs.Wording.{asked_once}
use Rattle.client_run.proofs.client.run_client.Goals as goal

pub returns-in_default-clause-run : goal.returns-in_default-clause-run
returns-in_default-clause-run g c = λ tells told root asks s finds. memory_first g.H.Host.view (λ h o x left. g.met.H.Host.only_now h o x told left) _ _ _ _ _ _ _ (omega arith) refl finds (inl (stays_none _)) refl

pub returns-in_default-asked-clause-run : goal.returns-in_default-asked-clause-run
returns-in_default-asked-clause-run g c = λ tells told root asks. absurd (rw c.in_default-asked.is at c.in-Ok.ensures root asks)

pub returns-in_default-clause-no_store : goal.returns-in_default-clause-no_store
returns-in_default-clause-no_store g c = λ told root asks none. record { answer = tt; stays = stays_none _; out = refl }

pub returns-in_default-asked-clause-no_store : goal.returns-in_default-asked-clause-no_store
returns-in_default-asked-clause-no_store g c = λ told root asks none. absurd (rw c.in_default-asked.is at c.in-Ok.ensures root asks)

pub returns-in_default-asked-clause-completes : goal.returns-in_default-asked-clause-completes
returns-in_default-asked-clause-completes g c = λ tells told root asks keeps few none. absurd (rw c.in_default-asked.is at c.in-Ok.ensures root asks)

pub returns-clause-run : goal.returns-clause-run
returns-clause-run g c = λ tells told root asks s finds.
    let same = asked_once _ c.in-Some.root root (rw c.in-Some.is at c.in-Ok.ensures) asks in
    subst (λ (r : Root). Ran (called r (g.S.Source.left c.args.source.now) s 4294967296 g.H.Host.tells_out (g.H.Host.view c.args.host.now).out) c.run_within.result (g.S.Source.left c.run_within.new.source) (g.S.Source.answered c.args.source.now) (g.S.Source.answered c.run_within.new.source) (g.H.Host.view c.args.host.now) (g.H.Host.view c.run_within.new.host)) same (c.run_within.ensures.run tells told s finds)

pub returns-in_default-clause-agreement : goal.returns-in_default-clause-agreement
returns-in_default-clause-agreement g c = λ tells told root asks s finds. agrees _ _ _ _ _ finds (returns-in_default-clause-run g c tells told root asks s finds)

pub returns-in_default-asked-clause-agreement : goal.returns-in_default-asked-clause-agreement
returns-in_default-asked-clause-agreement g c = λ tells told root asks. absurd (rw c.in_default-asked.is at c.in-Ok.ensures root asks)

pub returns-clause-agreement : goal.returns-clause-agreement
returns-clause-agreement g c = λ tells told root asks s finds. agrees _ _ _ _ _ finds (returns-clause-run g c tells told root asks s finds)

pub returns-clause-kept : goal.returns-clause-kept
returns-clause-kept g c = λ tells told root asks s finds.
    let same = asked_once _ c.in-Some.root root (rw c.in-Some.is at c.in-Ok.ensures) asks in
    subst (λ (r : Root). Kept c.run_within.result (called r (g.S.Source.left c.args.source.now) s 4294967296 g.H.Host.tells_out (g.H.Host.view c.args.host.now).out) (g.H.Host.view c.run_within.new.host).bytes) same (c.run_within.ensures.kept tells told s finds)

pub returns-clause-no_store : goal.returns-clause-no_store
returns-clause-no_store g c = λ told root asks none. c.run_within.ensures.no_store told none
