use Rattle.std.proofs.Common.{refl, subst, sym}
use Rattle.sync_engine.specs.Requesting.{AreDue}
use Rattle.sync_engine.proofs.Outgoing.{asked_for}
use Rattle.sync_engine.proofs.client.Client.ask.Goals as goal

pub returns-clause-asks : goal.returns-clause-asks
returns-clause-asks c = λ opened.
    asked_for c.replace-due.result c.args.changed.now c.as_slice.result.now c.resets_of.result.now c.self.view_is
    (record { root = refl; store = refl; listeners = refl; limbo = refl; writes = refl; spent = refl; opening = refl; online = refl; current = refl })
    refl c.replace-due.ensures.value (subst (AreDue _ c.replace-due.result c.args.changed.now) (sym c.as_slice.ensures.value) c.in_ok-targets.ensures) c.resets_of.ensures c.in_ok-request.ensures.requests
