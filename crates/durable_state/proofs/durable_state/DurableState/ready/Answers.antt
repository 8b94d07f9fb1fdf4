use Rattle.std.proofs.Common.{◌≡◌, ◌∙◌, refl, sym, ap, subst}
use Rattle.std.specs.List.{All}
use Rattle.std.proofs.lemmas.Result.{IfOk-weaker}
use Rattle.record_codec.specs.declared.commit.Commit.{Commit}
use Rattle.durable_state.specs.Ready.{state_by}
use Rattle.durable_state.specs.Rows.{HasRow}
use Rattle.durable_state.specs.State.{Fits, committed}
use Rattle.durable_state.specs.Tables.{state_in}
use Rattle.durable_state.specs.declared.ready.Ready.{Ready}
use Rattle.durable_state.specs.declared.ready.Step.TheVariants.{Blank}
use Rattle.durable_state.proofs.Making.{ready_alone}
use Rattle.durable_state.proofs.durable_state.DurableState.ready.Goals as goal

pub returns-in-Acknowledge-clause-moves : goal.returns-in-Acknowledge-clause-moves
returns-in-Acknowledge-clause-moves c =
    IfOk-weaker c.ready_answer.result _ (λ (ready : Ready). state_by (state_in c.args.self.now) ready ≡ committed (state_in c.args.self.now) c.args.commit)
    (λ ready moves. moves c.in-Acknowledge.batch ∙ ap (committed (state_in c.args.self.now)) (sym c.in-Acknowledge.is)) c.ready_answer.ensures.moves

pub returns-in-Allocate-clause-moves : goal.returns-in-Allocate-clause-moves
returns-in-Allocate-clause-moves c =
    IfOk-weaker c.ready_target.result _ (λ (ready : Ready). state_by (state_in c.args.self.now) ready ≡ committed (state_in c.args.self.now) c.args.commit)
    (λ ready moves. moves c.in-Allocate.id ∙ ap (committed (state_in c.args.self.now)) (sym c.in-Allocate.is)) c.ready_target.ensures.moves

pub returns-in-Reset-clause-ready : goal.returns-in-Reset-clause-ready
returns-in-Reset-clause-ready c =
    let fits = subst (λ (m : Commit). Fits (state_in c.args.self.now) m) c.in-Reset.is c.requires.fits in
    ready_alone _ _ (Blank c.into_vec.result) fits.1 refl c.alone.ensures.step c.alone.ensures.changes c.alone.ensures.dropped c.alone.ensures.overlays c.alone.ensures.lifted
    (subst (All (HasRow c.args.self.now.targets.rows)) (sym c.into_vec.ensures) fits.0.known)
