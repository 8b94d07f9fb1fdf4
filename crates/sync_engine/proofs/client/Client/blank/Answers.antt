use Rattle.std.proofs.Common.{sym, subst}
use Rattle.durable_state.specs.State.{IsReset}
use Rattle.sync_engine.proofs.Committed.{nothing_moves}
use Rattle.sync_engine.proofs.client.Client.blank.Goals as goal

pub returns-then-not-blanks-clause-files : goal.returns-then-not-blanks-clause-files
returns-then-not-blanks-clause-files g c = λ told. nothing_moves _ c.requires.whole (c.requires.stored told)

pub commit-requires-clause-fits : goal.commit-requires-clause-fits
commit-requires-clause-fits g c =
    let it = c.requires.fits c.if-not-blanks.false in
    (subst (IsReset c.args.self.now.store.state.rows) (sym c.from_vec-ids.ensures) (record { known = it.known; held = it.held }), it.left)
