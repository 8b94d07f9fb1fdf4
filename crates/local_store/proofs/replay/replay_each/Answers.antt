use Rattle.std.proofs.Common.{sym}
use Rattle.local_store.proofs.Replayed.{all_replayed, replays_first, unfit, unspelled}
use Rattle.local_store.proofs.replay.replay_each.Goals as goal

pub returns-in_default-clause-made : goal.returns-in_default-clause-made
returns-in_default-clause-made c = λ _. all_replayed (sym c.in_default.ensures) c.payloads.invariant

pub returns-in_default-2-clause-unfit : goal.returns-in_default-2-clause-unfit
returns-in_default-2-clause-unfit c = λ _.
    unspelled c.in-Some.payload.now (sym c.in-Some.ensures) (rw c.in_default-2.is at c.in_ok-commit.ensures.none) c.payloads.invariant

pub returns-then-not-fits-clause-unfit : goal.returns-then-not-fits-clause-unfit
returns-then-not-fits-clause-unfit c = λ _.
    let found = rw c.in-Some-2.is at c.in_ok-commit.ensures.found in
    unfit c.in-Some.payload.now c.in-Some-2.commit (sym c.in-Some.ensures) found.0 found.1 (c.in_ok-fits.ensures.unfit c.if-not-fits.true) c.payloads.invariant

pub payloads-preserved : goal.payloads-preserved
payloads-preserved c =
    let found = rw c.in-Some-2.is at c.in_ok-commit.ensures.found in
    let made = c.in_ok-fits.ensures.made c.if-not-fits.false in
    replays_first c.in-Some.payload.now c.in-Some-2.commit (sym c.in-Some.ensures) c.in_ok-rest.ensures found.0 found.1 made.0 made.1 c.payloads.invariant
