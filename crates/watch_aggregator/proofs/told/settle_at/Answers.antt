use Rattle.std.proofs.Common.{Ok, refl}
use Rattle.watch_aggregator.specs.Steps.{IsPlace}
use Rattle.watch_aggregator.specs.Told.{settle}
use Rattle.watch_aggregator.proofs.Mapped.{no_for_id, set_for_id}
use Rattle.watch_aggregator.proofs.told.settle_at.Goals as goal

pub returns-in-Ok : goal.returns-in-Ok
returns-in-Ok c = λ ascending.
    let ws = c.args.watched.now.items in
    let place : IsPlace ws c.args.id.now (Ok c.in-Ok.at) = rw (← c.as_slice.ensures.value) (c.in-Ok.ensures.place (rw c.as_slice.ensures.value ascending)) in
    set_for_id c.args.id.now settle ws c.in-Ok.at c.index_mut-one.result.now _ ascending place c.index_mut-one.ensures.value refl

pub returns-in-Err : goal.returns-in-Err
returns-in-Err c = λ ascending.
    let ws = c.args.watched.now.items in
    no_for_id c.args.id.now settle ws c.in-Err._at ascending (rw (← c.as_slice.ensures.value) (c.in-Err.ensures.place (rw c.as_slice.ensures.value ascending)))
