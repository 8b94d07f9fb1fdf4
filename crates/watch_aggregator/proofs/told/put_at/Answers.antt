use Rattle.std.proofs.Common.{Ok}
use Rattle.watch_aggregator.specs.Steps.{IsPlace}
use Rattle.watch_aggregator.specs.Told.{put}
use Rattle.watch_aggregator.proofs.Mapped.{no_for_id, set_for_id}
use Rattle.watch_aggregator.proofs.told.put_at.Goals as goal

pub returns-in_ok-put_one-in-Ok-clause-done : goal.returns-in_ok-put_one-in-Ok-clause-done
returns-in_ok-put_one-in-Ok-clause-done c = λ ascending.
    let ws = c.args.watched.now.items in
    let place : IsPlace ws c.args.id.now (Ok c.in-Ok.at) = rw (← c.as_slice.ensures.value) (c.in-Ok.ensures.place (rw c.as_slice.ensures.value ascending)) in
    set_for_id c.args.id.now (put c.args.change.now) ws c.in-Ok.at c.index_mut-one.result.now _ ascending place c.index_mut-one.ensures.value (c.in_ok-put_one-in-Ok.ensures.done)

pub returns-in-Err-clause-done : goal.returns-in-Err-clause-done
returns-in-Err-clause-done c = λ ascending.
    let ws = c.args.watched.now.items in
    no_for_id c.args.id.now (put c.args.change.now) ws c.in-Err._at ascending (rw (← c.as_slice.ensures.value) (c.in-Err.ensures.place (rw c.as_slice.ensures.value ascending)))
