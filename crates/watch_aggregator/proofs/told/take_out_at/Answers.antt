use Rattle.std.proofs.Common.{Ok, refl}
use Rattle.watch_aggregator.specs.Steps.{IsPlace}
use Rattle.watch_aggregator.specs.Told.{take_out}
use Rattle.watch_aggregator.proofs.Mapped.{no_for_id, set_for_id}
use Rattle.watch_aggregator.proofs.told.take_out_at.Goals as goal

pub returns-then-one : goal.returns-then-one
returns-then-one c = λ ascending.
    let ws = c.args.watched.now.items in
    let place : IsPlace ws c.args.id.now (Ok c.in-Ok.at) = rw (← c.as_slice.ensures.value) (c.in-Ok.ensures.place (rw c.as_slice.ensures.value ascending)) in
    set_for_id c.args.id.now (take_out c.args.key.now) ws c.in-Ok.at c.index_mut-one.result.now _ ascending place c.index_mut-one.ensures.value (rw (c.if-one.true, c.remove.ensures.exact) refl)

pub returns-else-one : goal.returns-else-one
returns-else-one c = λ ascending.
    let ws = c.args.watched.now.items in
    let place : IsPlace ws c.args.id.now (Ok c.in-Ok.at) = rw (← c.as_slice.ensures.value) (c.in-Ok.ensures.place (rw c.as_slice.ensures.value ascending)) in
    set_for_id c.args.id.now (take_out c.args.key.now) ws c.in-Ok.at c.index_mut-one.result.now _ ascending place c.index_mut-one.ensures.value (rw c.if-one.false refl)

pub returns-in-Err : goal.returns-in-Err
returns-in-Err c = λ ascending.
    let ws = c.args.watched.now.items in
    no_for_id c.args.id.now (take_out c.args.key.now) ws c.in-Err._at ascending (rw (← c.as_slice.ensures.value) (c.in-Err.ensures.place (rw c.as_slice.ensures.value ascending)))
