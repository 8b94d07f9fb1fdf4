use Rattle.std.proofs.Common.{Ok, refl}
use Rattle.watch_aggregator.specs.Steps.{IsPlace}
use Rattle.watch_aggregator.specs.Told.{take_back}
use Rattle.watch_aggregator.proofs.Documents.{taken_back}
use Rattle.watch_aggregator.proofs.Mapped.{no_for_id, set_for_id}
use Rattle.watch_aggregator.proofs.told.take_back_at.Goals as goal

pub returns-then-one : goal.returns-then-one
returns-then-one c = λ ascending.
    let ws = c.args.watched.now.items in
    let place : IsPlace ws c.args.id.now (Ok c.in-Ok.at) = rw (← c.as_slice.ensures.value) (c.in-Ok.ensures.place (rw c.as_slice.ensures.value ascending)) in
    set_for_id c.args.id.now (take_back c.args.key.now) ws c.in-Ok.at c.index_mut-one.result.now _ ascending place c.index_mut-one.ensures.value (taken_back c.args.key.now c.index_mut-one.result.now c.remove.new.self c.if-one.true c.remove.ensures.exact)

pub returns-else-one : goal.returns-else-one
returns-else-one c = λ ascending.
    let ws = c.args.watched.now.items in
    let place : IsPlace ws c.args.id.now (Ok c.in-Ok.at) = rw (← c.as_slice.ensures.value) (c.in-Ok.ensures.place (rw c.as_slice.ensures.value ascending)) in
    set_for_id c.args.id.now (take_back c.args.key.now) ws c.in-Ok.at c.index_mut-one.result.now _ ascending place c.index_mut-one.ensures.value (rw c.if-one.false refl)

pub returns-in-Err : goal.returns-in-Err
returns-in-Err c = λ ascending.
    let ws = c.args.watched.now.items in
    no_for_id c.args.id.now (take_back c.args.key.now) ws c.in-Err._at ascending (rw (← c.as_slice.ensures.value) (c.in-Err.ensures.place (rw c.as_slice.ensures.value ascending)))
