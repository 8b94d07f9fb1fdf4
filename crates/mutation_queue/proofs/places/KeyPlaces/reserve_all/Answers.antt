use Rattle.std.proofs.Common.{◌∙◌, IsTrue, refl, sym, subst}
use Rattle.std.proofs.lemmas.List.{take_all}
use Rattle.mutation_queue.specs.Places.{has_room}
use Rattle.mutations.specs.Written.{written_key}
use Rattle.mutation_queue.proofs.Writes.{room_more}
use Rattle.mutation_queue.proofs.places.KeyPlaces.reserve_all.Goals as goal

pub returns-in_err-reserve-clause-same : goal.returns-in_err-reserve-clause-same
returns-in_err-reserve-clause-same c = λ q. c.reserve.ensures.same q ∙ c.loop-write.invariant.same q

pub returns-in_err-reserve-clause-held : goal.returns-in_err-reserve-clause-held
returns-in_err-reserve-clause-held c = λ q none room. c.reserve.ensures.held q refl (c.loop-write.invariant.held q refl room)

pub returns-in_err-reserve-clause-kept : goal.returns-in_err-reserve-clause-kept
returns-in_err-reserve-clause-kept c = λ had.
    let room = c.loop-write.invariant.held _ refl (subst (λ w. IsTrue (has_room c.args.self.now (written_key w))) (sym c.write-item.is) (had c.loop-write.write-index c.write-item.result c.loop-write-test.true)) in
    let ok = rw c.in_err-reserve.was at (c.reserve.ensures.kept (rw c.key.ensures room)) in
    cc

pub loop-write-preserved : goal.loop-write-preserved
loop-write-preserved c = record {
  same = λ q. c.reserve.ensures.same q ∙ c.loop-write.invariant.same q;
  held = λ q none room. c.reserve.ensures.held q refl (c.loop-write.invariant.held q refl room);
  room = room_more c.loop-write.self _ c.args.writes.now c.loop-write.write-index c.write-item.result c.loop-write-test.true c.write-item.is (λ q. c.reserve.ensures.held q refl) c.loop-write.invariant.room (rw c.key.ensures at c.in_ok-reserve.ensures.room);
}

pub returns-clause-room : goal.returns-clause-room
returns-clause-room c = rw (take_all _ _ c.loop-write-test.false) at c.loop-write.invariant.room
