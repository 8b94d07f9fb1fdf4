use Rattle.std.proofs.Common.{[], Result, Ok, Err, refl, sym, ap, subst, arith}
use Rattle.std.specs.Result.{OnOk}
use Rattle.mutation_queue.specs.Queue.{KeepsRoom, Queue}
use Rattle.mutation_queue.proofs.Listed.{listed_still}
use Rattle.mutation_queue.proofs.Writes.{room_at}
use Rattle.mutation_queue.proofs.queue.MutationQueue.reserve.Goals as goal

pub invariant_of-self-2 : goal.invariant_of-self-2
invariant_of-self-2 c = listed_still _ _ _ _ _ c.reserve.ensures.same c.reserve_all.ensures.same c.self.invariant

pub returns-clause-held : goal.returns-clause-held
returns-clause-held c = subst (λ (q : Queue). KeepsRoom 0 [] q (record { batches = c.reserve.new.self.batches; spare = c.reserve.new.self.spare; places = c.reserve_all.new.self; pushed = c.self.inside.pushed })) c.self.view_is (record { spare = omega (arith, c.reserve.ensures.spare); places = c.reserve_all.ensures.held; pushed = omega arith })

on_ok : {T E : Type 0} (r : Result T E) {P Q : Type 0} → (P → Q) → OnOk r P → OnOk r Q
on_ok (Ok x) goes p = goes p
on_ok (Err e) goes p = p

pub returns-clause-room : goal.returns-clause-room
returns-clause-room c = on_ok c.reserve_all.result
    (λ room. record {
      spare = c.in_ok-reserve.ensures.room;
      places = room_at _ _ _ _ refl (sym c.as_slice.ensures) room;
      within = omega (arith, c.if-self.false, c.self.ranges);
    })
    c.reserve_all.ensures.room

pub returns-clause-kept : goal.returns-clause-kept
returns-clause-kept c = λ room. c.reserve_all.ensures.kept (room_at _ _ _ _ (ap (λ (q : Queue). q.places) c.self.view_is) c.as_slice.ensures room.places)
