use Rattle.std.proofs.Common.{◌+◌, ap, subst, arith}
use Rattle.mutation_queue.specs.Places.{KeepsOtherRoom}
use Rattle.mutation_queue.specs.Queue.{KeepsRoom, Queue, keys_of}
use Rattle.mutation_queue.proofs.Listed.{listed_before, listed_push}
use Rattle.mutation_queue.proofs.Writes.{room_at}
use Rattle.mutation_queue.proofs.queue.MutationQueue.push_reserved.Goals as goal

pub push_all-requires-clause-room : goal.push_all-requires-clause-room
push_all-requires-clause-room c = room_at _ _ _ _ (ap (λ (q : Queue). q.places) c.self.view_is) c.as_slice.ensures c.requires.places

pub push_all-requires-clause-before : goal.push_all-requires-clause-before
push_all-requires-clause-before c = listed_before _ _ _ c.self.invariant

pub invariant_of-self : goal.invariant_of-self
invariant_of-self c = listed_push _ _ c.args.batch _ _ _ _ c.as_slice.ensures c.push_reserved.ensures.pushed c.push_all.ensures.places c.self.invariant

pub returns-clause-held : goal.returns-clause-held
returns-clause-held c = subst (λ (q : Queue). KeepsRoom 1 (keys_of c.args.batch.writes) q (record { batches = c.push_reserved.new.self.batches; spare = c.push_reserved.new.self.spare; places = c.push_all.new.self; pushed = c.self.inside.pushed + 1 })) c.self.view_is (record {
  spare = omega (arith, c.push_reserved.ensures.spare);
  places = subst (λ ws. KeepsOtherRoom (keys_of ws) c.self.inside.places c.push_all.new.self) c.as_slice.ensures c.push_all.ensures.held;
  pushed = omega arith;
})
