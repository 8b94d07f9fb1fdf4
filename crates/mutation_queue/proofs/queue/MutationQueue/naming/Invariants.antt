use Rattle.std.proofs.Common.{◌≡◌, map, take}
use Rattle.std.specs.List.{filter_map}
use Rattle.mutation_queue.specs.Queue.{batch_past}
use Rattle.mutation_queue.proofs.queue.MutationQueue.naming.Given as goal

abbrev pub invariant-loop-index : goal.invariant-loop-index
invariant-loop-index l = map (λ b. b.now) l.found.items ≡ filter_map (batch_past l.past l.self) (take l.index l.places.at)
