use Rattle.std.proofs.Common.{refl, arith}
use Rattle.mutation_queue.proofs.queue.MutationQueue.push.Goals as goal

pub returns-clause-held : goal.returns-clause-held
returns-clause-held c = record {
  spare = omega (arith, c.reserve.ensures.held.spare, c.push_reserved.ensures.held.spare);
  places = λ q none had. c.push_reserved.ensures.held.places q none (c.reserve.ensures.held.places q refl had);
  pushed = omega (arith, c.reserve.ensures.held.pushed, c.push_reserved.ensures.held.pushed);
}
