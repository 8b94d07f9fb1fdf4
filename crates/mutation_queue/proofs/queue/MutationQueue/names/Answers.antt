use Rattle.std.proofs.Common.{◌∙◌, ap, subst}
use Rattle.std.specs.Option.{is_some}
use Rattle.mutation_queue.specs.Places.{last_of, listed}
use Rattle.mutation_queue.specs.Queue.{AreListed, Queue, named_keys}
use Rattle.mutation_queue.proofs.Listed.{listed_named}
use Rattle.mutation_queue.proofs.Placing.{among_exactly}
use Rattle.mutation_queue.proofs.queue.MutationQueue.names.Goals as goal

pub returns : goal.returns
returns c =
    let key = c.args.key.now in
    let are = subst (λ (s : Queue). AreListed s.batches s.places s.pushed) c.self.view_is c.self.invariant in
    among_exactly c.is_some.result (named_keys c.args.self.now.batches) key (c.is_some.ensures ∙ ap is_some c.last.ensures ∙ ap (λ (s : Queue). is_some (last_of (listed s.places key))) c.self.view_is ∙ listed_named c.args.self.now key are)
