use Rattle.std.proofs.Common.{◌∙◌, false, nat_lt, ap, subst, drop}
use Rattle.std.specs.Option.{option_map_or}
use Rattle.mutation_queue.specs.Places.{last_of, listed}
use Rattle.mutation_queue.specs.Queue.{AreListed, Queue, first_place, named_keys}
use Rattle.mutation_queue.proofs.Listed.{listed_behind}
use Rattle.mutation_queue.proofs.Placing.{among_exactly}
use Rattle.mutation_queue.proofs.queue.MutationQueue.names_behind.Goals as goal

pub returns-in-Some : goal.returns-in-Some
returns-in-Some c =
    let key = c.args.key.now in
    let at = c.first_place.result in
    let are = subst (λ (s : Queue). AreListed s.batches s.places s.pushed) c.self.view_is c.self.invariant in
    among_exactly (nat_lt at c.in-Some.place) (named_keys (drop 1 c.args.self.now.batches)) key (ap (λ o. option_map_or (λ p. nat_lt at p) o false) c.in-Some.ensures ∙ ap (λ (s : Queue). option_map_or (λ p. nat_lt at p) (last_of (listed s.places key)) false) c.self.view_is ∙ listed_behind c.args.self.now key at c.first_place.ensures are)

pub returns-in-None : goal.returns-in-None
returns-in-None c =
    let key = c.args.key.now in
    let at = first_place c.args.self.now in
    let are = subst (λ (s : Queue). AreListed s.batches s.places s.pushed) c.self.view_is c.self.invariant in
    among_exactly false (named_keys (drop 1 c.args.self.now.batches)) key (ap (λ o. option_map_or (λ p. nat_lt at p) o false) c.in-None.ensures ∙ ap (λ (s : Queue). option_map_or (λ p. nat_lt at p) (last_of (listed s.places key)) false) c.self.view_is ∙ listed_behind c.args.self.now key at (λ i. at) are)
