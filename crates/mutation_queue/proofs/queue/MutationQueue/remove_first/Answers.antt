use Rattle.std.proofs.Common.{◌∙◌, sym, ap, subst}
use Rattle.mutation_queue.specs.Places.{FreesKeys, KeepsOtherRoom}
use Rattle.mutation_queue.specs.Queue.{first_place}
use Rattle.mutation_queue.proofs.Listed.{first_keys, listed_later, listed_pop}
use Rattle.mutation_queue.proofs.queue.MutationQueue.remove_first.Goals as goal

pub remove_all-requires : goal.remove_all-requires
remove_all-requires c = listed_later _ _ _ _ (c.first_place-place.ensures ∙ ap first_place (sym c.self.view_is)) c.self.invariant

pub invariant_of-self-2 : goal.invariant_of-self-2
invariant_of-self-2 c = listed_pop _ _ c.in_ok-first.first _ _ _ _ _ c.as_slice.ensures c.in_ok-first.ensures.taken (c.first_place-place.ensures ∙ ap first_place (sym c.self.view_is)) c.remove_all.ensures.places c.self.invariant

pub returns-clause-places : goal.returns-clause-places
returns-clause-places c = rw (← c.self.view_is) (subst (λ keys. KeepsOtherRoom keys c.self.inside.places c.remove_all.new.self) (first_keys _ _ c.in_ok-first.first _ c.as_slice.ensures c.in_ok-first.ensures.taken) c.remove_all.ensures.held)

pub returns-clause-gone : goal.returns-clause-gone
returns-clause-gone c = rw (← c.self.view_is) (subst (λ keys. FreesKeys keys c.remove_all.new.self) (first_keys _ _ c.in_ok-first.first _ c.as_slice.ensures c.in_ok-first.ensures.taken) c.remove_all.ensures.gone)
