use Rattle.std.proofs.Common.{None}
use Rattle.mutation_queue.proofs.Tables.{changed}
use Rattle.mutation_queue.proofs.places.KeyPlaces.forget.Goals as goal

pub returns : goal.returns
returns c = λ q. rw (← c.self.view_is) (changed c.self.inside.lists.entries c.remove-places.new.self.entries c.args.key.now None q (c.remove-places.ensures.updates.0 q))
