use Rattle.std.proofs.Common.{◌∙◌}
use Rattle.mutation_queue.proofs.Tables.{found}
use Rattle.mutation_queue.proofs.places.KeyPlaces.of.Goals as goal

pub returns : goal.returns
returns c = rw (← c.self.view_is) (c.get.ensures.value ∙ found c.self.inside.lists.entries c.args.key.now)
