use Rattle.std.proofs.Common.{◌-◌, ◌∙◌, ap}
use Rattle.std.specs.List.{slice_get}
use Rattle.mutation_queue.proofs.Placing.{last_at}
use Rattle.mutation_queue.proofs.place_list.PlaceList.last.Goals as goal

pub returns : goal.returns
returns c = c.get.ensures ∙ ap (λ n. slice_get c.args.self.now.at (n - 1)) c.len-count.ensures ∙ last_at c.args.self.now.at
