use Rattle.std.proofs.Common.{rules}
use Rattle.std.proofs.lemmas.Fn.{filter_same}
use Rattle.watch_aggregator.proofs.watched.sweep.Goals as goal

pub returns-in-Remove : goal.returns-in-Remove
returns-in-Remove c = rw c.in-Remove.is (filter_same _ _ _ (λ x b f' k. search rules) _ _ c.retain.ensures.filtered)
