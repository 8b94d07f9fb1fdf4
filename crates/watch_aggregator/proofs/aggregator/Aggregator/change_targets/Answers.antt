use Rattle.listen_protocol.specs.Calls.{is_remove}
use Rattle.watch_aggregator.proofs.Ended.{swept_after}
use Rattle.watch_aggregator.proofs.Targets.{changes_stand}
use Rattle.watch_aggregator.proofs.aggregator.Aggregator.change_targets.Goals as goal

pub returns-clause-done : goal.returns-clause-done
returns-clause-done c = λ h s. record {
  buffer = record { at = s.buffer.at };
  starts = s.starts;
  targets = swept_after _ c.change_all.new.watched.items _ _ (is_remove c.args.change.now.kind) (changes_stand _ _ c.args.self.now.watched.items _ h c.args.change.now c.in-Ok.token s.targets c.in-Ok.ensures.keeps c.in-Ok.ensures.brings c.change_all.ensures) c.sweep.ensures;
}
