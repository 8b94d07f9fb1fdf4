use Rattle.watch_aggregator.proofs.Documents.{filter_stands}
use Rattle.watch_aggregator.proofs.aggregator.Aggregator.take.Goals as goal

pub returns-in-Filter-clause-done : goal.returns-in-Filter-clause-done
returns-in-Filter-clause-done c = λ h s. rw c.in-Filter.is (record {
  buffer = record { at = s.buffer.at };
  starts = s.starts;
  targets = filter_stands _ _ h c.in-Filter.field-0 s.targets;
})
