use Rattle.value_model.specs.declared.message.ListenResponse.TheVariants as sent
use Rattle.watch_aggregator.proofs.Documents.{back_stands, change_stands}
use Rattle.watch_aggregator.proofs.Waiting.{buffer_left, buffer_same, left_change}
use Rattle.watch_aggregator.proofs.aggregator.Aggregator.change_document.Goals as goal

pub returns-in-Err-put_all-clause-undone : goal.returns-in-Err-put_all-clause-undone
returns-in-Err-put_all-clause-undone c = λ h s.
    let some = c.in-Err-put_all.ensures.undone s.targets.ascending in
    record {
      starts = s.starts;
      targets = back_stands _ c.args.self.now.watched.items _ _ h c.args.change.now some.0 _ s.targets s.starts c.as_slice-in-Err-put_all.ensures some.1 c.take_back.ensures;
      buffer = s.buffer;
    }

pub returns-in-Err-keep_left-clause-undone : goal.returns-in-Err-keep_left-clause-undone
returns-in-Err-keep_left-clause-undone c = λ h s. record {
  starts = s.starts;
  targets = back_stands _ c.args.self.now.watched.items _ _ h c.args.change.now c.args.change.now.target_ids _ s.targets s.starts c.as_slice-in-Err-keep_left.ensures (c.in-Ok-put_all.ensures.done s.targets.ascending) c.take_back-in-Err-keep_left.ensures;
  buffer = buffer_same c.args.self.now.buffer _ h c.in-Err-keep_left.ensures.undone s.buffer;
}

pub returns-clause-done : goal.returns-clause-done
returns-clause-done c = λ h s.
    let m = c.args.change.now in
    let ws = c.args.self.now.watched.items in
    record {
      starts = s.starts;
      targets = change_stands _ ws _ _ _ h m _ _ s.targets s.starts c.as_slice-2.ensures c.as_slice-3.ensures c.in-Ok-put_all.ensures.done c.settle.ensures c.take_out.ensures;
      buffer = buffer_left c.args.self.now.buffer _ h (sent.Change m) c.in-Ok.left (left_change _ ws _ h m c.in-Ok.left s.targets c.as_slice.ensures.value c.in-Ok.ensures) c.in-Ok-keep_left.ensures.done s.buffer;
    }
