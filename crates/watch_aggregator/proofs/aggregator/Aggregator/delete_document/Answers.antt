use Rattle.std.proofs.Common.{◌≡◌, map, refl, subst}
use Rattle.value_model.specs.declared.message.ListenResponse.TheVariants as sent
use Rattle.watch_aggregator.specs.Told.{for_ids, take_out}
use Rattle.watch_aggregator.proofs.Documents.{document_gone}
use Rattle.watch_aggregator.proofs.Waiting.{buffer_left, buffer_same, left_delete}
use Rattle.watch_aggregator.proofs.aggregator.Aggregator.delete_document.Goals as goal

pub returns-in-Err-keep_left-clause-undone : goal.returns-in-Err-keep_left-clause-undone
returns-in-Err-keep_left-clause-undone c = λ h s. record {
  starts = s.starts;
  targets = s.targets;
  buffer = buffer_same c.args.self.now.buffer _ h c.in-Err-keep_left.ensures.undone s.buffer;
}

pub returns-clause-done : goal.returns-clause-done
returns-clause-done c = λ h s.
    let m = c.args.delete.now in
    let ws = c.args.self.now.watched.items in
    record {
      starts = s.starts;
      targets = document_gone _ ws _ h (sent.Delete m) m.key m.removed_target_ids s.targets (λ t P. refl) (λ t. refl) (λ t keys. refl)
          (subst (λ ids. c.take_out.new.watched.items ≡ map (for_ids ids (take_out m.key)) ws) c.as_slice-2.ensures (c.take_out.ensures s.targets.ascending));
      buffer = buffer_left c.args.self.now.buffer _ h (sent.Delete m) c.in-Ok.left (left_delete _ ws _ h m c.in-Ok.left s.targets c.as_slice.ensures.value c.in-Ok.ensures) c.in-Ok-keep_left.ensures.done s.buffer;
    }
