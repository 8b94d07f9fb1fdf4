use Rattle.std.proofs.Common.{◌≡◌, map, refl, subst}
use Rattle.value_model.specs.declared.message.ListenResponse.TheVariants as sent
use Rattle.watch_aggregator.specs.Told.{for_ids, take_out}
use Rattle.watch_aggregator.proofs.Documents.{document_gone}
use Rattle.watch_aggregator.proofs.aggregator.Aggregator.remove_document.Goals as goal

pub returns : goal.returns
returns c = λ h s.
    let m = c.args.remove.now in
    let ws = c.args.self.now.watched.items in
    record {
      buffer = record { at = s.buffer.at };
      starts = s.starts;
      targets = document_gone _ ws _ h (sent.Remove m) m.key m.removed_target_ids s.targets (λ t P. refl) (λ t. refl) (λ t keys. refl)
          (subst (λ ids. c.take_out.new.watched.items ≡ map (for_ids ids (take_out m.key)) ws) c.as_slice.ensures (c.take_out.ensures s.targets.ascending));
    }
