use Rattle.std.proofs.Common.{◌≡◌, ◌∙◌, map, ap, subst, sym}
use Rattle.std.specs.BTreeMap.{BTreeMap, IsEmpty}
use Rattle.std.specs.List.{filter}
use Rattle.value_model.specs.declared.document.Entry.{Entry}
use Rattle.listen_protocol.specs.Calls.{Key}
use Rattle.watch_aggregator.specs.declared.watched.Watched.{Watched}
use Rattle.watch_aggregator.specs.Points.{target_from}
use Rattle.watch_aggregator.proofs.Handed.{applied_stand, buffer_applied, targets_are, targets_ascend}
use Rattle.watch_aggregator.proofs.aggregator.Aggregator.apply_point.Goals as goal

pub returns-clause-done : goal.returns-clause-done
returns-clause-done c = λ h s.
    let self = c.args.self.now in
    let ws = self.watched.items in
    let targets_is : c.in_ok-targets.targets.items ≡ map (target_from self.tokens.items) (filter (λ (w : Watched). w.counts) ws) = rw (← c.as_slice.ensures.value, ← c.as_slice-2.ensures.value) c.in_ok-targets.ensures in
    let entries_is : c.moved-entries.result.items ≡ self.buffer.entries = c.moved-entries.ensures.value ∙ ap (λ (b : BTreeMap Key Entry). b.entries) c.replace-buffer.ensures.value in (
      record {
        keys_ascend = rw c.moved-entries.ensures.value c.moved-entries.ensures.ordered;
        entries = λ k. rw entries_is (s.buffer.at k);
        ids_ascend = rw targets_is (targets_ascend self.tokens.items (λ (w : Watched). w.counts) ws s.targets.ascending);
        targets = λ target. targets_are self.tokens.items ws h c.in_ok-targets.targets.items target s.targets targets_is;
      },
      record {
        targets = rw c.clear.ensures.items (applied_stand self.tokens.items ws _ h s.targets c.drop_tokens.ensures);
        buffer = buffer_applied _ h (subst (λ (b : BTreeMap Key Entry). IsEmpty b) (sym c.replace-buffer.ensures.after) c.new.ensures.empty);
        starts = s.starts;
      },
    )
