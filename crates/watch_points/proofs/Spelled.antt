-- what a point commits has a spelling
use Rattle.std.proofs.Common.{◌≡◌, inl, inr, ◌<◌, ◌^◌, Bool, true, false, ◌||◌, cond, length, List, [], ◌∷◌, Option, Some, None, refl, sym, subst}
use Rattle.std.specs.Prelude.{IfSome, option_map}
use Rattle.std.specs.List.{All}
use Rattle.std.proofs.lemmas.List.Elements.{All-contains}
use Rattle.std.proofs.lemmas.Option.{same_Some}
use Rattle.document_keys.specs.KeySet.{is_key}
use Rattle.value_model.specs.Time.{IsMoment}
use Rattle.value_model.specs.declared.document.Entry.{Entry}
use Rattle.value_model.specs.declared.document.Entry.TheVariants.{Missing}
use Rattle.value_model.specs.declared.message.ListenResponse.{ListenResponse}
use Rattle.value_model.specs.declared.message.ListenResponse.TheVariants as sent
use Rattle.value_model.specs.declared.timestamp.Timestamp.{Timestamp}
use Rattle.listen_protocol.specs.Buffer.{any_counts, buffered, changed_entry, kept_of, left_by, stays, with_left}
use Rattle.listen_protocol.specs.Calls.{Key, Calls, asked, unasked, came, applied, skipped}
use Rattle.client_events.specs.Spelled.{IsSpelledMessage}
use Rattle.record_parts.specs.Spelling.{IsSpelledKey}
use Rattle.outcome_codec.specs.Spelling.{AreSpelledEntries, IsSpelledKeyed, IsSpelledSeen}
use Rattle.outcome_codec.specs.declared.parts.KeyedEntry.{KeyedEntry}
use Rattle.durable_state.specs.Documents.{sealed_entry_of}
use Rattle.durable_state.specs.State.{State}
use Rattle.watch_points.specs.PointCommit.{GetsEntry, Puts, entry_among}
use Rattle.watch_points.specs.SpelledCalls.{AreSpelledCalls}
use Rattle.watch_points.proofs.Listed.{KeysAscend, among_has}
use Rattle.watch_points.proofs.Lists.{all_from}
use Rattle.watch_points.proofs.Put.{put_waits}

-- ---- what waits

left_spelled : (message : ListenResponse) (h : Calls) (left : Key × Entry) → IsSpelledMessage message → left_by message h ≡ Some left → IsSpelledSeen left.1
left_spelled (sent.Target change) h left spelled is = cc
left_spelled (sent.Remove remove) h left spelled is = cc
left_spelled (sent.Filter filter) h left spelled is = cc
left_spelled (sent.Change change) h left spelled is = by (any_counts change.target_ids h || any_counts change.removed_target_ids h) is
  where
    by : (b : Bool) → changed_entry b change ≡ Some left → IsSpelledSeen left.1
    by true is' = subst (λ (l : Key × Entry). IsSpelledSeen l.1) (same_Some _ left is') spelled.content
    by false is' = cc
left_spelled (sent.Delete gone) h left spelled is = by (any_counts gone.removed_target_ids h) gone.read_time spelled.time is
  where
    by : (b : Bool) (time : Option Timestamp) → IfSome time IsMoment → cond b (option_map (λ at. (gone.key, Missing at)) time) None ≡ Some left → IsSpelledSeen left.1
    by false time moment is' = cc
    by true None moment is' = cc
    by true (Some at) moment is' = subst (λ (l : Key × Entry). IsSpelledSeen l.1) (same_Some _ left is') moment

kept_spelled : (new entry : Entry) (old : Option Entry) → IsSpelledSeen new → ((e : Entry) → old ≡ Some e → IsSpelledSeen e) → kept_of new old ≡ entry → IsSpelledSeen entry
kept_spelled new entry None spelled before is = subst IsSpelledSeen is spelled
kept_spelled new entry (Some old) spelled before is = by (stays (Some old) new) is
  where
    by : (b : Bool) → cond b old new ≡ entry → IsSpelledSeen entry
    by true is' = subst IsSpelledSeen is' (before old refl)
    by false is' = subst IsSpelledSeen is' spelled

waiting_spelled : (h : Calls) (k : Key) (entry : Entry) → AreSpelledCalls h → buffered k h ≡ Some entry → IsSpelledSeen entry
waiting_spelled [] k entry spelled is = cc
waiting_spelled (asked id keys document ∷ h) k entry spelled is = waiting_spelled h k entry spelled is
waiting_spelled (unasked id ∷ h) k entry spelled is = waiting_spelled h k entry spelled is
waiting_spelled (applied ∷ h) k entry spelled is = cc
waiting_spelled (skipped ∷ h) k entry spelled is = waiting_spelled h k entry spelled is
waiting_spelled (came message ∷ h) k entry spelled is = by (left_by message h) refl is (λ e. waiting_spelled h k e spelled.1)
  where
    by : (left : Option (Key × Entry)) → left_by message h ≡ left → with_left k left (buffered k h) ≡ Some entry → ((e : Entry) → buffered k h ≡ Some e → IsSpelledSeen e) → IsSpelledSeen entry
    by None none is' before = before entry is'
    by (Some (key, new)) left is' before = key_by (is_key key k) is'
      where
        key_by : (b : Bool) → cond b (Some (kept_of new (buffered k h))) (buffered k h) ≡ Some entry → IsSpelledSeen entry
        key_by true found = kept_spelled new entry (buffered k h) (left_spelled message h (key, new) spelled.0 left) before (same_Some (kept_of new (buffered k h)) entry found)
        key_by false found = before entry found

-- ---- what a key gets

gets_spelled : (s : State) (h : Calls) (at : Timestamp) (k : Key) (entry : Entry) → IsMoment at → AreSpelledCalls h → GetsEntry s h at k (Some entry) → IsSpelledSeen entry
gets_spelled s h at k entry moment spelled gets = elim gets.then_gets [
  | inl missing ↦ subst IsSpelledSeen (same_Some (Missing at) entry (sym missing.0)) moment
  | inr put ↦ waiting_spelled h k entry spelled (put_waits (sealed_entry_of s k) (buffered k h) entry (subst (λ o. Puts (sealed_entry_of s k) (buffered k h) o) (sym put.0) gets.puts))
]

pub entries_spelled : (s : State) (h : Calls) (at : Timestamp) (es : List KeyedEntry) → IsMoment at → AreSpelledCalls h → length es < 2 ^ 64 → KeysAscend es → All (λ (e : KeyedEntry). IsSpelledKey e.key) es
    → ((k : Key) → GetsEntry s h at k (entry_among es k)) → AreSpelledEntries es
entries_spelled s h at es moment spelled count ascend named gets = record {
  each = record {
    count = count;
    each = all_from IsSpelledKeyed es (λ e has. record {
      name = All-contains (λ (x : KeyedEntry). IsSpelledKey x.key) es e named has;
      content = gets_spelled s h at e.key e.entry moment spelled (subst (GetsEntry s h at e.key) (among_has es ascend e has) (gets e.key));
    });
  };
  ascending = ascend;
}
