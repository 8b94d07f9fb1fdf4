-- what waits for a point behind a message
use Rattle.std.proofs.Common.{◌≡◌, ℤ, Bool, true, false, not, ◌&&◌, ◌||◌, nat_le, nat_lt, List, Option, Some, None, IfSome, if◌then◌else◌, refl, sym, ap, ◌∙◌}
use Rattle.std.specs.Prelude.{option_map}
use Rattle.std.specs.List.{list_any}
use Rattle.agreement.specs.Backend.{Key, tick, tick_of}
use Rattle.agreement.specs.Entries as agreed
use Rattle.agreement.specs.Streams.{message_of}
use Rattle.agreement.specs.Transcript.{Event}
use Rattle.agreement.specs.Transcript as events
use Rattle.document_keys.specs.KeySet.{is_key}
use Rattle.listen_protocol.specs.Buffer.{any_counts, deleted_entry, is_earlier, kept_of, left_by, with_left}
use Rattle.listen_protocol.specs.Calls.{Calls}
use Rattle.listen_protocol.specs.Transcript.{counts}
use Rattle.value_model.specs.Time.{IsMoment}
use Rattle.value_model.specs.Versions.{version_of}
use Rattle.value_model.specs.declared.document.Entry.{Entry}
use Rattle.value_model.specs.declared.document.Entry.TheVariants.{Found, Missing}
use Rattle.value_model.specs.declared.message.DocumentDelete.{DocumentDelete}
use Rattle.value_model.specs.declared.message.ListenResponse.{ListenResponse}
use Rattle.value_model.specs.declared.message.ListenResponse.TheVariants as message
use Rattle.value_model.specs.declared.timestamp.Timestamp.{Timestamp}
use Rattle.client_agreement.proofs.Times.{le_unless, tick_above}
use Rattle.client_agreement.specs.Standing.{seen_entry}

-- the times that a message tells of documents are moments
abbrev pub HasMomentsIn : ListenResponse → Type 0
HasMomentsIn (message.Change change) = IsMoment change.update_time
HasMomentsIn (message.Delete delete) = IfSome delete.read_time IsMoment
HasMomentsIn _ = Unit {0}

kept_same : (new : Entry) (old : Option Entry) → IsMoment (version_of new) → IfSome old (λ e. IsMoment (version_of e))
    → agreed.replaced (λ n o. nat_le o.version n.version) (option_map seen_entry old) (seen_entry new) ≡ Some (seen_entry (kept_of new old))
kept_same new None moment moments = refl
kept_same new (Some old) moment moments = ap (λ (b : Bool). if b then Some (seen_entry new) else Some (seen_entry old)) (le_unless (version_of old) (version_of new) moments moment) ∙ by (is_earlier (version_of new) (version_of old))
  where
    by : (b : Bool) → (if not b then Some (seen_entry new) else Some (seen_entry old)) ≡ Some (seen_entry (if b then old else new))
    by true = refl
    by false = refl

module _ (x : List Event) (h : Calls) (counting : (t : ℤ) → events.counts t x ≡ counts t h) (k : Key) (old : Option Entry) (moments : IfSome old (λ e. IsMoment (version_of e))) where
  any_same : (ids : List ℤ) → agreed.any_counts ids x ≡ any_counts ids h
  any_same ids = ap (λ (f : ℤ → Bool). list_any f ids) (λ i t. counting t i)

  put_same : (b : Bool) (key : Key) (new : Entry) (buffer : Key → Option agreed.Entry) → buffer k ≡ option_map seen_entry old → IsMoment (version_of new)
      → agreed.put b key (seen_entry new) buffer k ≡ option_map seen_entry (with_left k (if b then Some (key, new) else None) old)
  put_same false key new buffer is moment = is
  put_same true key new buffer is moment = by (is_key key k)
    where
      by : (c : Bool) → (if c then agreed.replaced (λ n o. nat_le o.version n.version) (buffer k) (seen_entry new) else buffer k) ≡ option_map seen_entry (if c then Some (kept_of new old) else old)
      by true = ap (λ o. agreed.replaced (λ n o. nat_le o.version n.version) o (seen_entry new)) is ∙ kept_same new old moment moments
      by false = is

  delete_same : (b : Bool) (delete : DocumentDelete) (buffer : Key → Option agreed.Entry) → buffer k ≡ option_map seen_entry old → IfSome delete.read_time IsMoment
      → agreed.put (nat_lt 0 (tick_of delete.read_time) && b) delete.key (agreed.seen agreed.Missing (tick_of delete.read_time)) buffer k ≡ option_map seen_entry (with_left k (deleted_entry b delete) old)
  delete_same b delete buffer is moment = by delete.read_time moment
    where
      none_left : (c : Bool) → ◌≡◌ {A = Option (Key × Entry)} (if c then None else None) None
      none_left true = refl
      none_left false = refl

      by : (time : Option Timestamp) → IfSome time IsMoment
          → agreed.put (nat_lt 0 (tick_of time) && b) delete.key (agreed.seen agreed.Missing (tick_of time)) buffer k ≡ option_map seen_entry (with_left k (if b then option_map (λ at. (delete.key, Missing at)) time else None) old)
      by None none = is ∙ ap (λ o. option_map seen_entry (with_left k o old)) (sym (none_left b))
      by (Some at) at_moment =
          ap (λ (c : Bool). agreed.put (c && b) delete.key (agreed.seen agreed.Missing (tick at)) buffer k) (tick_above at)
          ∙ put_same b delete.key (Missing at) buffer is at_moment

  pub waits_same : (m : ListenResponse) (buffer : Key → Option agreed.Entry) → buffer k ≡ option_map seen_entry old → HasMomentsIn m
      → agreed.buffered (message_of m) x buffer k ≡ option_map seen_entry (with_left k (left_by m h) old)
  waits_same (message.Target change) buffer is moment = is
  waits_same (message.Change change) buffer is moment =
      (λ i. agreed.put (any_same change.target_ids i || any_same change.removed_target_ids i) change.key (seen_entry (Found change.fields change.update_time)) buffer k)
      ∙ put_same (any_counts change.target_ids h || any_counts change.removed_target_ids h) change.key (Found change.fields change.update_time) buffer is moment
  waits_same (message.Delete delete) buffer is moment =
      (λ i. agreed.put (nat_lt 0 (tick_of delete.read_time) && any_same delete.removed_target_ids i) delete.key (agreed.seen agreed.Missing (tick_of delete.read_time)) buffer k)
      ∙ delete_same (any_counts delete.removed_target_ids h) delete buffer is moment
  waits_same (message.Remove remove) buffer is moment = is
  waits_same (message.Filter filter) buffer is moment = is
