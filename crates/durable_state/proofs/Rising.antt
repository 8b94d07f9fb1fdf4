-- entries only rise
use Rattle.std.proofs.Common.{◌≡◌, ◌∙◌, ◌⊎◌, inl, inr, ℕ, zero, suc, Bool, true, false, cond, List, [], ◌∷◌, fold, option_map, option_and_then, Option, Some, None, refl, sym, ap, subst, arith}
use Rattle.std.specs.FinMap as finite
use Rattle.std.specs.List.{Contains, cons_option, filter_map}
use Rattle.std.proofs.lemmas.List.Elements.{All-contains, Contains-append_left, Contains-append_right}
use Rattle.std.proofs.lemmas.Option.{same_Some}
use Rattle.document_keys.specs.KeySet.{is_key}
use Rattle.value_model.specs.Order.{Earlier}
use Rattle.value_model.specs.Versions.{version_of}
use Rattle.value_model.specs.declared.document.Entry.{Entry}
use Rattle.value_model.specs.declared.document.Seal.{Seal}
use Rattle.value_model.specs.declared.document.Seal.TheVariants.{Seen, Committed}
use Rattle.value_model.specs.declared.timestamp.Timestamp.{Timestamp}
use Rattle.mutations.specs.Acknowledged.{acknowledged, document_in}
use Rattle.mutations.specs.Local.{holds}
use Rattle.mutations.specs.declared.results.WriteResult.{WriteResult}
use Rattle.mutations.specs.declared.write.Write.{Write}
use Rattle.mutations.specs.declared.write.Write.TheVariants.{Update, Delete}
use Rattle.mutation_queue.specs.Queue.{keys_of}
use Rattle.mutation_queue.proofs.Tables.{one_key}
use Rattle.acknowledgements.specs.Acked.{acked, answered, greatest, is_below, is_earlier, left_after, latest, versions}
use Rattle.acknowledgements.proofs.Times.{earlier_so, not_earlier, one_time}
use Rattle.outcome_codec.specs.declared.parts.KeyedEntry.{KeyedEntry}
use Rattle.record_codec.specs.declared.commit.Commit.TheVariants.{Enqueue, Acknowledge, Reject, Allocate, Point, Reset, Drop}
use Rattle.remote_documents.specs.Table.{EntryMap}
use Rattle.durable_state.specs.Cached.{Changed, acknowledged_keys, answered_by, cached, first_writes, seen_at, with_all, with_changed}
use Rattle.durable_state.specs.Documents.{sealed_entry_of}
use Rattle.durable_state.specs.Rising.{EntriesRise, Replaces, Rises}
use Rattle.durable_state.proofs.Changed.{get_changed}

-- what a key has after some changes it had before, or one of them gives it
one_of : (entries : EntryMap) (cs : List Changed) (q : List (List ℕ)) → (finite.get (with_all entries cs) q ≡ finite.get entries q) ⊎ ((c : Changed) × Contains cs c × (c.0 ≡ q) × (finite.get (with_all entries cs) q ≡ c.1))
one_of entries [] q = inl refl
one_of entries (c ∷ cs) q = elim (one_of (with_changed entries c) cs q) [
  | inl same ↦ here (is_key c.0 q) refl same
  | inr it ↦ inr (it.0, Contains-append_right (c ∷ []) cs it.0 it.1, it.2, it.3)
]
  where
    here : (b : Bool) → is_key c.0 q ≡ b → finite.get (with_all (with_changed entries c) cs) q ≡ finite.get (with_changed entries c) q → (finite.get (with_all (with_changed entries c) cs) q ≡ finite.get entries q) ⊎ ((d : Changed) × Contains (c ∷ cs) d × (d.0 ≡ q) × (finite.get (with_all (with_changed entries c) cs) q ≡ d.1))
    here true e same = inr (c, Contains-append_left (c ∷ []) cs c (0, omega arith, refl), one_key c.0 q e, same ∙ get_changed entries c q ∙ ap (λ b. cond b c.1 (finite.get entries q)) e)
    here false e same = inl (same ∙ get_changed entries c q ∙ ap (λ b. cond b c.1 (finite.get entries q)) e)

-- ---- what an answer leaves is of a later version

either_version : (b : Bool) (x y : Entry) (version : Timestamp) → version_of x ≡ version → version_of y ≡ version → version_of (cond b x y) ≡ version
either_version true x y version is also = is
either_version false x y version is also = also

ack_version : (entry : Option Entry) (write : Write) (result : WriteResult) (version : Timestamp) → version_of (acknowledged entry write result version) ≡ version
unfolding acknowledged
ack_version entry (Delete key condition) result version = refl
ack_version entry (Update key fields None transforms condition) result version = refl
ack_version entry (Update key fields (Some mask) transforms condition) result version = either_version (holds condition (document_in entry)) _ _ version refl refl

version_at : (version : Timestamp) (entry : Option Entry) (pair : Write × WriteResult) (pairs : List (Write × WriteResult)) (e : Entry) → fold (left_after version) entry (pair ∷ pairs) ≡ Some e → version_of e ≡ version
version_at version entry pair [] e is = ap version_of (sym (same_Some (acknowledged entry pair.0 pair.1 version) e is)) ∙ ack_version entry pair.0 pair.1 version
version_at version entry pair (next ∷ pairs) e is = version_at version (Some (acknowledged entry pair.0 pair.1 version)) next pairs e is

below_so : (entry : Option Entry) (version : Timestamp) (old : Entry) → is_below entry version ≡ true → entry ≡ Some old → Earlier (version_of old) version
below_so None version old below is = cc
below_so (Some known) version old below is = subst (λ (k : Entry). Earlier (version_of k) version) (same_Some known old is) (earlier_so (version_of known) version below)

acked_above : (entry : Option Entry) (key : List (List ℕ)) (writes : List Write) (results : List WriteResult) (commit : Timestamp) (e old : Entry) → acked entry key writes results commit ≡ Some e → entry ≡ Some old → Earlier (version_of old) (version_of e)
acked_above entry key writes results commit e old is there = by (answered key writes results) refl is
  where
    with_version : (pairs : List (Write × WriteResult)) (found : Option Timestamp) → (found ≡ None → ⊥) → (pairs ≡ [] → found ≡ None) → (b : Bool) (version : Timestamp) → found ≡ Some version → is_below entry version ≡ b → cond b (fold (left_after version) entry pairs) None ≡ Some e → Earlier (version_of old) (version_of e)
    with_version [] found some none b version at below left = absurd (some (none refl))
    with_version (p ∷ ps) found some none false version at below left = cc
    with_version (p ∷ ps) found some none true version at below left = subst (Earlier (version_of old)) (sym (version_at version entry p ps e left)) (below_so entry version old below there)

    at_greatest : (pairs : List (Write × WriteResult)) (found : Option Timestamp) → (pairs ≡ [] → found ≡ None) → option_and_then (λ version. cond (is_below entry version) (fold (left_after version) entry pairs) None) found ≡ Some e → Earlier (version_of old) (version_of e)
    at_greatest pairs None none left = cc
    at_greatest pairs (Some version) none left = with_version pairs (Some version) (λ wrong. cc) none (is_below entry version) version refl refl left

    by : (pairs : List (Write × WriteResult)) → answered key writes results ≡ pairs → acked entry key writes results commit ≡ Some e → Earlier (version_of old) (version_of e)
    by pairs are left = at_greatest (answered key writes results) (greatest key writes results commit) (λ nothing. ap (λ ps. fold latest None (versions commit ps)) nothing) left

-- ---- each change rises

rises_by : (old new : Option (Entry × Seal)) (e : Entry) (seal : Seal) → new ≡ Some (e, seal) → ((known : Entry) → option_map (λ p. p.0) old ≡ Some known → Earlier (version_of known) (version_of e)) → Rises old new
rises_by None new e seal is above = Rises.higher e seal is tt
rises_by (Some (known, s)) new e seal is above = Rises.higher e seal is (above known refl)

rises_told : (old new : Option (Entry × Seal)) (e : Entry) → new ≡ Some (e, Seen) → Replaces old e → Rises old new
rises_told None new e is replaces = Rises.higher e Seen is tt
rises_told (Some (known, Seen)) new e is replaces = Rises.higher e Seen is replaces
rises_told (Some (known, Committed at)) new e is replaces = by (is_earlier (version_of known) (version_of e)) refl
  where
    by : (b : Bool) → is_earlier (version_of known) (version_of e) ≡ b → Rises (Some (known, Committed at)) new
    by true later = Rises.higher e Seen is (earlier_so (version_of known) (version_of e) later)
    by false other = Rises.seen known e at refl is (one_time (version_of e) (version_of known) replaces (not_earlier (version_of known) (version_of e) other))

-- ---- the changes of a point, and of an acknowledgement

in_seen : (entries : List KeyedEntry) (c : Changed) → Contains (seen_at entries) c → (e : KeyedEntry) × Contains entries e × (c ≡ (e.key, Some (e.entry, Seen)))
in_seen [] c there = absurd (omega (arith, there.1))
in_seen (e ∷ entries) c (zero, below, is) = (e, (zero, omega arith, refl), sym is)
in_seen (e ∷ entries) c (suc i, below, is) = let rest = in_seen entries c (i, omega (arith, below), is) in (rest.0, Contains-append_right (e ∷ []) entries rest.0 rest.1, rest.2)

in_filtered : (h : List (List ℕ) → Option Changed) (keys : List (List (List ℕ))) (c : Changed) → Contains (filter_map h keys) c → (k : List (List ℕ)) × (h k ≡ Some c)
in_filtered h [] c there = absurd (omega (arith, there.1))
in_filtered h (k ∷ keys) c there = by (h k) refl there (in_filtered h keys c)
  where
    by : (o : Option Changed) → h k ≡ o → Contains (cons_option o (filter_map h keys)) c → (Contains (filter_map h keys) c → (x : List (List ℕ)) × (h x ≡ Some c)) → (x : List (List ℕ)) × (h x ≡ Some c)
    by None is among rest = rest among
    by (Some d) is (zero, below, same) rest = (k, is ∙ ap Some same)
    by (Some d) is (suc i, below, same) rest = rest (i, omega (arith, below), same)

by_answer : (entries : EntryMap) (writes : List Write) (results : List WriteResult) (at : Timestamp) (k q : List (List ℕ)) (c : Changed) → answered_by entries writes results at k ≡ Some c → c.0 ≡ q → (new : Option (Entry × Seal)) → new ≡ c.1 → Rises (finite.get entries q) new
by_answer entries writes results at k q c is of_key new put = by (acked (cached entries k) k writes results at) refl is
  where
    by : (o : Option Entry) → acked (cached entries k) k writes results at ≡ o → option_map (λ entry. (k, Some (entry, Committed at))) o ≡ Some c → Rises (finite.get entries q) new
    by None none is_c = cc
    by (Some e) left is_c =
        let same = same_Some (k, Some (e, Committed at)) c is_c in
        let key_is : k ≡ q = ap (λ (x : Changed). x.0) same ∙ of_key in
        rises_by (finite.get entries q) new e (Committed at) (put ∙ sym (ap (λ (x : Changed). x.1) same))
        (λ known there. acked_above (cached entries k) k writes results at e known left (ap (cached entries) key_is ∙ there))

pub entries_rise : EntriesRise
entries_rise s (Enqueue batch) anew q = Rises.stays refl
entries_rise s (Reject id) anew q = Rises.stays refl
entries_rise s (Allocate id target) anew q = Rises.stays refl
entries_rise s (Reset ids) anew q = Rises.stays refl
entries_rise s (Drop keys ids) anew q = absurd anew
entries_rise s (Acknowledge id at results) anew q = elim (one_of s.entries (acknowledged_keys s.entries (first_writes s.batches) results at) q) [
  | inl same ↦ Rises.stays same
  | inr it ↦
      let from = in_filtered (answered_by s.entries (first_writes s.batches) results at) (keys_of (first_writes s.batches)) it.0 it.1 in
      by_answer s.entries (first_writes s.batches) results at from.0 q it.0 from.1 it.2 _ it.3
]
entries_rise s (Point at entries rows) anew q = elim (one_of s.entries (seen_at entries) q) [
  | inl same ↦ Rises.stays same
  | inr it ↦
      let from = in_seen entries it.0 it.1 in
      let replaces = All-contains (λ (e : KeyedEntry). Replaces (sealed_entry_of s e.key) e.entry) entries from.0 anew from.1 in
      let key_is : from.0.key ≡ q = sym (ap (λ (c : Changed). c.0) from.2) ∙ it.2 in
      rises_told (finite.get s.entries q) _ from.0.entry (it.3 ∙ ap (λ (c : Changed). c.1) from.2) (subst (λ k. Replaces (finite.get s.entries k) from.0.entry) key_is replaces)
]
