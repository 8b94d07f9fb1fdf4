-- what each key gets
use Rattle.std.proofs.Common.{◌≡◌, ◌∙◌, ◌↔◌, inl, inr, ℤ, Bool, true, false, ◌&&◌, not, cond, List, Option, Some, refl, sym, ap, subst}
use Rattle.std.specs.List.{Contains}
use Rattle.std.specs.List.Sorted.{IsStrictlySortedBy}
use Rattle.std.specs.Map.{keys_of, lookup}
use Rattle.document_keys.specs.KeySet.{is_key}
use Rattle.value_model.specs.declared.document.Entry.{Entry}
use Rattle.value_model.specs.declared.document.Entry.TheVariants.{Missing}
use Rattle.value_model.specs.declared.timestamp.Timestamp.{Timestamp}
use Rattle.watch_aggregator.specs.declared.point.WatchTarget.{WatchTarget}
use Rattle.watch_aggregator.specs.Points.{target_at}
use Rattle.listen_protocol.specs.Buffer.{buffered}
use Rattle.listen_protocol.specs.Calls.{Key, Calls, key_cmp}
use Rattle.listen_protocol.specs.Transcript.{counts}
use Rattle.durable_state.specs.Documents.{sealed_entry_of}
use Rattle.durable_state.specs.Rising.{Replaces}
use Rattle.durable_state.specs.State.{State}
use Rattle.watch_points.specs.PointCommit.{ArePartsOf, GetsEntry, LacksDocument, is_known_missing, known_now}
use Rattle.watch_points.specs.Steps.{lacked, missed_of, misses, put_of, replaces}
use Rattle.watch_points.proofs.Missed.{are_lacking, lacked_so, lacking_so, missed_is, so_lacked, so_lacking}
use Rattle.watch_points.proofs.Put.{puts_of, replaces_is, replaces_so}

-- the targets of a point are those that count
pub target_is : (h : Calls) (waiting : List (Key × Entry)) (targets : List WatchTarget) → ArePartsOf h waiting targets → (target : WatchTarget) → Contains targets target ↔ ((counts target.id h ≡ true) × (target ≡ target_at h target.id))
target_is h waiting targets are target = subst (λ ts. Contains ts target ↔ ((counts target.id h ≡ true) × (target ≡ target_at h target.id))) are.3 (are.1.targets target)

-- a target that lacks its document
lacks_at : (h : Calls) (waiting : List (Key × Entry)) (targets : List WatchTarget) (k : Key) → ArePartsOf h waiting targets → (target : WatchTarget) → Contains targets target → lacked target ≡ Some k → LacksDocument h k target.id
lacks_at h waiting targets k are target has lacks =
    let both = (target_is h waiting targets are target).0 has in
    let parts = lacked_so (target_at h target.id) k (ap lacked (sym both.1) ∙ lacks) in
    record { counting = both.0; current = parts.current; document = parts.document; untold = parts.untold }

at_lacks : (h : Calls) (waiting : List (Key × Entry)) (targets : List WatchTarget) (k : Key) (t : ℤ) → ArePartsOf h waiting targets → LacksDocument h k t → are_lacking targets k ≡ true
at_lacks h waiting targets k t are lacks =
    so_lacking targets k (target_at h t) ((target_is h waiting targets are (target_at h t)).1 (lacks.counting, refl))
    (so_lacked (target_at h t) k (record { current = lacks.current; document = lacks.document; untold = lacks.untold }))

-- the test of a key that is missed
both_so : (a b : Bool) → (a && b) ≡ true → (a ≡ true) × (b ≡ true)
both_so true b so = (refl, so)
both_so false b so = cc

not_true : (b : Bool) → not b ≡ true → b ≡ false
not_true true e = cc
not_true false e = refl

test_parts : (s : State) (at : Timestamp) (k : Key) (put : Option Entry) → misses s at k put ≡ true
    → (is_known_missing (known_now (sealed_entry_of s k) put) ≡ false) × Replaces (known_now (sealed_entry_of s k) put) (Missing at)
test_parts s at k put so =
    let both = both_so (not (is_known_missing (known_now (sealed_entry_of s k) put))) (replaces (known_now (sealed_entry_of s k) put) (Missing at)) so in
    (not_true (is_known_missing (known_now (sealed_entry_of s k) put)) both.0, replaces_so (known_now (sealed_entry_of s k) put) (Missing at) both.1)

parts_test : (s : State) (at : Timestamp) (k : Key) (put : Option Entry) → is_known_missing (known_now (sealed_entry_of s k) put) ≡ false → Replaces (known_now (sealed_entry_of s k) put) (Missing at)
    → misses s at k put ≡ true
parts_test s at k put unknown replaced = λ i. not (unknown i) && replaces_is (known_now (sealed_entry_of s k) put) (Missing at) replaced i

false_true : false ≡ true → ⊥
false_true e = cc

-- each key gets what is made
pub gets : (s : State) (h : Calls) (at : Timestamp) (waiting : List (Key × Entry)) (targets : List WatchTarget) (k : Key) → ArePartsOf h waiting targets
    → GetsEntry s h at k (missed_of s at targets k (put_of s waiting k))
gets s h at waiting targets k are = subst (GetsEntry s h at k) (sym (missed_is s at targets k put)) (by (are_lacking targets k) (misses s at k put) refl refl)
  where
    put : Option Entry
    put = put_of s waiting k

    sorted : IsStrictlySortedBy key_cmp (keys_of waiting)
    sorted = subst (λ es. IsStrictlySortedBy key_cmp (keys_of es)) are.2 are.1.keys_ascend

    waits : lookup (is_key k) waiting ≡ buffered k h
    waits = ap (lookup (is_key k)) (sym are.2) ∙ are.1.entries k

    by : (a b : Bool) → are_lacking targets k ≡ a → misses s at k put ≡ b → GetsEntry s h at k (cond (are_lacking targets k && misses s at k put) (Some (Missing at)) put)
    by true true lacking missing =
        let found = lacking_so targets k lacking in
        let parts = test_parts s at k put missing in
        record {
          put = put;
          puts = puts_of s waiting k (buffered k h) sorted waits;
          then_gets = inl ((λ i. cond (lacking i && missing i) (Some (Missing at)) put), record { lacked = (found.0.id, lacks_at h waiting targets k are found.0 found.1 found.2); unknown = parts.0; replaced = parts.1 });
        }
    by true false lacking missing = record {
      put = put;
      puts = puts_of s waiting k (buffered k h) sorted waits;
      then_gets = inr ((λ i. cond (lacking i && missing i) (Some (Missing at)) put), λ is. false_true (sym missing ∙ parts_test s at k put is.unknown is.replaced));
    }
    by false b lacking missing = record {
      put = put;
      puts = puts_of s waiting k (buffered k h) sorted waits;
      then_gets = inr ((λ i. cond (lacking i && misses s at k put) (Some (Missing at)) put), λ is. false_true (sym lacking ∙ at_lacks h waiting targets k is.lacked.0 are is.lacked.1));
    }
