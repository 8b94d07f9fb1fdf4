-- the entries that wait for the next point
use Rattle.std.proofs.Common.{◌≡◌, ◌∙◌, ℕ, Bool, true, false, ◌||◌, cond, Option, Some, None, List, ◌∷◌, refl, sym, ap, subst}
use Rattle.std.specs.BTreeMap.{BTreeMap, get, Updates}
use Rattle.std.specs.List.{list_any}
use Rattle.std.proofs.lemmas.Bool.{false≢true}
use Rattle.value_model.specs.declared.document.Entry.{Entry}
use Rattle.value_model.specs.declared.message.ListenResponse.{ListenResponse}
use Rattle.value_model.specs.declared.message.ListenResponse.TheVariants as sent
use Rattle.value_model.specs.declared.message.DocumentChange.{DocumentChange}
use Rattle.value_model.specs.declared.message.DocumentDelete.{DocumentDelete}
use Rattle.watch_aggregator.specs.declared.watched.Watched.{Watched}
use Rattle.listen_protocol.specs.Calls.{Key, Calls, came, key_cmp}
use Rattle.document_keys.specs.KeySet.{is_key}
use Rattle.watch_aggregator.specs.Buffer.{IsBuffer, Keeps, KeepsLeft, Same, counts_in}
use Rattle.listen_protocol.specs.Buffer.{changed_entry, deleted_entry, left_by, kept_of, stays, with_left}
use Rattle.watch_aggregator.specs.Steps.{AreAscending}
use Rattle.watch_aggregator.specs.Standing.{AreWatched}
use Rattle.watch_aggregator.proofs.Counted.{any_counted}
use Rattle.document_keys.proofs.Exact.{key_is}

kept_some : (new : Entry) (o : Option Entry) → stays o new ≡ true → o ≡ Some (kept_of new o)
kept_some new None e = absurd (false≢true e)
kept_some new (Some old) e = rw e refl

replaced : (new : Entry) (o : Option Entry) → stays o new ≡ false → Some new ≡ Some (kept_of new o)
replaced new None e = refl
replaced new (Some old) e = rw e refl

pub keeps_old : (key : Key) (new : Entry) (was : BTreeMap Key Entry) → stays (get key_cmp was key) new ≡ true → Keeps key new was was
keeps_old key new was earlier = record { at = λ k. go k (is_key key k) refl }
  where
    go : (k : Key) (b : Bool) → is_key key k ≡ b → get key_cmp was k ≡ cond b (Some (kept_of new (get key_cmp was k))) (get key_cmp was k)
    go k true is = kept_some new (get key_cmp was k) (subst (λ q. stays (get key_cmp was q) new ≡ true) (key_is key k is) earlier)
    go k false isnt = refl

pub keeps_new : (key : Key) (new : Entry) (was now : BTreeMap Key Entry) → stays (get key_cmp was key) new ≡ false → Updates key_cmp was now key (Some new) → Keeps key new was now
keeps_new key new was now late updates = record { at = λ k. go k (is_key key k) refl }
  where
    go : (k : Key) (b : Bool) → is_key key k ≡ b → get key_cmp now k ≡ cond b (Some (kept_of new (get key_cmp was k))) (get key_cmp was k)
    go k true is = updates.0 k ∙ rw is (replaced new (get key_cmp was k) (subst (λ q. stays (get key_cmp was q) new ≡ false) (key_is key k is) late))
    go k false isnt = updates.0 k ∙ rw isnt refl

pub buffer_same : (was now : BTreeMap Key Entry) (h : Calls) → Same was now → IsBuffer was h → IsBuffer now h
buffer_same was now h same is = record { at = λ k. same.at k ∙ is.at k }

pub buffer_left : (was now : BTreeMap Key Entry) (h : Calls) (m : ListenResponse) (left : Option (Key × Entry)) → left ≡ left_by m h → KeepsLeft left was now → IsBuffer was h → IsBuffer now (came m ∷ h)
buffer_left was now h m left same keeps is = record { at = λ k. keeps.at k ∙ (λ i. with_left k (same i) (is.at k i)) }

pub left_change : (tokens : List (List ℕ)) (ws slice : List Watched) (h : Calls) (change : DocumentChange) (left : Option (Key × Entry)) → AreWatched tokens ws h → slice ≡ ws → (AreAscending slice → left ≡ changed_entry (list_any (counts_in slice) change.target_ids || list_any (counts_in slice) change.removed_target_ids) change) → left ≡ left_by (sent.Change change) h
left_change tokens ws slice h change left are same is =
    is (subst AreAscending (sym same) are.ascending)
    ∙ ap (λ (vs : List Watched). changed_entry (list_any (counts_in vs) change.target_ids || list_any (counts_in vs) change.removed_target_ids) change) same
    ∙ (λ i. changed_entry (any_counted tokens ws h change.target_ids are i || any_counted tokens ws h change.removed_target_ids are i) change)

pub left_delete : (tokens : List (List ℕ)) (ws slice : List Watched) (h : Calls) (delete : DocumentDelete) (left : Option (Key × Entry)) → AreWatched tokens ws h → slice ≡ ws → (AreAscending slice → left ≡ deleted_entry (list_any (counts_in slice) delete.removed_target_ids) delete) → left ≡ left_by (sent.Delete delete) h
left_delete tokens ws slice h delete left are same is =
    is (subst AreAscending (sym same) are.ascending)
    ∙ ap (λ (vs : List Watched). deleted_entry (list_any (counts_in vs) delete.removed_target_ids) delete) same
    ∙ (λ i. deleted_entry (any_counted tokens ws h delete.removed_target_ids are i) delete)
