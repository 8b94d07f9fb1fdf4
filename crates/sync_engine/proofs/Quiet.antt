-- listeners that are quiet, and stay so
use Rattle.std.proofs.Common.{◌≡◌, ◌↔◌, ◌⊎◌, ⊎_elim, inl, inr, ℕ, ℤ, Bool, true, false, ◌||◌, List, [], ◌∷◌, ◌++◌, map as each, drop, cond, Option, Some, None, IfSome, if◌then◌else◌, refl, sym, ap, subst, ◌∙◌, arith}
use Rattle.std.proofs.lemmas.List.Elements.{All-nil, All-cons, All-head, All-tail, All-weaker, All-contains, All-contains_itself}
use Rattle.std.proofs.lemmas.Bool.{true≢false}
use Rattle.std.specs.FinMap as map
use Rattle.std.specs.List.{All, Contains, cons_option, filter_map}
use Rattle.std.specs.Option.{IsSome, is_some, option_map, unwrap_or}
use Rattle.document_keys.specs.Names.{Root}
use Rattle.mutation_queue.specs.Queue.{keys_of, named_keys}
use Rattle.mutations.specs.Written.{written_key}
use Rattle.mutations.specs.declared.batch.Batch.{Batch}
use Rattle.mutations.specs.declared.write.Write.{Write}
use Rattle.value_model.specs.Documents.{DocumentMap, Stored}
use Rattle.value_model.specs.declared.document.Document.{Document}
use Rattle.durable_state.proofs.Changed.{get_changed}
use Rattle.durable_state.proofs.Laid.{among-append, among_in, first_false, in_among, local_more, named_more, not_so, not_written, second_false}
use Rattle.durable_state.specs.Cached.{Changed, acknowledged_keys, answered_by, cached, first_writes, with_all, with_changed}
use Rattle.acknowledgements.specs.Acked.{acked}
use Rattle.document_keys.specs.KeySet.{is_key}
use Rattle.mutations.specs.declared.results.WriteResult.{WriteResult}
use Rattle.remote_documents.specs.Table.{EntryMap}
use Rattle.value_model.specs.declared.document.Entry.{Entry}
use Rattle.value_model.specs.declared.document.Seal.{Seal}
use Rattle.value_model.specs.declared.document.Seal.TheVariants.{Committed}
use Rattle.value_model.specs.declared.timestamp.Timestamp.{Timestamp}
use Rattle.durable_state.proofs.Local.{documents_local}
use Rattle.durable_state.proofs.Lent.{touches}
use Rattle.durable_state.specs.Documents.{documents_of, is_among, is_named, is_uncovered, sealed_entry_of, standing_by, stored}
use Rattle.value_model.specs.declared.document.DocState.TheVariants as stands
use Rattle.local_store.specs.Documents.{document_of, entry_of, touched_keys_of}
use Rattle.local_store.specs.State.{State, committed}
use Rattle.overlays.specs.LocalDocument.{base_of, local_document}
use Rattle.record_codec.specs.declared.commit.Commit.TheVariants.{Enqueue, Acknowledge, Allocate, Reject}
use Rattle.queries.specs.Answer.{IsAnswer}
use Rattle.queries.specs.Matching.{Matches}
use Rattle.queries.specs.declared.target.Target.{Target}
use Rattle.queries.specs.declared.target.Target.TheVariants as of_target
use Rattle.value_model.specs.Data.{Entries}
use Rattle.views.specs.Limbo.{IsInLimbo}
use Rattle.target_cache.specs.Cache.{blank}
use Rattle.target_cache.specs.declared.row.Row.{Row}
use Rattle.listeners.specs.Concerns.{Concerns}
use Rattle.listeners.specs.Table.{viewed}
use Rattle.limbo_resolver.specs.Limbo.{Key}
use Rattle.listeners.proofs.Settling.{answer_still, picked_alike, picked_among, raised_stays_settled, refresh_settles, settled_stays, settled_stays_touched}
use Rattle.listeners.specs.Laws.{IsSettled}
use Rattle.views.proofs.Refreshing.{is_over}
use Rattle.views.specs.Refresh.{IsOver, Raises, Refreshes}
use Rattle.views.specs.declared.raised.Raised.{Raised}
use Rattle.views.specs.declared.standing.Standing.{Standing}
use Rattle.views.specs.Viewed.{Viewed}
use Rattle.views.specs.declared.view.Refresh.{Refresh}
use Rattle.client_turns.specs.Settling.{IsHeldFor, IsHeldRow, MayStart, Shows, ShowsAt, Settles, Stance}
use Rattle.client_turns.specs.Past.{Past}
use Rattle.sync_engine.specs.Standing.{HasLimbo, IsQuiet, Kept, StandsFor, limbo_in, stance_in}
use Rattle.sync_engine.proofs.Following.{are_quiet}
use Rattle.client_turns.proofs.Lists.{slice_get_front, slice_get_more}

-- a quiet listener raises nothing
pub quiet_shows : (root : Root) (s : State) (stance : Stance) (limbo : List Key) (view : Viewed) → IsQuiet root s stance limbo view → Shows root s stance view None
quiet_shows root s stance limbo view quiet = record {
  may_start = quiet.may_start;
  start = quiet.start;
  new = view;
  refresh = quiet.settled.refresh;
  refreshes = quiet.settled.refreshes;
  is = ap (λ b. if b then view.raised else None) (sym quiet.settled.silent);
}

pub quiet_shows_at : (root : Root) (s : State) (stance : Stance) (limbo : List Key) (view : Option Viewed) → IfSome view (IsQuiet root s stance limbo) → ShowsAt root s stance view None
quiet_shows_at root s stance limbo None quiet = refl
quiet_shows_at root s stance limbo (Some view) quiet = quiet_shows root s stance limbo view quiet

-- where every listener is quiet, nothing is raised
pub settles_none : (root : Root) (s : State) (stance : ℕ → Stance) (limbo : ℕ → List Key) (listening : ℕ → Option Viewed) → ((id : ℕ) → IfSome (listening id) (IsQuiet root s (stance id) (limbo id))) → Settles root s stance listening []
settles_none root s stance limbo listening quiet = record {
  ascending = λ i j d less inside. absurd (omega (arith, inside));
  each = λ id. quiet_shows_at root s (stance id) (limbo id) (listening id) (quiet id);
}

-- ---- what is in limbo

-- what matches a target is concerned by it
concerned : (target : Target) (root : Root) (key : List (List ℕ)) (fields : Entries) → Matches target root key fields → Concerns target key
concerned (of_target.Document wanted) root key fields matches = matches
concerned (of_target.Collection target) root key fields matches = matches.inside

-- the same stays in limbo where the documents that concern the listener stay, and so do whether they are touched
limbo_stays : (root : Root) (s t : State) (standing : Standing) (limbo : List Key) (view : Viewed) → ((key : List (List ℕ)) → Concerns view.target key → map.get (documents_of t) key ≡ map.get (documents_of s) key)
    → ((key : List (List ℕ)) → Concerns view.target key → Contains (touched_keys_of t) key ↔ Contains (touched_keys_of s) key) → HasLimbo root s standing limbo view → HasLimbo root t standing limbo view
limbo_stays root s t standing limbo view same touches has = record {
  answer = has.answer;
  is_answer = answer_still view.target root (documents_of s) (documents_of t) same has.answer has.is_answer;
  picks = picked_among has.answer limbo (λ key there. alike key (touches key (concerns key there))) has.picks;
}
  where
    concerns : (key : List (List ℕ)) → Contains has.answer key → Concerns view.target key
    concerns key there = let found = ((has.is_answer.members key).0 there).0 in concerned view.target root key found.stored.fields found.matches

    alike : (key : List (List ℕ)) → Contains (touched_keys_of t) key ↔ Contains (touched_keys_of s) key → IsInLimbo standing (touched_keys_of s) key ↔ IsInLimbo standing (touched_keys_of t) key
    alike key touched = (
      λ is. record { current = is.current; not_told = is.not_told; not_touched = λ there. is.not_touched (touched.0 there) },
      λ is. record { current = is.current; not_told = is.not_told; not_touched = λ there. is.not_touched (touched.1 there) },
    )

-- nothing is in limbo where the target isn't current
limbo_uncurrent : (root : Root) (s t : State) (standing : Standing) (limbo : List Key) (view : Viewed) → ((key : List (List ℕ)) → Concerns view.target key → map.get (documents_of t) key ≡ map.get (documents_of s) key)
    → standing.current ≡ false → HasLimbo root s standing limbo view → HasLimbo root t standing limbo view
limbo_uncurrent root s t standing limbo view same never has = record {
  answer = has.answer;
  is_answer = answer_still view.target root (documents_of s) (documents_of t) same has.answer has.is_answer;
  picks = picked_alike has.answer limbo (λ key. (λ is. absurd (true≢false (sym is.current ∙ never)), λ is. absurd (true≢false (sym is.current ∙ never)))) has.picks;
}

-- a listener is quiet once it was refreshed
pub refreshed_quiet : (root : Root) (s : State) (stance : Stance) (old new : Viewed) (may_start : Bool) (refresh : Refresh) → MayStart s stance may_start → Refreshes root (documents_of s) (touched_keys_of s) stance.standing may_start old new refresh → IsQuiet root s stance refresh.limbo.items new
refreshed_quiet root s stance old new may_start refresh start refreshes = record {
  may_start = may_start;
  start = start;
  settled = refresh_settles root (documents_of s) (touched_keys_of s) stance.standing may_start old new refresh refreshes;
  in_limbo = record {
    answer = refreshes.answer;
    is_answer = subst (λ (t : Target). IsAnswer t root (documents_of s) refreshes.answer) (sym refreshes.target) refreshes.is_answer;
    picks = refreshes.limbo;
  };
}

-- the keys that the target concerns are touched as before
abbrev pub TouchesSame : State → State → Viewed → Type 0
TouchesSame s t view = (key : List (List ℕ)) → Concerns view.target key → Contains (touched_keys_of t) key ↔ Contains (touched_keys_of s) key

-- a listener stays quiet where the documents that concern it stay, and so do whether they are touched, and its target's row is
-- held as before
pub quiet_stays : (root : Root) (s t : State) (stance : Stance) (limbo : List Key) (view : Viewed) → ((key : List (List ℕ)) → Concerns view.target key → map.get (documents_of t) key ≡ map.get (documents_of s) key) → TouchesSame s t view → IsHeldFor t.rows stance.target ↔ IsHeldFor s.rows stance.target → IsQuiet root s stance limbo view → IsQuiet root t stance limbo view
quiet_stays root s t stance limbo view same touched held quiet = record {
  may_start = quiet.may_start;
  start = (λ is. ⊎_elim (λ h. inl (held.1 h)) inr (quiet.start.0 is), λ is. quiet.start.1 (⊎_elim (λ h. inl (held.0 h)) inr is));
  settled = settled_stays_touched root (documents_of s) (documents_of t) (touched_keys_of s) (touched_keys_of t) stance.standing quiet.may_start view quiet.settled same touched;
  in_limbo = limbo_stays root s t stance.standing limbo view same touched quiet.in_limbo;
}

-- ---- behind an allocation

held_allocated : (rows : List Row) (target : Target) (wanted : Option ℤ) → IsHeldFor (rows ++ blank target ∷ []) wanted ↔ IsHeldFor rows wanted
held_allocated rows target None = (λ never. never, λ never. never)
held_allocated rows target (Some wanted) = (down, up)
  where
    down : IsHeldRow (rows ++ blank target ∷ []) wanted → IsHeldRow rows wanted
    down it = ⊎_elim
        (λ there. record { row = it.row; of_id = record { place = it.of_id.place; is = it.of_id.is; there = there }; held = it.held })
        (λ new. let none : IsSome (blank target).held = subst (λ (r : Row). IsSome r.held) new it.held in cc)
        (slice_get_front rows (blank target) it.row it.of_id.place it.of_id.there)

    up : IsHeldRow rows wanted → IsHeldRow (rows ++ blank target ∷ []) wanted
    up it = record { row = it.row; of_id = record { place = it.of_id.place; is = it.of_id.is; there = slice_get_more rows (blank target) it.row it.of_id.place it.of_id.there }; held = it.held }

documents_allocated : (s : State) (id : ℕ) (target : Target) → documents_of (committed s (Allocate id target)) ≡ documents_of s
unfolding documents_of
documents_allocated s id target = refl

touched_allocated : (s : State) (id : ℕ) (target : Target) → touched_keys_of (committed s (Allocate id target)) ≡ touched_keys_of s
touched_allocated s id target = refl

pub quiet_allocated : (root : Root) (s : State) (stance : Stance) (id : ℕ) (target : Target) (limbo : List Key) (view : Viewed) → IsQuiet root s stance limbo view → IsQuiet root (committed s (Allocate id target)) stance limbo view
quiet_allocated root s stance id target limbo view = quiet_stays root s (committed s (Allocate id target)) stance limbo view
    (λ key concerns. ap (λ (m : DocumentMap). map.get m key) (documents_allocated s id target))
    (λ key concerns. (λ it. it, λ it. it)) (held_allocated s.rows target stance.target)

-- ---- behind a batch

-- whether a key is touched rests on whether it is named, on its entry, and on the last read time
pub touched_same : (s t : State) (key : List (List ℕ)) → is_named t key ≡ is_named s key → sealed_entry_of t key ≡ sealed_entry_of s key → t.last_read ≡ s.last_read → Contains (touched_keys_of t) key ↔ Contains (touched_keys_of s) key
touched_same s t key named entry read = (λ in_t. among_in key (touched_keys_of s) (sym same ∙ in_among key (touched_keys_of t) in_t), λ in_s. among_in key (touched_keys_of t) (same ∙ in_among key (touched_keys_of s) in_s))
  where
    same : is_among (touched_keys_of t) key ≡ is_among (touched_keys_of s) key
    same = touches t key ∙ (λ i. named i || unwrap_or (option_map (λ p. is_uncovered (read i) p.1) (entry i)) false) ∙ sym (touches s key)

named_enqueued : (s : State) (batch : Batch) (key : List (List ℕ)) → is_among (keys_of batch.writes) key ≡ false → is_named (committed s (Enqueue batch)) key ≡ is_named s key
named_enqueued s batch key none = ap (λ ks. is_among ks key) (named_more s.batches batch) ∙ among-append (named_keys s.batches) (keys_of batch.writes) key ∙ ap (λ b. is_named s key || b) none ∙ or_none (is_named s key)
  where
    or_none : (b : Bool) → (b || false) ≡ b
    or_none true = refl
    or_none false = refl

-- a key that the batch doesn't name has the document that it had
unnamed_stays : (s : State) (batch : Batch) (key : List (List ℕ)) → is_among (keys_of batch.writes) key ≡ false → map.get (documents_of (committed s (Enqueue batch))) key ≡ map.get (documents_of s) key
unnamed_stays s batch key none =
    let t = committed s (Enqueue batch) in
    let document : document_of t key ≡ document_of s key =
    local_more key (base_of (entry_of s key)) s.batches batch ∙ not_written key batch.at batch.writes (document_of s key) none in
    let named : is_named t key ≡ is_named s key = named_enqueued s batch key none in
    let same : (d : Document) → stored t key d ≡ stored s key d = λ d i. record { fields = d.fields; update_time = d.update_time; state = if named i then stands.Pending else standing_by (sealed_entry_of s key) } in
    documents_local t key ∙ ap (λ (f : Document → Stored). option_map f (document_of t key)) (λ i d. same d i) ∙ ap (option_map (stored s key)) document ∙ sym (documents_local s key)

module _ (target : Target) where
  abbrev Apart : List (List ℕ) → Type 0
  Apart key = Concerns target key → ⊥

  all_keys : (ws : List Write) → All (λ (w : Write). Apart (written_key w)) ws → All Apart (keys_of ws)
  all_keys [] all = All-nil Apart
  all_keys (w ∷ ws) all = All-cons Apart (written_key w) (keys_of ws) (All-head (λ (x : Write). Apart (written_key x)) w ws all) (all_keys ws (All-tail (λ (x : Write). Apart (written_key x)) w ws all))

  named_write : (ws : List Write) (key : List (List ℕ)) → Contains (keys_of ws) key → Concerns target key → ((write : Write) → Contains ws write → Concerns target (written_key write) → ⊥) → ⊥
  named_write ws key among concerns never =
      All-contains Apart (keys_of ws) key (all_keys ws (All-weaker (Contains ws) (λ (x : Write). Apart (written_key x)) never ws (All-contains_itself ws))) among concerns

-- a key that a target concerns isn't among those of writes that don't concern it
apart_from : (writes : List Write) (target : Target) → ((write : Write) → Contains writes write → Concerns target (written_key write) → ⊥) → (key : List (List ℕ)) → Concerns target key → is_among (keys_of writes) key ≡ false
apart_from writes target never key concerns = not_so (is_among (keys_of writes) key) (λ among. named_write target writes key (among_in key (keys_of writes) among) concerns never)

pub quiet_enqueued : (root : Root) (s : State) (stance : Stance) (batch : Batch) (limbo : List Key) (view : Viewed) → ((write : Write) → Contains batch.writes write → Concerns view.target (written_key write) → ⊥) → IsQuiet root s stance limbo view → IsQuiet root (committed s (Enqueue batch)) stance limbo view
quiet_enqueued root s stance batch limbo view never = quiet_stays root s (committed s (Enqueue batch)) stance limbo view
    (λ key concerns. unnamed_stays s batch key (apart_from batch.writes view.target never key concerns))
    (λ key concerns. touched_same s (committed s (Enqueue batch)) key (named_enqueued s batch key (apart_from batch.writes view.target never key concerns)) refl refl)
    ((λ it. it), (λ it. it))

-- ---- behind the first batch's answer

first_named : (bs : List Batch) (key : List (List ℕ)) → is_among (keys_of (first_writes bs)) key ≡ false → is_among (named_keys (drop 1 bs)) key ≡ is_among (named_keys bs) key
first_named [] key none = refl
first_named (b ∷ bs) key none = sym (among-append (keys_of b.writes) (named_keys bs) key ∙ ap (λ x. x || is_among (named_keys bs) key) none)

first_local : (key : List (List ℕ)) (base : Option Document) (bs : List Batch) → is_among (keys_of (first_writes bs)) key ≡ false → local_document key base (drop 1 bs) ≡ local_document key base bs
first_local key base [] none = refl
first_local key base (b ∷ bs) none = ap (λ d. local_document key d bs) (sym (not_written key b.at b.writes base none))

-- the keys whose entries change are among those of the batch
pub get_all : (entries : EntryMap) (cs : List Changed) (key : List (List ℕ)) → is_among (each (λ (c : Changed). c.0) cs) key ≡ false → map.get (with_all entries cs) key ≡ map.get entries key
get_all entries [] key none = refl
get_all entries (c ∷ cs) key none =
    get_all (with_changed entries c) cs key (second_false (is_key c.0 key) (is_among (each (λ (x : Changed). x.0) cs) key) none)
    ∙ get_changed entries c key ∙ ap (λ b. cond b c.1 (map.get entries key)) (first_false (is_key c.0 key) (is_among (each (λ (x : Changed). x.0) cs) key) none)

apart : (entries : EntryMap) (writes : List Write) (results : List WriteResult) (at : Timestamp) (keys : List (List (List ℕ))) (key : List (List ℕ)) → is_among keys key ≡ false
    → is_among (each (λ (c : Changed). c.0) (filter_map (answered_by entries writes results at) keys)) key ≡ false
apart entries writes results at [] key none = refl
apart entries writes results at (k ∷ keys) key none = go (acked (cached entries k) k writes results at) (apart entries writes results at keys key (second_false (is_key k key) (is_among keys key) none))
  where
    go : (found : Option Entry) → is_among (each (λ (c : Changed). c.0) (filter_map (answered_by entries writes results at) keys)) key ≡ false
        → is_among (each (λ (c : Changed). c.0) (cons_option (option_map (λ entry. (k, Some (entry, Committed at))) found) (filter_map (answered_by entries writes results at) keys))) key ≡ false
    go None rest = rest
    go (Some entry) rest = ap (λ b. b || is_among (each (λ (c : Changed). c.0) (filter_map (answered_by entries writes results at) keys)) key) (first_false (is_key k key) (is_among keys key) none) ∙ rest

-- a key that the first batch doesn't name has the document that it had, where that batch leaves
first_stays : (s t : State) (key : List (List ℕ)) → t.batches ≡ drop 1 s.batches → map.get t.entries key ≡ map.get s.entries key → is_among (keys_of (first_writes s.batches)) key ≡ false → map.get (documents_of t) key ≡ map.get (documents_of s) key
first_stays s t key batches entries none =
    let entry : entry_of t key ≡ entry_of s key = ap (option_map (λ (x : Entry × Seal). x.0)) entries in
    let document : document_of t key ≡ document_of s key =
    (λ i. local_document key (base_of (entry i)) (batches i)) ∙ first_local key (base_of (entry_of s key)) s.batches none in
    let named : is_named t key ≡ is_named s key = ap (λ bs. is_among (named_keys bs) key) batches ∙ first_named s.batches key none in
    let same : (d : Document) → stored t key d ≡ stored s key d = λ d i. record { fields = d.fields; update_time = d.update_time; state = if named i then stands.Pending else standing_by (entries i) } in
    documents_local t key ∙ ap (λ (f : Document → Stored). option_map f (document_of t key)) (λ i d. same d i) ∙ ap (option_map (stored s key)) document ∙ sym (documents_local s key)

pub quiet_rejected : (root : Root) (s : State) (stance : Stance) (id : ℕ) (limbo : List Key) (view : Viewed) → ((write : Write) → Contains (first_writes s.batches) write → Concerns view.target (written_key write) → ⊥) → IsQuiet root s stance limbo view → IsQuiet root (committed s (Reject id)) stance limbo view
quiet_rejected root s stance id limbo view never = quiet_stays root s (committed s (Reject id)) stance limbo view
    (λ key concerns. first_stays s (committed s (Reject id)) key refl refl (apart_from (first_writes s.batches) view.target never key concerns))
    (λ key concerns. touched_same s (committed s (Reject id)) key (first_named s.batches key (apart_from (first_writes s.batches) view.target never key concerns)) refl refl)
    ((λ it. it), (λ it. it))

pub quiet_acknowledged : (root : Root) (s : State) (stance : Stance) (id : ℕ) (at : Timestamp) (results : List WriteResult) (limbo : List Key) (view : Viewed) → ((write : Write) → Contains (first_writes s.batches) write → Concerns view.target (written_key write) → ⊥) → IsQuiet root s stance limbo view → IsQuiet root (committed s (Acknowledge id at results)) stance limbo view
quiet_acknowledged root s stance id at results limbo view never = quiet_stays root s (committed s (Acknowledge id at results)) stance limbo view
    (λ key concerns. first_stays s (committed s (Acknowledge id at results)) key refl (entry_same key concerns) (apart_from (first_writes s.batches) view.target never key concerns))
    (λ key concerns. touched_same s (committed s (Acknowledge id at results)) key (first_named s.batches key (apart_from (first_writes s.batches) view.target never key concerns)) (entry_same key concerns) refl)
    ((λ it. it), (λ it. it))
  where
    entry_same : (key : List (List ℕ)) → Concerns view.target key → map.get (committed s (Acknowledge id at results)).entries key ≡ map.get s.entries key
    entry_same key concerns =
        get_all s.entries (acknowledged_keys s.entries (first_writes s.batches) results at) key
        (apart s.entries (first_writes s.batches) results at (keys_of (first_writes s.batches)) key (apart_from (first_writes s.batches) view.target never key concerns))

-- ---- what a quiet listener has raised

quiet_over : (root : Root) (s : State) (stance : Stance) (limbo : List Key) (view : Viewed) → IsQuiet root s stance limbo view → IsOver view (documents_of s)
quiet_over root s stance limbo view quiet = let is = quiet.settled.refreshes in is_over (documents_of s) is.answer is.from_cache view.raised is.shows

pub standing_over : {client : Kept} {s : State} {past : Past} (id : ℕ) (view : Viewed) → StandsFor client s past → Some view ≡ viewed client.listeners id → IsOver view (documents_of client.store.state)
standing_over {client} {s} {past} id view stands there = quiet_over client.root client.store.state (stance_in client id) (limbo_in client id) view (are_quiet stands id view (sym there))

-- ---- a client that is offline, or not

-- a view that may start and is quiet has raised a snapshot
quiet_raised : (root : Root) (s : State) (stance : Stance) (limbo : List Key) (view : Viewed) (quiet : IsQuiet root s stance limbo view) → quiet.may_start ≡ true → IsSome view.raised
quiet_raised root s stance limbo view quiet may = by view.raised refl
  where
    by : (r : Option Raised) → view.raised ≡ r → IsSome view.raised
    by (Some raised) is = ap is_some is
    by None is =
        let it = quiet.settled.refreshes in
        absurd (it.unwanted quiet.settled.silent (subst (λ (r : Option Raised). Raises (documents_of s) it.answer it.from_cache quiet.may_start r) (sym is) (inr (inr may))))

-- a quiet listener that is settled over another state is quiet there, where it may start no more, or as before
quiet_falls_by : (root : Root) (s t : State) (stance other : Stance) (limbo : List Key) (view : Viewed) (quiet : IsQuiet root s stance limbo view)
    → IsSettled root (documents_of t) (touched_keys_of t) stance.standing quiet.may_start view → HasLimbo root t stance.standing limbo view → other.standing ≡ stance.standing
    → ((IsHeldFor t.rows other.target ⊎ (other.offline ≡ true)) → IsHeldFor s.rows stance.target ⊎ (stance.offline ≡ true)) → (may : Bool) → MayStart t other may → IsQuiet root t other limbo view
quiet_falls_by root s t stance other limbo view quiet stays in_limbo standing falls may start = record {
  may_start = may;
  start = start;
  settled = subst (λ (k : Standing). IsSettled root (documents_of t) (touched_keys_of t) k may view) (sym standing) (by may refl quiet.may_start refl);
  in_limbo = subst (λ (k : Standing). HasLimbo root t k limbo view) (sym standing) in_limbo;
}
  where
    by : (b : Bool) → may ≡ b → (was : Bool) → quiet.may_start ≡ was → IsSettled root (documents_of t) (touched_keys_of t) stance.standing may view
    by b is true was = raised_stays_settled root (documents_of t) (touched_keys_of t) stance.standing quiet.may_start may view (quiet_raised root s stance limbo view quiet was) stays
    by true is false was = absurd (true≢false (sym (quiet.start.1 (falls (start.0 is))) ∙ was))
    by false is false was = subst (λ (m : Bool). IsSettled root (documents_of t) (touched_keys_of t) stance.standing m view) (was ∙ sym is) stays

-- so it is where its documents stay and are touched as before
pub quiet_falls : (root : Root) (s t : State) (stance other : Stance) (limbo : List Key) (view : Viewed) → ((key : List (List ℕ)) → Concerns view.target key → map.get (documents_of t) key ≡ map.get (documents_of s) key) → TouchesSame s t view → other.standing ≡ stance.standing
    → ((IsHeldFor t.rows other.target ⊎ (other.offline ≡ true)) → IsHeldFor s.rows stance.target ⊎ (stance.offline ≡ true)) → (may : Bool) → MayStart t other may → IsQuiet root s stance limbo view → IsQuiet root t other limbo view
quiet_falls root s t stance other limbo view same touched standing falls may start quiet =
    quiet_falls_by root s t stance other limbo view quiet
    (settled_stays_touched root (documents_of s) (documents_of t) (touched_keys_of s) (touched_keys_of t) stance.standing quiet.may_start view quiet.settled same touched)
    (limbo_stays root s t stance.standing limbo view same touched quiet.in_limbo) standing falls may start

-- and where its documents stay and its target isn't current
pub quiet_uncurrent : (root : Root) (s t : State) (stance other : Stance) (limbo : List Key) (view : Viewed) → ((key : List (List ℕ)) → Concerns view.target key → map.get (documents_of t) key ≡ map.get (documents_of s) key) → stance.standing.current ≡ false → other.standing ≡ stance.standing
    → ((IsHeldFor t.rows other.target ⊎ (other.offline ≡ true)) → IsHeldFor s.rows stance.target ⊎ (stance.offline ≡ true)) → (may : Bool) → MayStart t other may → IsQuiet root s stance limbo view → IsQuiet root t other limbo view
quiet_uncurrent root s t stance other limbo view same uncurrent standing falls may start quiet =
    quiet_falls_by root s t stance other limbo view quiet
    (settled_stays root (documents_of s) (documents_of t) (touched_keys_of s) (touched_keys_of t) stance.standing quiet.may_start view uncurrent quiet.settled same)
    (limbo_uncurrent root s t stance.standing limbo view same uncurrent quiet.in_limbo) standing falls may start
