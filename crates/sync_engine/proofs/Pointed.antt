-- the turn of a point that is committed
use Rattle.std.proofs.Common.{◌≡◌, ◌↔◌, ⊎_elim, inl, inr, ℕ, ℤ, pos, ◌+◌, ◌-◌, ◌*◌, ◌==◌, ◌<◌, ◌<ℤ◌, ◌≤◌, suc, zero, Bool, true, false, ◌&&◌, ◌||◌, not, nat_eq, List, [], ◌∷◌, length, cond, Option, Some, None, option_map, is_some, IfSome, IsTrue, IsSome, if◌then◌else◌, Vec, Global, refl, sym, ap, subst, ◌∙◌, arith}
use Rattle.std.proofs.lemmas.Bool.{eqb-true, lt-ltb, true≢false}
use Rattle.std.proofs.lemmas.Bool.Decides.{Decides-int_eq}
use Rattle.std.proofs.lemmas.Option.{none-some}
use Rattle.std.specs.FinMap as finite
use Rattle.std.specs.List.{AllPairs, AllZip, Contains, slice_get}
use Rattle.std.specs.Ordering.{int_eq}
use Rattle.document_keys.specs.KeySet.{is_key}
use Rattle.document_keys.proofs.Exact.{key_is}
use Rattle.document_keys.specs.Names.{Root}
use Rattle.client_events.specs.Spelled.{IsSpelledMessage}
use Rattle.client_events.specs.declared.event.Event.{Event}
use Rattle.client_events.specs.declared.event.Event.TheVariants as event
use Rattle.durable_state.proofs.Changed.{get_changed}
use Rattle.durable_state.proofs.Local.{documents_local}
use Rattle.durable_state.proofs.Rows.{has_still}
use Rattle.durable_state.specs.Cached.{seen_at, with_all, with_changed}
use Rattle.durable_state.specs.Documents.{documents_of, is_named, standing_by, stored}
use Rattle.durable_state.specs.Rows.{HasRow, held_at, holding, holding_from, told}
use Rattle.durable_state.specs.State.{IsNotBelow}
use Rattle.listen_protocol.specs.Calls.{Calls, Key, applied, came, changes, is_of, is_remove}
use Rattle.listen_protocol.specs.ToldKeys.{told_keys}
use Rattle.listen_protocol.specs.Transcript.{counts, is_asked_in, is_current_in, is_wanted as is_wanted_in, open_count}
use Rattle.host_api.specs.Host.{View}
use Rattle.listeners.specs.Concerns.{Concerns}
use Rattle.limbo_listens.specs.Listens.{Listens, limbo_at}
use Rattle.limbo_resolver.specs.Laws.{IsSound}
use Rattle.listeners.specs.Table.{IsWanted, Table, target_of, viewed}
use Rattle.local_store.specs.Documents.{document_of, entry_of}
use Rattle.local_store.specs.Files.{Moves}
use Rattle.local_store.specs.State.{State, committed, most_commits}
use Rattle.outcome_codec.specs.declared.parts.KeyedEntry.{KeyedEntry}
use Rattle.outcome_codec.specs.declared.parts.PointRow.{PointRow}
use Rattle.record_codec.specs.declared.commit.Commit.TheVariants.{Point}
use Rattle.record_codec.specs.Spelling.{HasSpelling}
use Rattle.remote_documents.specs.Table.{EntryMap}
use Rattle.target_cache.specs.Cache.{id_at}
use Rattle.target_cache.specs.declared.row.Held.{Held}
use Rattle.target_cache.specs.declared.row.Row.{Row}
use Rattle.value_model.specs.Documents.{Stored}
use Rattle.value_model.specs.Time.{IsMoment}
use Rattle.value_model.specs.declared.document.DocState.TheVariants as stands
use Rattle.value_model.specs.declared.document.Document.{Document}
use Rattle.value_model.specs.declared.document.Entry.{Entry}
use Rattle.value_model.specs.declared.document.Seal.{Seal}
use Rattle.value_model.specs.declared.document.Seal.TheVariants.{Seen}
use Rattle.value_model.specs.declared.message.ListenResponse.{ListenResponse}
use Rattle.value_model.specs.declared.message.ListenResponse.TheVariants as message
use Rattle.value_model.specs.declared.timestamp.Timestamp.{Timestamp}
use Rattle.views.specs.Viewed.{Viewed}
use Rattle.views.specs.declared.standing.Standing.{Standing}
use Rattle.watch_aggregator.specs.Effects.{Gives}
use Rattle.watch_aggregator.specs.Points.{IsPointOf, target_at}
use Rattle.watch_aggregator.specs.Standing.{StandsFor as AggregatorStandsFor}
use Rattle.watch_aggregator.specs.declared.effect.Effect.TheVariants as effect
use Rattle.watch_aggregator.specs.declared.point.WatchPoint.{WatchPoint}
use Rattle.watch_aggregator.specs.declared.point.WatchTarget.{WatchTarget}
use Rattle.watch_points.specs.PointCommit.{ArePartsOf, IsPointCommit}
use Rattle.watch_points.specs.SpelledCalls.{AreSpelledCalls}
use Rattle.overlays.specs.LocalDocument.{base_of, local_document}
use Rattle.client_turns.specs.Answers.{Answers}
use Rattle.client_turns.specs.Hearing.{HeardTurn, commits_if_left, point}
use Rattle.client_turns.specs.Hearing as hearing
use Rattle.sync_engine.specs.Moving.{AreCurrentOf, AreMoved, IsCurrentAt}
use Rattle.client_turns.specs.Past.{Past, Turn}
use Rattle.client_turns.specs.Settling.{IsHeldRow, Stance, current_with, stance_by, standing_or, HasTargetRow}
use Rattle.client_turns.specs.LimboListens.{heard_limbo, limbo_of}
use Rattle.sync_engine.specs.Standing.{IsDue, IsQuiet, Kept, StandsFor, Watches, limbo_in, stance_in, standing_in}
use Rattle.sync_engine.specs.Stream.{Applies, Hears, resets_of}
use Rattle.sync_engine.specs.Telling.{HandsSettled, IsQuietOrAmong, IsShown, KeepsRest, MakesOne, MovesBy, Raises}
use Rattle.client_turns.specs.Turn.{answered_next}
use Rattle.client_turns.specs.Turns.{after, commits, refused}
use Rattle.client_turns.specs.Watching.{calls_of, current_keys, if_so, is_mismatch, is_point, is_wanted, keys_at_point, listened, passed}
use Rattle.sync_engine.specs.declared.current.CurrentTarget.{CurrentTarget}
use Rattle.client_turns.specs.declared.online.OnlineState.TheVariants.{Online}
use Rattle.sync_engine.specs.declared.out.Out.{Out}
use Rattle.sync_engine.specs.declared.out.Outcome.TheVariants.{Done}
use Rattle.client_turns.specs.declared.refusal.Refusal.TheVariants.{IdsSpent}
use Rattle.sync_engine.specs.declared.watch_stream.Due.TheVariants.{Nothing}
use Rattle.sync_engine.specs.declared.watch_stream.WatchStream.{WatchStream}
use Rattle.sync_engine.proofs.Committed.{makes_by, moves_by}
use Rattle.sync_engine.proofs.Following.{Follows, are_quiet}
use Rattle.sync_engine.proofs.Heard.{heard_still}
use Rattle.sync_engine.proofs.Quiet.{quiet_uncurrent}
use Rattle.sync_engine.proofs.Handing.{as_done, handed, no_reset}
use Rattle.sync_engine.proofs.Turning.{among_or_not, stays_on, viewed_linked}
use Rattle.client_turns.proofs.Wanted.{first_among, later_among, wanted_in}

-- ---- the rows behind a point

-- the row of another id stays
holding_other : (rows : List Row) (first id place : ℕ) (held : Option Held) → (2 * place + first ≡ id → ⊥) → slice_get (holding_from first id held rows) place ≡ slice_get rows place
holding_other [] first id place held apart = refl
holding_other (row ∷ rows) first id zero held apart = by (nat_eq first id) refl
  where
    by : (b : Bool) → nat_eq first id ≡ b → Some (if b then record row { held = held } else row) ≡ Some row
    by true same = let at : first ≡ id = eqb-true first id same in absurd (apart (omega (arith, at)))
    by false other = refl
holding_other (row ∷ rows) first id (suc place) held apart = holding_other rows (first + 2) id place held (λ same. apart (omega (arith, same)))

held_other : (rows : List Row) (id : ℕ) (held : Option Held) (t : ℤ) → (t ≡ pos id → ⊥) → IsHeldRow (holding id held rows) t ↔ IsHeldRow rows t
held_other rows id held t apart = (
  λ it. record { row = it.row; of_id = record { place = it.of_id.place; is = it.of_id.is; there = sym (same it.of_id.place it.of_id.is) ∙ it.of_id.there }; held = it.held },
  λ it. record { row = it.row; of_id = record { place = it.of_id.place; is = it.of_id.is; there = same it.of_id.place it.of_id.is ∙ it.of_id.there }; held = it.held },
)
  where
    same : (place : ℕ) → t ≡ pos (id_at place) → slice_get (holding_from 2 id held rows) place ≡ slice_get rows place
    same place is = holding_other rows 2 id place held (λ at. apart (is ∙ ap pos at))

-- so does the row of an id that none of the point's rows has
held_told : (at : Timestamp) (told_rows : List PointRow) (rows : List Row) (t : ℤ) → ((row : PointRow) → Contains told_rows row → t ≡ pos row.id → ⊥) → IsHeldRow (told at told_rows rows) t ↔ IsHeldRow rows t
held_told at [] rows t apart = (λ it. it, λ it. it)
held_told at (row ∷ told_rows) rows t apart =
    let rest = held_told at told_rows (holding row.id (Some (held_at at row)) rows) t (λ r there. apart r (later_among row r told_rows there)) in
    let one = held_other rows row.id (Some (held_at at row)) t (apart row (first_among row told_rows)) in
    (λ it. one.0 (rest.0 it), λ it. rest.1 (one.1 it))

-- each id keeps its row
has_told : (at : Timestamp) (told_rows : List PointRow) (rows : List Row) (id : ℕ) → HasRow rows id → HasRow (told at told_rows rows) id
has_told at [] rows id has = has
has_told at (row ∷ told_rows) rows id has = has_told at told_rows (holding row.id (Some (held_at at row)) rows) id (has_still rows row.id id (Some (held_at at row)) has)

row_told : (at : Timestamp) (told_rows : List PointRow) (rows : List Row) (t : ℤ) → HasTargetRow rows t → HasTargetRow (told at told_rows rows) t
row_told at told_rows rows t has =
    let is = has.1 in
    subst (HasTargetRow (told at told_rows rows)) (sym is.is)
    (has_told at told_rows rows (id_at is.place) (has.0, record { place = is.place; is = refl; there = is.there }))

-- ---- the documents behind a point

-- a key that is none of the changed ones keeps its entry
entry_stays : (entries : EntryMap) (told_entries : List KeyedEntry) (key : List (List ℕ)) → ((e : KeyedEntry) → Contains told_entries e → e.key ≡ key → ⊥) → finite.get (with_all entries (seen_at told_entries)) key ≡ finite.get entries key
entry_stays entries [] key apart = refl
entry_stays entries (e ∷ es) key apart =
    entry_stays (with_changed entries (e.key, Some (e.entry, Seen))) es key (λ x there. apart x (later_among e x es there))
    ∙ get_changed entries (e.key, Some (e.entry, Seen)) key ∙ by (is_key e.key key) refl
  where
    by : (b : Bool) → is_key e.key key ≡ b → cond b (Some (e.entry, Seen)) (finite.get entries key) ≡ finite.get entries key
    by true same = absurd (apart e (first_among e es) (key_is e.key key same))
    by false other = refl

document_stays : (s : State) (at : Timestamp) (entries : List KeyedEntry) (rows : List PointRow) (key : List (List ℕ)) → finite.get (with_all s.entries (seen_at entries)) key ≡ finite.get s.entries key
    → finite.get (documents_of (committed s (Point at entries rows))) key ≡ finite.get (documents_of s) key
document_stays s at entries rows key same =
    let t = committed s (Point at entries rows) in
    let entry : entry_of t key ≡ entry_of s key = ap (option_map (λ (x : Entry × Seal). x.0)) same in
    let document : document_of t key ≡ document_of s key = λ i. local_document key (base_of (entry i)) s.batches in
    let kept : (d : Document) → stored t key d ≡ stored s key d = λ d i. record { fields = d.fields; update_time = d.update_time; state = if is_named s key then stands.Pending else standing_by (same i) } in
    documents_local t key ∙ ap (λ (f : Document → Stored). option_map f (document_of t key)) (λ i d. kept d i) ∙ ap (option_map (stored s key)) document ∙ sym (documents_local s key)

-- ---- whether a row is held

-- one of the rows, the first of which has this id, has the id t and holds something
record HeldFrom (rows : List Row) (first : ℕ) (t : ℤ) : Type 0 where
  pub place : ℕ
  pub row : Row
  pub is : t ≡ pos (2 * place + first)
  pub there : slice_get rows place ≡ Some row
  pub some : IsSome row.held

held_from : (rows : List Row) (first : ℕ) (t : ℤ) → (b : Bool) × (IsTrue b ↔ HeldFrom rows first t)
held_from [] first t = (false, ((λ is. absurd (true≢false (sym is))), (λ it. absurd (none-some it.row it.there))))
held_from (row ∷ rows) first t = by (int_eq t (pos first)) refl (is_some row.held) refl (held_from rows (first + 2) t)
  where
    later : HeldFrom rows (first + 2) t → HeldFrom (row ∷ rows) first t
    later it =
        let more : 2 * it.place + (first + 2) ≡ 2 * suc it.place + first = omega arith in
        record { place = suc it.place; row = it.row; is = it.is ∙ ap pos more; there = it.there; some = it.some }

    down : (int_eq t (pos first) && is_some row.held) ≡ false → (place : ℕ) (r : Row) → t ≡ pos (2 * place + first) → slice_get (row ∷ rows) place ≡ Some r → IsSome r.held → HeldFrom rows (first + 2) t
    down not_so zero r is there some =
        let here : 2 * 0 + first ≡ first = omega arith in
        let at : int_eq t (pos first) ≡ true = (Decides-int_eq t (pos first)).1 (is ∙ ap pos here) in
        let one : row ≡ r = cc in
        let held : is_some row.held ≡ true = ap (λ (x : Row). is_some x.held) one ∙ some in
        absurd (true≢false (sym (λ i. at i && held i) ∙ not_so))
    down not_so (suc place) r is there some =
        let more : 2 * suc place + first ≡ 2 * place + (first + 2) = omega arith in
        record { place = place; row = r; is = is ∙ ap pos more; there = there; some = some }

    by : (a : Bool) → int_eq t (pos first) ≡ a → (h : Bool) → is_some row.held ≡ h → (b : Bool) × (IsTrue b ↔ HeldFrom rows (first + 2) t) → (b : Bool) × (IsTrue b ↔ HeldFrom (row ∷ rows) first t)
    by true at true held rest =
        let here : first ≡ 2 * 0 + first = omega arith in
        (true, ((λ is. record { place = 0; row = row; is = (Decides-int_eq t (pos first)).0 at ∙ ap pos here; there = refl; some = held }), (λ it. refl)))
    by true at false held rest = (rest.0, ((λ is. later (rest.1.0 is)), (λ it. rest.1.1 (down (λ i. at i && held i) it.place it.row it.is it.there it.some))))
    by false at h held rest = (rest.0, ((λ is. later (rest.1.0 is)), (λ it. rest.1.1 (down (ap (λ b. b && is_some row.held) at) it.place it.row it.is it.there it.some))))

pub decide_held : (rows : List Row) (t : ℤ) → (b : Bool) × (IsTrue b ↔ IsHeldRow rows t)
decide_held rows t =
    let it = held_from rows 2 t in (
      it.0,
      (
        (λ is. let found = it.1.0 is in record { row = found.row; of_id = record { place = found.place; is = found.is; there = found.there }; held = found.some }),
        (λ held. it.1.1 (record { place = held.of_id.place; row = held.row; is = held.of_id.is; there = held.of_id.there; some = held.held })),
      ),
    )

-- ---- a message that gives a point

-- it is a change of targets that isn't a REMOVE, without ids and with a time
pub record IsPointMessage (response : ListenResponse) : Type 0 where
  pub is_one : is_point response ≡ true
  pub kept : (t : ℤ) → changes is_remove response t ≡ false
  pub agrees : (h : Calls) (t : ℤ) → is_mismatch h response t ≡ false

pub point_message : (h : Calls) (response : ListenResponse) (at : Timestamp) → Gives h response (effect.Point at) → IsPointMessage response
point_message h (message.Target change) at gives = ⊎_elim
    (λ ended. absurd ended.1)
    (λ timed. record {
      is_one = λ i. (length (timed.1.all i) == 0) && is_some (timed.1.time i);
      kept = λ t. ap (λ b. b && is_of change.target_ids t) timed.0;
      agrees = λ g t. refl;
    })
    gives
point_message h (message.Filter filter) at gives = absurd (by (counts filter.target_id h && not (length (told_keys filter.target_id h) == filter.count)) gives)
  where
    by : (b : Bool) → effect.Point at ≡ (if b then effect.Mismatch filter.target_id (length (told_keys filter.target_id h)) filter.count else effect.Nothing) → ⊥
    by true is = cc
    by false is = cc
point_message h (message.Change change) at gives = absurd (cc)
point_message h (message.Delete delete) at gives = absurd (cc)
point_message h (message.Remove remove) at gives = absurd (cc)

-- what is asked stays behind a message that isn't a REMOVE
asked_kept : (t : ℤ) (response : ListenResponse) (h : Calls) → changes is_remove response t ≡ false → is_asked_in t (came response ∷ h) ≡ is_asked_in t h
asked_kept t response h kept = ap (λ b. is_wanted_in t h && not ((if b then open_count t h - 1 else open_count t h) == 0)) kept

-- ---- the turn

-- what was done up to the point: the client was this, the message came, the point was applied, its commit was made, and these
-- targets are current from it on
pub record IsPointed (old mid : Kept) (past : Past) (response : ListenResponse) (at : Timestamp) (entries : List KeyedEntry) (rows : List PointRow) (ids : List ℕ) : Type 0 where
  pub heard : WatchStream
  pub passed_on : WatchStream
  pub hears : Hears response old.watch heard
  pub it : WatchPoint
  pub applies : Applies it heard passed_on
  pub commit : IsPointCommit old.store.state (came response ∷ calls_of past) at entries rows
  pub asked : Kept
  pub asked_listeners : asked.listeners ≡ old.listeners
  pub asked_current : asked.watch.current ≡ old.watch.current
  pub moved : AreMoved asked entries it.targets.items ids
  pub current : AreCurrentOf old.listeners it.targets.items mid.watch.current.targets.items
  pub root : mid.root ≡ old.root
  pub listeners : mid.listeners ≡ old.listeners
  pub held : mid.limbo ≡ old.limbo
  pub writes : mid.writes ≡ old.writes
  pub opening : mid.watch.is_open ≡ passed_on.is_open
  pub aggregator : mid.watch.aggregator ≡ passed_on.aggregator
  pub online : mid.watch.online ≡ passed_on.online
  pub due : mid.watch.due ≡ passed_on.due
  pub state : mid.store.state ≡ committed old.store.state (Point at entries rows)

module _ {old mid : Kept} {past : Past} (response : ListenResponse) (at : Timestamp) (entries : List KeyedEntry) (rows : List PointRow) (ids : List ℕ) (of_it : IsPointed old mid past response at entries rows ids)
    (stands : StandsFor old old.store.state past) (idle : old.watch.due ≡ Nothing) (opening : old.watch.is_open ≡ true) (spelled : IsSpelledMessage response) (gives : Gives (calls_of past) response (effect.Point at)) where
  abbrev s : State
  s = old.store.state

  abbrev e : Event
  e = event.Watch response

  abbrev answer : Turn
  answer = commits (Point at entries rows) []

  abbrev next : Past
  next = answered_next old.store.state past (event.Watch response) answer

  abbrev h : Calls
  h = came response ∷ calls_of past

  message_is : IsPointMessage response
  message_is = point_message (calls_of past) response at gives

  is_one : is_point response ≡ true
  is_one = message_is.is_one

  parts : IsPointOf (came response ∷ calls_of past) of_it.it × AggregatorStandsFor of_it.passed_on.aggregator (applied ∷ came response ∷ calls_of past)
  parts = of_it.applies.calls (came response ∷ calls_of past) (of_it.hears.calls (calls_of past) stands.watch.calls)

  calls_are : calls_of next ≡ applied ∷ came response ∷ calls_of past
  calls_are = ap (λ b. passed b (Some (Point at entries rows)) (came response ∷ calls_of past)) is_one

  -- a target that is CURRENT at the point
  at_point : (target : WatchTarget) → Contains of_it.it.targets.items target → (counts target.id (came response ∷ calls_of past) ≡ true) × (target ≡ target_at (came response ∷ calls_of past) target.id)
  at_point target there = (parts.0.targets target).0 there

  now_at : (x : ℤ) → counts x (came response ∷ calls_of past) ≡ true → Contains of_it.it.targets.items (target_at (came response ∷ calls_of past) x)
  now_at x counting = (parts.0.targets (target_at (came response ∷ calls_of past) x)).1 (counting, refl)

  current_at : (x : ℤ) → standing_in mid.watch.current.targets.items x ≡ option_map current_with (if_so (is_wanted x past && true) (keys_at_point x (came response ∷ calls_of past)))
  current_at x = by (is_wanted x past) refl (counts x h) refl (is_current_in x h) refl
    where
      shut : (target : WatchTarget) → IsCurrentAt old.listeners of_it.it.targets.items target → target.id ≡ x → (is_wanted x past ≡ true) × (counts x (came response ∷ calls_of past) ≡ true) × (is_current_in x (came response ∷ calls_of past) ≡ true)
      shut target is same =
          let both = at_point target is.one in (
            (wanted_in old.listeners past stands.targets x).0 (subst (IsWanted old.listeners) same is.wanted),
            subst (λ t. counts t (came response ∷ calls_of past) ≡ true) same both.0,
            subst (λ t. is_current_in t (came response ∷ calls_of past) ≡ true) same (sym (ap (λ (t : WatchTarget). t.current) both.1) ∙ is.current),
          )

      by : (w : Bool) → is_wanted x past ≡ w → (c : Bool) → counts x (came response ∷ calls_of past) ≡ c → (d : Bool) → is_current_in x (came response ∷ calls_of past) ≡ d
          → standing_in mid.watch.current.targets.items x ≡ option_map current_with (if_so (w && true) (if c && d then Some (told_keys x (came response ∷ calls_of past)) else None))
      by true wanted true counting true current = of_it.current.each (target_at (came response ∷ calls_of past) x) (record { one = now_at x counting; current = current; wanted = (wanted_in old.listeners past stands.targets x).1 wanted })
      by false wanted c counting d current = of_it.current.none x (λ target is same. true≢false (sym (shut target is same).0 ∙ wanted))
      by true wanted false counting d current = of_it.current.none x (λ target is same. true≢false (sym (shut target is same).1 ∙ counting))
      by true wanted true counting false current = of_it.current.none x (λ target is same. true≢false (sym (shut target is same).2 ∙ current))

  watch : Watches mid.watch next (limbo_of past)
  watch = record {
    opening = of_it.opening ∙ of_it.applies.rest.opening ∙ of_it.hears.opening ∙ stands.watch.opening;
    calls = subst (λ (a : _). AggregatorStandsFor a (calls_of next)) (sym of_it.aggregator) (subst (AggregatorStandsFor of_it.passed_on.aggregator) (sym calls_are) parts.1);
    online = of_it.online ∙ of_it.applies.rest.online ∙ of_it.hears.online;
    current = λ x. current_at x ∙ sym (ap (λ b. option_map current_with (if_so (is_wanted x past && true) (if b && true then keys_at_point x (came response ∷ calls_of past) else if is_mismatch (calls_of past) response x || false then None else current_keys x past))) is_one);
    spelled = subst AreSpelledCalls (sym calls_are) (spelled, stands.watch.spelled);
    due = λ opened x. ⊎_elim
        (λ due. absurd (subst (λ (d : _). IsDue past (limbo_of past) d x) idle due))
        (λ asks. inr (ap (is_asked_in x) calls_are ∙ asked_kept x response (calls_of past) (message_is.kept x) ∙ asks))
        (stands.watch.due opened x);
  }

  goes_on : limbo_of past ≡ heard_limbo (calls_of past) response (limbo_of past)
  goes_on = heard_still (calls_of past) response (limbo_of past) (λ t is. absurd (true≢false (sym is ∙ message_is.kept t)))

  follows_point : Follows mid (after old.store.state answer.commit) next (heard_limbo (calls_of past) response (limbo_of past))
  follows_point = record {
    state = of_it.state;
    listeners = λ id. ap (λ (t : Table). viewed t id) of_it.listeners ∙ stands.listeners id;
    targets = λ id. ap (λ (t : Table). target_of t id) of_it.listeners ∙ stands.targets id;
    rows = λ id. has (listened id past) (stands.rows id);
    unshown = λ id none. ap (λ (l : Listens). limbo_at l id) of_it.held ∙ stands.unshown id none;
    limbo_is = ap (λ (l : Listens). l.limbo) of_it.held ∙ stands.limbo_is ∙ goes_on;
    sound = subst IsSound goes_on stands.sound;
    watch = subst (Watches mid.watch next) goes_on watch;
    writes = stays_on (sym of_it.writes) stands.writes;
    pending = stands.pending;
  }
    where
      has : (o : Option ℤ) → IfSome o (HasTargetRow old.store.state.rows) → IfSome o (HasTargetRow (told at rows old.store.state.rows))
      has None it = tt
      has (Some t) it = row_told at rows old.store.state.rows t it

  -- ---- the listeners that aren't among the moved ones

  moved_concerned : (x : KeyedEntry) → Contains entries x → (id : ℕ) (view : Viewed) → viewed old.listeners id ≡ Some view → Concerns view.target x.key → Contains ids id
  moved_concerned x there id view is concerns = of_it.moved.concerned x there id (record { view = view; there = ap (λ (t : Table). viewed t id) of_it.asked_listeners ∙ is; concerns = concerns })

  moved_was : (id : ℕ) (t : ℤ) → target_of old.listeners id ≡ Some t → IsSome (standing_in old.watch.current.targets.items t) → Contains ids id
  moved_was id t is some = of_it.moved.was id t (ap (λ (x : Table). target_of x id) of_it.asked_listeners ∙ is) (subst (λ (c : _). IsSome (standing_in c.targets.items t)) (sym of_it.asked_current) some)

  moved_now : (id : ℕ) (target : WatchTarget) → Contains of_it.it.targets.items target → target.current ≡ true → target_of old.listeners id ≡ Some target.id → Contains ids id
  moved_now id target there current is = of_it.moved.now id target there current (ap (λ (x : Table). target_of x id) of_it.asked_listeners ∙ is)

  module _ (id : ℕ) (view : Viewed) (t : ℤ) (was : viewed old.listeners id ≡ Some view) (linked : target_of old.listeners id ≡ Some t) (never : Contains ids id → ⊥) where
    uncurrent : (o : Option Standing) → standing_in old.watch.current.targets.items t ≡ o → standing_in old.watch.current.targets.items t ≡ None
    uncurrent None is = is
    uncurrent (Some standing) is = absurd (never (moved_was id t linked (ap is_some is)))

    was_none : standing_in old.watch.current.targets.items t ≡ None
    was_none = uncurrent (standing_in old.watch.current.targets.items t) refl

    now_none : standing_in mid.watch.current.targets.items t ≡ None
    now_none = of_it.current.none t (λ target is same. never (moved_now id target is.one is.current (linked ∙ ap Some (sym same))))

    -- none of the point's rows is its target's
    row_apart : (row : PointRow) → Contains rows row → t ≡ pos row.id → ⊥
    row_apart row there same =
        let is = (of_it.commit.has row).0 there in
        never (moved_now id (target_at (came response ∷ calls_of past) (pos row.id)) (now_at (pos row.id) is.counting) is.current (linked ∙ ap Some same))

    documents : (key : List (List ℕ)) → Concerns view.target key → finite.get (documents_of (committed old.store.state (Point at entries rows))) key ≡ finite.get (documents_of old.store.state) key
    documents key concerns = document_stays old.store.state at entries rows key (entry_stays old.store.state.entries entries key (λ x there same. never (moved_concerned x there id view was (subst (Concerns view.target) (sym same) concerns))))

    old_stance : stance_in old id ≡ stance_by (Some t) (λ x. standing_in old.watch.current.targets.items x) old.watch.online
    old_stance = ap (λ (o : Option ℤ). stance_by o (λ x. standing_in old.watch.current.targets.items x) old.watch.online) linked

    mid_stance : stance_in mid id ≡ stance_by (Some t) (λ x. standing_in mid.watch.current.targets.items x) Online
    mid_stance = λ i. stance_by (target i) (λ x. standing_in mid.watch.current.targets.items x) (online i)
      where
        target : target_of mid.listeners id ≡ Some t
        target = ap (λ (x : Table). target_of x id) of_it.listeners ∙ linked

        online : mid.watch.online ≡ Online
        online = of_it.online ∙ of_it.applies.rest.online ∙ of_it.hears.online

    quiet_still : IsQuiet mid.root mid.store.state (stance_in mid id) (limbo_in mid id) view
    quiet_still =
        let may = decide_held (told at rows old.store.state.rows) t in
        subst (λ (r : Root). IsQuiet r mid.store.state (stance_in mid id) (limbo_in mid id) view) (sym of_it.root)
        (subst (λ (x : State). IsQuiet old.root x (stance_in mid id) (limbo_in mid id) view) (sym of_it.state)
        (subst (λ (l : Listens). IsQuiet old.root (committed old.store.state (Point at entries rows)) (stance_in mid id) (limbo_at l id) view) (sym of_it.held)
        (subst (λ (k : Stance). IsQuiet old.root (committed old.store.state (Point at entries rows)) k (limbo_in old id) view) (sym mid_stance)
        (quiet_uncurrent old.root old.store.state (committed old.store.state (Point at entries rows))
        (stance_by (Some t) (λ x. standing_in old.watch.current.targets.items x) old.watch.online) (stance_by (Some t) (λ x. standing_in mid.watch.current.targets.items x) Online) (limbo_in old id) view documents
        (ap (λ (o : Option Standing). (standing_or o).current) was_none)
        (ap standing_or now_none ∙ sym (ap standing_or was_none))
        (λ it. ⊎_elim (λ held. inl ((held_told at rows old.store.state.rows t row_apart).0 held)) (λ off. absurd (true≢false (sym off))) it)
        may.0 (λ is. inl (may.1.0 is), λ it. may.1.1 (⊎_elim (λ held. held) (λ off. absurd (true≢false (sym off))) it))
        (subst (λ (k : Stance). IsQuiet old.root old.store.state k (limbo_in old id) view) old_stance (are_quiet stands id view was))))))

  quiet_or_moved : IsQuietOrAmong ids mid
  quiet_or_moved id view there = ⊎_elim inl (λ never. inr (by never (target_of old.listeners id) refl)) (among_or_not ids id)
    where
      was : viewed old.listeners id ≡ Some view
      was = ap (λ (t : Table). viewed t id) (sym of_it.listeners) ∙ there

      by : (Contains ids id → ⊥) → (o : Option ℤ) → target_of old.listeners id ≡ o → IsQuiet mid.root mid.store.state (stance_in mid id) (limbo_in mid id) view
      by never None none = absurd (viewed_linked old.listeners id view was none)
      by never (Some t) linked = quiet_still id view t was linked never

  -- ---- what is handed out

  pub point_answers : IsNotBelow old.store.state.last_read at → old.store.state.number < most_commits → Answers old.store.state past (event.Watch response) answer
  point_answers time few = subst (λ (b : Bool). HeardTurn old.store.state past response b answer) (sym (sym stands.watch.opening ∙ opening))
      (point at entries rows gives time of_it.commit (sym (ap (λ b. if b then commits (Point at entries rows) [] else refused IdsSpent) (lt-ltb old.store.state.number most_commits few))))

  pub hands_point : {new : Kept} {before given : _} {vec : Vec Out Global} → IsNotBelow old.store.state.last_read at → old.store.state.number < most_commits → KeepsRest mid new → given ≡ ids → (IsQuietOrAmong given mid → Raises mid new before vec.items) → before ≡ []
      → HandsSettled old.store.state past (event.Watch response) (Done vec) new
  hands_point {new} {before} {given} {vec} time few rest same raises none =
      as_done refl (no_reset past (event.Watch response) (Some (Point at entries rows)) new (λ t. ap (λ b. b || false) (message_is.agrees (calls_of past) t)) (ap resets_of (ap (λ (w : WatchStream). w.due) rest.watch ∙ of_it.due ∙ of_it.applies.rest.due ∙ of_it.hears.due ∙ idle)))
      (handed old.store.state past (event.Watch response) answer mid new before vec.items (point_answers time few) refl follows_point rest
      (raises (subst (λ (l : List ℕ). IsQuietOrAmong l mid) (sym same) quiet_or_moved)) (λ id. refl)
      (subst (λ (os : List Out). AllZip (IsShown new) os []) (sym none) tt))

-- ---- where no commit was made

module _ {client : Kept} {past : Past} (response : ListenResponse) (at : Timestamp) (stands : StandsFor client client.store.state past) (opening : client.watch.is_open ≡ true) (gives : Gives (calls_of past) response (effect.Point at)) (time : IsNotBelow client.store.state.last_read at) where
  as_point : (entries : List KeyedEntry) (rows : List PointRow) (t : Turn) → IsPointCommit client.store.state (came response ∷ calls_of past) at entries rows → t ≡ commits_if_left client.store.state (Point at entries rows) [] → Answers client.store.state past (event.Watch response) t
  as_point entries rows t commit is = subst (λ (b : Bool). HeardTurn client.store.state past response b t) (sym (sym stands.watch.opening ∙ opening)) (point at entries rows gives time commit is)

  -- no number is left
  pub point_spent : most_commits ≤ client.store.state.number → Answers client.store.state past (event.Watch response) (refused IdsSpent)
  point_spent many = subst (λ (b : Bool). HeardTurn client.store.state past response b (refused IdsSpent)) (sym (sym stands.watch.opening ∙ opening)) (hearing.point_spent at gives time many refl)

  pub makes_point : (entries : List KeyedEntry) (rows : List PointRow) → client.store.state.number < most_commits → IsPointCommit client.store.state (came response ∷ calls_of past) at entries rows → MakesOne client.store.state past (event.Watch response)
  makes_point entries rows few commit =
      makes_by (commits (Point at entries rows) []) (Point at entries rows)
      (as_point entries rows (commits (Point at entries rows) []) commit (sym (ap (λ b. if b then commits (Point at entries rows) [] else refused IdsSpent) (lt-ltb client.store.state.number most_commits few))))
      refl

  -- what a crash finds
  pub moves_point : {before later : View} (entries : List KeyedEntry) (rows : List PointRow) → client.store.state.number < most_commits → IsPointCommit client.store.state (came response ∷ calls_of past) at entries rows
      → Moves client.store.state (committed client.store.state (Point at entries rows)) before later → MovesBy client.store.state past (event.Watch response) before later
  moves_point entries rows few commit moves =
      moves_by (commits (Point at entries rows) [])
      (as_point entries rows (commits (Point at entries rows) []) commit (sym (ap (λ b. if b then commits (Point at entries rows) [] else refused IdsSpent) (lt-ltb client.store.state.number most_commits few))))
      moves

-- the parts of a point
pub parts_of : {heard passed_on old : WatchStream} {it : WatchPoint} {h : Calls} (response : ListenResponse) → Hears response old heard → Applies it heard passed_on → AggregatorStandsFor old.aggregator h → ArePartsOf (came response ∷ h) it.entries.items it.targets.items
parts_of {heard} {passed_on} {old} {it} {h} response hears applies stands = (it, (applies.calls (came response ∷ h) (hears.calls h stands)).0, refl, refl)

-- its read time is a moment
pub point_moment : (h : Calls) (response : ListenResponse) (at : Timestamp) → Gives h response (effect.Point at) → IsSpelledMessage response → IsMoment at
point_moment h (message.Target change) at gives spelled = ⊎_elim (λ ended. absurd ended.1) (λ timed. subst (λ (o : Option Timestamp). IfSome o IsMoment) timed.1.time spelled.time) gives
point_moment h (message.Filter filter) at gives spelled = absurd (by (counts filter.target_id h && not (length (told_keys filter.target_id h) == filter.count)) gives)
  where
    by : (b : Bool) → effect.Point at ≡ (if b then effect.Mismatch filter.target_id (length (told_keys filter.target_id h)) filter.count else effect.Nothing) → ⊥
    by true is = cc
    by false is = cc
point_moment h (message.Change change) at gives spelled = absurd (cc)
point_moment h (message.Delete delete) at gives spelled = absurd (cc)
point_moment h (message.Remove remove) at gives spelled = absurd (cc)

pub made_commit : {state s : State} {h : Calls} {at : Timestamp} {es given : List KeyedEntry} {rs given_rows : List PointRow} → state ≡ s → given ≡ es → given_rows ≡ rs → IsPointCommit state h at es rs → IsPointCommit s h at given given_rows
made_commit {state} {s} {h} {at} {es} {given} {rs} {given_rows} states entries rows it =
    subst (λ (x : State). IsPointCommit x h at given given_rows) states
    (subst (λ (x : List KeyedEntry). IsPointCommit state h at x given_rows) (sym entries)
    (subst (λ (x : List PointRow). IsPointCommit state h at es x) (sym rows) it))

pub made_spelled : {at : Timestamp} {es given : List KeyedEntry} {rs given_rows : List PointRow} → given ≡ es → given_rows ≡ rs → HasSpelling (Point at es rs) → HasSpelling (Point at given given_rows)
made_spelled {at} {es} {given} {rs} {given_rows} entries rows it =
    subst (λ (x : List KeyedEntry). HasSpelling (Point at x given_rows)) (sym entries)
    (subst (λ (x : List PointRow). HasSpelling (Point at es x)) (sym rows) it)

pub moved_as : {asked : Kept} {es given : List KeyedEntry} {targets others : List WatchTarget} {ids : List ℕ} → given ≡ es → others ≡ targets → AreMoved asked given others ids → AreMoved asked es targets ids
moved_as {asked} {es} {given} {targets} {others} {ids} entries same it = subst (λ (x : List KeyedEntry). AreMoved asked x targets ids) entries (subst (λ (x : List WatchTarget). AreMoved asked given x ids) same it)

pub parts_as : {h : Calls} {es given : List (Key × Entry)} {ts others : List WatchTarget} → given ≡ es → others ≡ ts → ArePartsOf h es ts → ArePartsOf h given others
parts_as {h} {es} {given} {ts} {others} entries targets it = (it.0, it.1, it.2 ∙ sym entries, it.3 ∙ sym targets)

pub current_as : {table other : Table} {targets : List WatchTarget} {current : List CurrentTarget} → table ≡ other → AreCurrentOf table targets current → AreCurrentOf other targets current
current_as {table} {other} {targets} {current} same it = subst (λ (t : Table). AreCurrentOf t targets current) same it

pub point_ascends : {heard passed_on old : WatchStream} {it : WatchPoint} {h : Calls} (response : ListenResponse) → Hears response old heard → Applies it heard passed_on → AggregatorStandsFor old.aggregator h → AllPairs (λ (a b : WatchTarget). a.id <ℤ b.id) it.targets.items
point_ascends {heard} {passed_on} {old} {it} {h} response hears applies stands = (applies.calls (came response ∷ h) (hears.calls h stands)).0.ids_ascend
