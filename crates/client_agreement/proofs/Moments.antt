-- All times of a client are moments of the years 1 to 9999.
use Rattle.std.proofs.Common.{◌≡◌, ◌∙◌, inl, inr, ℕ, ℤ, Bool, true, false, ◌&&◌, ◌||◌, nat_lt, not, cond, List, [], ◌∷◌, length, Option, Some, None, refl, sym, ap, subst}
use Rattle.std.specs.Prelude.{◌==◌}
use Rattle.std.specs.FinMap as finite
use Rattle.std.specs.List.{All, Contains}
use Rattle.std.specs.Option.{ForSome, IfSome, option_map}
use Rattle.std.proofs.lemmas.List.Elements.{All-contains}
use Rattle.std.proofs.lemmas.Option.{same_Some}
use Rattle.acknowledgements.specs.Acked.{acked}
use Rattle.acknowledgements.proofs.Times.{contains_cases, contains_here, contains_none, contains_there}
use Rattle.agreement.specs.Backend.{Key}
use Rattle.client_events.specs.Spelled.{IsSpelledEvent, IsSpelledMessage}
use Rattle.client_events.specs.declared.event.Event.{Event}
use Rattle.client_events.specs.declared.event.Event.TheVariants as event
use Rattle.document_keys.specs.KeySet.{is_key}
use Rattle.document_keys.specs.Names.{Root}
use Rattle.durable_state.specs.Cached.{Changed, acknowledged_keys, cached, dropped, first_writes, seen_at, with_all, with_changed}
use Rattle.durable_state.specs.Documents.{sealed_entry_of}
use Rattle.durable_state.proofs.Changed.{get_changed}
use Rattle.host_api.specs.Host.{Files}
use Rattle.listen_protocol.specs.Buffer.{any_counts, buffered, changed_entry, kept_of, left_by, stays, with_left}
use Rattle.listen_protocol.specs.Calls.{Calls, asked, unasked, came, applied, skipped}
use Rattle.listen_protocol.specs.ToldKeys.{told_keys}
use Rattle.listen_protocol.specs.Transcript.{counts}
use Rattle.local_store.specs.Files.{FindsState}
use Rattle.local_store.specs.State.{Replays}
use Rattle.durable_state.specs.State.{State, committed, most_commits, start}
use Rattle.mutations.specs.declared.batch.Batch.{Batch}
use Rattle.mutations.specs.declared.results.WriteResponse.{WriteResponse}
use Rattle.mutations.specs.declared.results.WriteResult.{WriteResult}
use Rattle.outcome_codec.specs.Spelling.{IsSpelledResult, IsSpelledSeen}
use Rattle.outcome_codec.specs.declared.parts.KeyedEntry.{KeyedEntry}
use Rattle.outcome_codec.specs.declared.parts.PointRow.{PointRow}
use Rattle.queries.specs.declared.target.Target.{Target}
use Rattle.record_codec.specs.Spelling.{HasSpelling}
use Rattle.record_codec.specs.declared.commit.Commit.{Commit}
use Rattle.record_codec.specs.declared.commit.Commit.TheVariants.{Enqueue, Acknowledge, Reject, Allocate, Point, Reset, Drop}
use Rattle.record_parts.specs.Spelling.{AreSpelled as AreAllSpelled}
use Rattle.remote_documents.specs.Table.{EntryMap}
use Rattle.remote_documents.proofs.Maps.{order}
use Rattle.client_turns.specs.declared.refusal.Refusal.{Refusal}
use Rattle.client_turns.specs.Answers.{Answers, Begins, are_left, ends, listens}
use Rattle.client_turns.specs.Hearing.{Blanks, HeardTurn, commits_if_left, dropped as dropped_keys, ended, fails as fails_heard, held, mismatch, none_held, nothing, old_point, point, point_spent}
use Rattle.client_turns.specs.Lines.{Line}
use Rattle.client_turns.specs.Order.{AreHeard, now}
use Rattle.client_turns.specs.Past.{Past, Turn, listener, steps_of}
use Rattle.client_turns.specs.Turn.{IsTurn, SettlesAfter, is_heard}
use Rattle.client_turns.specs.Turns.{after, commits}
use Rattle.client_turns.specs.Watching.{calls_by, calls_of, is_point, is_watched, passed, step_by, step_of}
use Rattle.client_turns.specs.Writing.{WrittenTurn, acknowledges, bad_turn, closed_turn, closes, fails, first_batch, is_open, is_stream_open, opened_turn, rejects, shakes}
use Rattle.client_turns.proofs.Requested.{spelled_requested}
use Rattle.value_model.specs.Time.{IsMoment}
use Rattle.value_model.specs.Versions.{version_of}
use Rattle.value_model.specs.declared.document.Entry.{Entry}
use Rattle.value_model.specs.declared.document.Entry.TheVariants.{Found, Missing, Unknown}
use Rattle.value_model.specs.declared.document.RpcStatus.{RpcStatus}
use Rattle.value_model.specs.declared.document.Seal.TheVariants.{Seen, Committed}
use Rattle.value_model.specs.declared.message.ListenResponse.{ListenResponse}
use Rattle.value_model.specs.declared.message.ListenResponse.TheVariants as sent
use Rattle.value_model.specs.declared.message.StreamName.{StreamName}
use Rattle.value_model.specs.declared.message.StreamName.TheVariants as stream
use Rattle.value_model.specs.declared.timestamp.Timestamp.{Timestamp}
use Rattle.views.specs.Viewed.{Viewed}
use Rattle.watch_aggregator.specs.Effects.{Gives}
use Rattle.watch_aggregator.specs.declared.effect.Effect.TheVariants as effect
use Rattle.watch_points.specs.PointCommit.{GetsEntry, IsPointCommit, Puts}
use Rattle.watch_points.specs.SpelledCalls.{AreSpelledCalls}
use Rattle.watch_points.proofs.Listed.{among_has}
use Rattle.watch_points.proofs.Lists.{all_from}
use Rattle.watch_points.proofs.Put.{put_waits}
use Rattle.write_pipeline.specs.Order.{Steps}
use Rattle.write_pipeline.specs.Standing.{closing_of}
use Rattle.write_pipeline.specs.declared.answer.Closing.{Closing}
use Rattle.write_pipeline.specs.declared.answer.Closing.TheVariants.{Kept, Rejects}
use Rattle.client_agreement.specs.Standing.{AreSpelled, HasMoments}
use Rattle.client_agreement.proofs.Entries.{IsOfMoment, acked_left, answered_entry, answered_or, version_moment}

-- ---- what a commit brings

-- the times that the commit puts are moments
abbrev pub BringsMoments : Commit → Type 0
BringsMoments (Acknowledge id at results) = IsMoment at × AreAllSpelled IsSpelledResult results
BringsMoments (Point at entries rows) = IsMoment at × All (λ (e : KeyedEntry). IsMoment (version_of e.entry)) entries
BringsMoments _ = Unit {0}

abbrev pub BringsMomentsIf : Option Commit → Type 0
BringsMomentsIf None = Unit {0}
BringsMomentsIf (Some commit) = BringsMoments commit

abbrev MapOfMoments : EntryMap → Type 0
MapOfMoments entries = (key : Key) → ForSome (finite.get entries key) IsOfMoment

-- changes to moments
changed_moments : (changes : List Changed) (entries : EntryMap) → MapOfMoments entries → ((c : Changed) → Contains changes c → ForSome c.1 IsOfMoment) → MapOfMoments (with_all entries changes)
changed_moments [] entries moments all = moments
changed_moments (c ∷ changes) entries moments all =
    changed_moments changes (with_changed entries c) (λ key. subst (λ o. ForSome o IsOfMoment) (sym (get_changed entries c key)) (by key (is_key c.0 key))) (λ d has. all d (contains_there c changes d has))
  where
    by : (key : Key) (b : Bool) → ForSome (cond b c.1 (finite.get entries key)) IsOfMoment
    by key true = all c (contains_here c changes)
    by key false = moments key

dropped_moments : (keys : List Key) (c : Changed) → Contains (dropped keys) c → ForSome c.1 IsOfMoment
dropped_moments [] c has = absurd (contains_none c has)
dropped_moments (k ∷ keys) c has = elim (contains_cases (k, None) (dropped keys) c has) [
  | inl one ↦ subst (λ (x : Changed). ForSome x.1 IsOfMoment) one (λ known is. cc)
  | inr later ↦ dropped_moments keys c later
]

seen_moments : (entries : List KeyedEntry) → ((e : KeyedEntry) → Contains entries e → IsMoment (version_of e.entry)) → (c : Changed) → Contains (seen_at entries) c → ForSome c.1 IsOfMoment
seen_moments [] all c has = absurd (contains_none c has)
seen_moments (e ∷ entries) all c has = elim (contains_cases (e.key, Some (e.entry, Seen)) (seen_at entries) c has) [
  | inl one ↦ subst (λ (x : Changed). ForSome x.1 IsOfMoment) one (λ known is. subst IsOfMoment (same_Some (e.entry, Seen) known is) (all e (contains_here e entries), tt))
  | inr later ↦ seen_moments entries (λ d in_rest. all d (contains_there e entries d in_rest)) c later
]

answered_moments : (s : State) (at : Timestamp) (results : List WriteResult) → MapOfMoments s.entries → IsMoment at → AreAllSpelled IsSpelledResult results → MapOfMoments (with_all s.entries (acknowledged_keys s.entries (first_writes s.batches) results at))
answered_moments s at results moments moment spelled key =
    subst (λ o. ForSome o IsOfMoment) (sym (answered_entry s.entries (first_writes s.batches) results at key)) (by (acked (cached s.entries key) key (first_writes s.batches) results at) refl)
  where
    by : (o : Option Entry) → acked (cached s.entries key) key (first_writes s.batches) results at ≡ o → ForSome (answered_or o at (finite.get s.entries key)) IsOfMoment
    by None none = moments key
    by (Some left) is = λ known found.
        let it = acked_left (cached s.entries key) key (first_writes s.batches) results at left is in
        subst IsOfMoment (same_Some (left, Committed at) known found) (version_moment key (first_writes s.batches) results at (version_of left) moment spelled it.greatest.one, moment)

-- a commit that brings moments leaves moments
pub moments_committed : (s : State) (commit : Commit) → HasMoments s → BringsMoments commit → HasMoments (committed s commit)
moments_committed s (Enqueue batch) moments brings = record { entries = moments.entries; read = moments.read }
moments_committed s (Reject id) moments brings = record { entries = moments.entries; read = moments.read }
moments_committed s (Allocate id target) moments brings = record { entries = moments.entries; read = moments.read }
moments_committed s (Reset ids) moments brings = record { entries = moments.entries; read = moments.read }
moments_committed s (Drop keys ids) moments brings = record { entries = changed_moments (dropped keys) s.entries moments.entries (dropped_moments keys); read = moments.read }
moments_committed s (Point at entries rows) moments brings = record {
  entries = changed_moments (seen_at entries) s.entries moments.entries (seen_moments entries (λ e has. All-contains (λ (x : KeyedEntry). IsMoment (version_of x.entry)) entries e brings.1 has));
  read = brings.0;
}
moments_committed s (Acknowledge id at results) moments brings = record { entries = answered_moments s at results moments.entries brings.0 brings.1; read = moments.read }

pub moments_after : (s : State) (commit : Option Commit) → HasMoments s → BringsMomentsIf commit → HasMoments (after s commit)
moments_after s None moments brings = moments
moments_after s (Some commit) moments brings = moments_committed s commit moments brings

-- ---- what waits

left_moment : (message : ListenResponse) (h : Calls) (left : Key × Entry) → IsSpelledMessage message → left_by message h ≡ Some left → IsMoment (version_of left.1)
left_moment (sent.Target change) h left spelled is = cc
left_moment (sent.Remove remove) h left spelled is = cc
left_moment (sent.Filter filter) h left spelled is = cc
left_moment (sent.Change change) h left spelled is = by (any_counts change.target_ids h || any_counts change.removed_target_ids h) is
  where
    by : (b : Bool) → changed_entry b change ≡ Some left → IsMoment (version_of left.1)
    by true is' = subst (λ (l : Key × Entry). IsMoment (version_of l.1)) (same_Some _ left is') spelled.content.1
    by false is' = cc
left_moment (sent.Delete gone) h left spelled is = by (any_counts gone.removed_target_ids h) gone.read_time spelled.time is
  where
    by : (b : Bool) (time : Option Timestamp) → IfSome time IsMoment → cond b (option_map (λ at. (gone.key, Missing at)) time) None ≡ Some left → IsMoment (version_of left.1)
    by false time moment is' = cc
    by true None moment is' = cc
    by true (Some at) moment is' = subst (λ (l : Key × Entry). IsMoment (version_of l.1)) (same_Some _ left is') moment

kept_moment : (new entry : Entry) (old : Option Entry) → IsMoment (version_of new) → ForSome old (λ e. IsMoment (version_of e)) → kept_of new old ≡ entry → IsMoment (version_of entry)
kept_moment new entry None moment before is = subst (λ (e : Entry). IsMoment (version_of e)) is moment
kept_moment new entry (Some old) moment before is = by (stays (Some old) new) is
  where
    by : (b : Bool) → cond b old new ≡ entry → IsMoment (version_of entry)
    by true is' = subst (λ (e : Entry). IsMoment (version_of e)) is' (before old refl)
    by false is' = subst (λ (e : Entry). IsMoment (version_of e)) is' moment

-- an entry that waits is of a moment
pub waiting_moment : (h : Calls) (key : Key) → AreSpelledCalls h → ForSome (buffered key h) (λ e. IsMoment (version_of e))
waiting_moment [] key spelled entry is = cc
waiting_moment (asked id keys document ∷ h) key spelled entry is = waiting_moment h key spelled entry is
waiting_moment (unasked id ∷ h) key spelled entry is = waiting_moment h key spelled entry is
waiting_moment (applied ∷ h) key spelled entry is = cc
waiting_moment (skipped ∷ h) key spelled entry is = waiting_moment h key spelled entry is
waiting_moment (came message ∷ h) key spelled entry is = by (left_by message h) refl is (waiting_moment h key spelled.1)
  where
    by : (left : Option (Key × Entry)) → left_by message h ≡ left → with_left key left (buffered key h) ≡ Some entry → ForSome (buffered key h) (λ e. IsMoment (version_of e)) → IsMoment (version_of entry)
    by None none is' before = before entry is'
    by (Some (k, new)) left is' before = key_by (is_key k key) is'
      where
        key_by : (b : Bool) → cond b (Some (kept_of new (buffered key h))) (buffered key h) ≡ Some entry → IsMoment (version_of entry)
        key_by true found = kept_moment new entry (buffered key h) (left_moment message h (k, new) spelled.0 left) before (same_Some (kept_of new (buffered key h)) entry found)
        key_by false found = before entry found

-- ---- what was done on the stream

spelled_hears : (b : Bool) (commit : Option Commit) (h : Calls) → AreSpelledCalls h → AreSpelledCalls (passed b commit h)
spelled_hears false commit h all = all
spelled_hears true None h all = all
spelled_hears true (Some made) h all = all

spelled_step : (e : Event) (refusal : Option Refusal) (commit : Option Commit) (h : Calls) → IsSpelledEvent e → AreSpelledCalls h → AreSpelledCalls (calls_by (step_by e refusal) commit h)
spelled_step (event.Write at writes) refusal commit h spelled all = all
spelled_step (event.Get key) refusal commit h spelled all = all
spelled_step (event.Listen id query) refusal commit h spelled all = all
spelled_step (event.Unlisten id) refusal commit h spelled all = all
spelled_step (event.Opened stream.Watch) refusal commit h spelled all = tt
spelled_step (event.Opened stream.Write) refusal commit h spelled all = all
spelled_step (event.Closed stream.Watch status) refusal commit h spelled all = tt
spelled_step (event.Closed stream.Write status) refusal commit h spelled all = all
spelled_step (event.Written response) refusal commit h spelled all = all
spelled_step (event.BadMessage stream.Watch member) refusal commit h spelled all = tt
spelled_step (event.BadMessage stream.Write member) refusal commit h spelled all = all
spelled_step (event.Watch response) None commit h spelled all = spelled_hears (is_point response) commit (came response ∷ h) (spelled, all)
spelled_step (event.Watch response) (Some refusal) commit h spelled all = tt
spelled_step event.Timer refusal commit h spelled all = all

-- what came on the stream has a spelling
pub spelled_calls : (past : Past) → AreSpelled past → AreSpelledCalls (calls_of past)
spelled_calls [] spelled = tt
spelled_calls (e ∷ past) spelled =
    spelled_requested e.turn.lines (calls_by (step_of e) e.turn.commit (calls_of past)) (spelled_step e.event e.turn.refusal e.turn.commit (calls_of past) spelled.0 (spelled_calls past spelled.1))

-- ---- what events commit

-- the read time of a point is a moment
pub point_moment : (h : Calls) (response : ListenResponse) (at : Timestamp) → IsSpelledMessage response → Gives h response (effect.Point at) → IsMoment at
point_moment h (sent.Target change) at spelled (inl removed) = absurd removed.1
point_moment h (sent.Target change) at spelled (inr told) = by change.read_time spelled.time told.1.time
  where
    by : (time : Option Timestamp) → IfSome time IsMoment → time ≡ Some at → IsMoment at
    by None none is = cc
    by (Some other) moment is = subst IsMoment (same_Some other at is) moment
point_moment h (sent.Change change) at spelled is = cc
point_moment h (sent.Delete gone) at spelled is = cc
point_moment h (sent.Remove gone) at spelled is = cc
point_moment h (sent.Filter filter) at spelled is = no_point (counts filter.target_id h && not (length (told_keys filter.target_id h) == filter.count)) is
  where
    no_point : (b : Bool) → effect.Point at ≡ cond b (effect.Mismatch filter.target_id (length (told_keys filter.target_id h)) filter.count) effect.Nothing → IsMoment at
    no_point true is' = cc
    no_point false is' = cc

gets_moment : (s : State) (h : Calls) (at : Timestamp) (key : Key) (entry : Entry) → IsMoment at → AreSpelledCalls h → GetsEntry s h at key (Some entry) → IsMoment (version_of entry)
gets_moment s h at key entry moment spelled gets = elim gets.then_gets [
  | inl missed ↦ subst (λ (e : Entry). IsMoment (version_of e)) (same_Some (Missing at) entry (sym missed.0)) moment
  | inr put ↦ waiting_moment h key spelled entry (put_waits (sealed_entry_of s key) (buffered key h) entry (subst (λ o. Puts (sealed_entry_of s key) (buffered key h) o) (sym put.0) gets.puts))
]

-- the entries of a point are of moments
pub entries_moments : (s : State) (h : Calls) (at : Timestamp) (entries : List KeyedEntry) (rows : List PointRow) → IsMoment at → AreSpelledCalls h → IsPointCommit s h at entries rows → All (λ (e : KeyedEntry). IsMoment (version_of e.entry)) entries
entries_moments s h at entries rows moment spelled is =
    all_from (λ (e : KeyedEntry). IsMoment (version_of e.entry)) entries (λ e has.
    gets_moment s h at e.key e.entry moment spelled (subst (GetsEntry s h at e.key) (among_has entries is.keys_ascend e has) (is.gets e.key)))

abbrev Brings : Turn → Type 0
Brings t = BringsMomentsIf t.commit

brings_by : (b : Bool) (some none : Turn) → Brings some → Brings none → Brings (cond b some none)
brings_by true some none first second = first
brings_by false some none first second = second

brings_left : (s : State) (made : Commit) (lines : List Line) → BringsMoments made → Brings (commits_if_left s made lines)
brings_left s made lines moments = brings_by (nat_lt s.number most_commits) (commits made lines) _ moments tt

brings_blanks : (s : State) (ids : List ℕ) (lines : List Line) (t : Turn) → Blanks s ids lines t → Brings t
brings_blanks s ids lines t (held any is) = subst Brings (sym is) (brings_left s (Reset ids) lines tt)
brings_blanks s ids lines t (none_held none is) = subst Brings (sym is) tt

brings_heard : (s : State) (past : Past) (response : ListenResponse) (opening : Bool) (t : Turn) → IsSpelledMessage response → AreSpelledCalls (calls_of past) → HeardTurn s past response opening t → Brings t
brings_heard s past response false t spelled calls is = subst Brings (sym is) tt
brings_heard s past response true t spelled calls (nothing gives is) = subst Brings (sym is) tt
brings_heard s past response true t spelled calls (old_point at gives old is) = subst Brings (sym is) tt
brings_heard s past response true t spelled calls (point at entries rows gives below commit is) =
    let moment = point_moment (calls_of past) response at spelled gives in
    subst Brings (sym is) (brings_left s (Point at entries rows) [] (moment, entries_moments s (came response ∷ calls_of past) at entries rows moment (spelled, calls) commit))
brings_heard s past response true t spelled calls (point_spent at gives below many is) = subst Brings (sym is) tt
brings_heard s past response true t spelled calls (mismatch id told count ids gives have blanks) = brings_blanks s ids [] t blanks
brings_heard s past response true t spelled calls (ended ids status those listeners gives none have are blanks) = brings_blanks s those _ t blanks
brings_heard s past response true t spelled calls (dropped_keys ids status keys those listeners gives drops some blanked are is) = subst Brings (sym is) (brings_left s (Drop keys those) _ tt)
brings_heard s past response true t spelled calls (fails_heard why refuses is) = subst Brings (sym is) tt

brings_written : (s : State) (h : Steps) (response : WriteResponse) (opening : Bool) (t : Turn) → IsSpelledEvent (event.Written response) → WrittenTurn s h response opening t → Brings t
brings_written s h response false t spelled is = subst Brings (sym is) tt
brings_written s h response true t spelled (shakes fits is) = subst Brings (sym is) tt
brings_written s h response true t spelled (acknowledges batch time first at fits is) =
    subst Brings (sym is) (brings_by (nat_lt s.number most_commits) (commits (Acknowledge batch.id time response.results) _) _ (by response.commit_time spelled.time at, spelled.results) tt)
  where
    by : (o : Option Timestamp) → IfSome o IsMoment → o ≡ Some time → IsMoment time
    by None none is' = cc
    by (Some other) moment is' = subst IsMoment (same_Some other time is') moment
brings_written s h response true t spelled (fails member not is) = subst Brings (sym is) tt

brings_begins : (s : State) (id : ℕ) (query : Target) (view : Option Viewed) (t : Turn) → Begins s id query view t → Brings t
brings_begins s id query (Some view) t is = subst Brings (sym is) tt
brings_begins s id query None t is = subst Brings (sym is.2) (by is.0)
  where
    by : (found : Option ℤ) → Brings (listens s id query found)
    by (Some target) = tt
    by None = brings_by (are_left s) (commits (Allocate _ query) _) _ tt tt

brings_ends : (s : State) (id : ℕ) (view : Option Viewed) → Brings (ends s id view)
brings_ends s id None = tt
brings_ends s id (Some view) = tt

brings_opened : (name : StreamName) (opening : Bool) → Brings (opened_turn name opening)
brings_opened name true = tt
brings_opened stream.Watch false = tt
brings_opened stream.Write false = tt

brings_rejects : (s : State) (first : Option Batch) (status : RpcStatus) → Brings (rejects s first status)
brings_rejects s None status = tt
brings_rejects s (Some batch) status = brings_by (nat_lt s.number most_commits) (commits (Reject batch.id) _) _ tt tt

brings_closing : (s : State) (status : RpcStatus) (how : Closing) → Brings (closes s status how)
brings_closing s status Kept = tt
brings_closing s status Rejects = brings_rejects s (first_batch s) status

brings_closed : (s : State) (h : Steps) (name : StreamName) (status : RpcStatus) (opening : Bool) → Brings (closed_turn s h name status opening)
brings_closed s h name status false = tt
brings_closed s h stream.Watch status true = tt
brings_closed s h stream.Write status true = brings_closing s status (closing_of h status.code)

brings_bad : (name : StreamName) (member : List ℕ) (opening : Bool) → Brings (bad_turn name member opening)
brings_bad name member true = tt
brings_bad name member false = tt

-- what an event that has a spelling commits brings moments
pub brings_answered : (s : State) (past : Past) (e : Event) (t : Turn) → IsSpelledEvent e → AreSpelledCalls (calls_of past) → Answers s past e t → BringsMomentsIf t.commit
brings_answered s past (event.Write at writes) t spelled calls is = subst Brings (sym is) (brings_by (nat_lt s.number most_commits) (commits (Enqueue _) _) _ tt tt)
brings_answered s past (event.Get key) t spelled calls is = subst Brings (sym is) tt
brings_answered s past (event.Listen id query) t spelled calls is = brings_begins s id query (listener id past) t is
brings_answered s past (event.Unlisten id) t spelled calls is = subst Brings (sym is) (brings_ends s id (listener id past))
brings_answered s past (event.Opened name) t spelled calls is = subst Brings (sym is) (brings_opened name (is_stream_open name past))
brings_answered s past (event.Closed name status) t spelled calls is = subst Brings (sym is) (brings_closed s (steps_of past) name status (is_stream_open name past))
brings_answered s past (event.Written response) t spelled calls is = brings_written s (steps_of past) response (is_open (steps_of past)) t spelled is
brings_answered s past (event.BadMessage name member) t spelled calls is = subst Brings (sym is) (brings_bad name member (is_stream_open name past))
brings_answered s past (event.Watch response) t spelled calls is = brings_heard s past response (is_watched past) t spelled calls is
brings_answered s past event.Timer t spelled calls is = subst Brings (sym is) tt

settled_commit : (root : Root) (s : State) (past : Past) (e : Event) (answer : Turn) (heard : Bool) (t : Turn) → SettlesAfter root s past e answer heard t → t.commit ≡ answer.commit
settled_commit root s past e answer true t is = ap (λ (x : Turn). x.commit) is.is
settled_commit root s past e answer false t is = ap (λ (x : Turn). x.commit) is

-- the commit of a turn is that of its answer
pub turn_commit : (root : Root) (s : State) (past : Past) (e : Event) (t : Turn) (turn : IsTurn root s past e t) → t.commit ≡ turn.is_settled.answer.commit
turn_commit root s past e t turn =
    ap (λ (x : Turn). x.commit) turn.is
    ∙ settled_commit root s past e turn.is_settled.answer (is_heard turn.is_settled.answer.refusal) turn.settled turn.is_settled.settles

-- the turn of an event that has a spelling brings moments
pub brings_turn : (root : Root) (s : State) (past : Past) (e : Event) (t : Turn) → IsSpelledEvent e → AreSpelledCalls (calls_of past) → IsTurn root s past e t → BringsMomentsIf t.commit
brings_turn root s past e t spelled calls turn =
    subst BringsMomentsIf (sym (turn_commit root s past e t turn)) (brings_answered s past e turn.is_settled.answer spelled calls turn.is_settled.answers)

-- ---- all that was heard

pub moments_heard : (root : Root) (first : State) (past : Past) → HasMoments first → AreSpelled past → AreHeard root first past → HasMoments (now first past)
moments_heard root first [] moments spelled heard = moments
moments_heard root first (e ∷ past) moments spelled heard =
    moments_after e.state e.turn.commit
    (subst HasMoments (sym heard.1.state) (moments_heard root first past moments spelled.1 heard.0))
    (brings_turn root e.state past e.event e.turn spelled.0 (spelled_calls past spelled.1) heard.1.turn)

-- ---- what is found on the disk

seen_moment : (entry : Entry) → IsSpelledSeen entry → IsMoment (version_of entry)
seen_moment (Found fields version) spelled = spelled.1
seen_moment (Missing version) spelled = spelled
seen_moment (Unknown version) spelled = absurd spelled

-- a commit that has a spelling brings moments
pub brings_spelled : (commit : Commit) → HasSpelling commit → BringsMoments commit
brings_spelled (Enqueue batch) spelled = tt
brings_spelled (Acknowledge id at results) spelled = (spelled.moment, spelled.each)
brings_spelled (Reject id) spelled = tt
brings_spelled (Allocate id target) spelled = tt
brings_spelled (Point at entries rows) spelled = (spelled.moment, λ k d inside. seen_moment _ (spelled.seen.each.each k d inside).content)
brings_spelled (Reset ids) spelled = tt
brings_spelled (Drop keys ids) spelled = tt

replayed : (s t : State) (payloads : List (List ℕ)) → HasMoments s → Replays s payloads t → HasMoments t
replayed s t [] moments is = subst HasMoments (sym is) moments
replayed s t (payload ∷ payloads) moments it = replayed (committed s it.0) t payloads (moments_committed s it.0 moments (brings_spelled it.0 it.1)) it.4

pub moments_start : HasMoments start
moments_start = record { entries = λ key known is. let wrong : None ≡ Some known = sym (finite.get-empty order key) ∙ is in cc; read = tt }

pub moments_found : (files : Files) (s : State) → FindsState files s → HasMoments s
moments_found files s found = replayed start s found.payloads moments_start found.leads.replays
