-- what an event comes to, as allowed turns, but for what goes out
use Rattle.std.proofs.Common.{◌≡◌, ◌⊎◌, ⊎_elim, inl, inr, ℕ, ℤ, pos, Bool, true, false, not, ◌&&◌, ◌||◌, ◌==◌, ◌%◌, nat_lt, List, [], ◌∷◌, length, map as each, Option, Some, None, IfSome, if◌then◌else◌, refl, sym, ap, subst, ◌∙◌, arith}
use Rattle.std.specs.Option.{ForSome}
use Rattle.std.specs.List.{Contains, slice_get}
use Rattle.std.proofs.lemmas.Bool.{true≢false, and_parts}
use Rattle.std.proofs.lemmas.Option.{none-some}
use Rattle.agreement.specs.Backend.{Id, Key, Setting}
use Rattle.agreement.specs.Client.{Acks, Aims, Breaks, Client, after as after_turn}
use Rattle.agreement.specs.Streams.{message_of}
use Rattle.agreement.specs.Transcript.{Heard, Request, is_asked, request}
use Rattle.client_events.specs.Spelled.{IsSpelledEvent, IsSpelledMessage}
use Rattle.client_events.specs.declared.event.Event.{Event}
use Rattle.client_events.specs.declared.event.Event.TheVariants as event
use Rattle.document_keys.specs.KeySet.{IsAscending}
use Rattle.durable_state.specs.State.{IsNotBelow, State, committed, most_commits}
use Rattle.listen_protocol.specs.ToldKeys.{told_keys}
use Rattle.document_keys.specs.Names.{Root}
use Rattle.limbo_resolver.specs.Limbo.{is_odd}
use Rattle.listen_protocol.proofs.ToldLaw.{told_law}
use Rattle.listen_protocol.specs.Buffer.{buffered, left_by}
use Rattle.listen_protocol.specs.Calls.{Calls, came}
use Rattle.listen_protocol.specs.Transcript as stream
use Rattle.outcome_codec.specs.declared.parts.KeyedEntry.{KeyedEntry}
use Rattle.outcome_codec.specs.declared.parts.PointRow.{PointRow}
use Rattle.queries.specs.declared.target.Target.{Target}
use Rattle.record_codec.specs.declared.commit.Commit.{Commit}
use Rattle.record_codec.specs.declared.commit.Commit.TheVariants.{Acknowledge, Allocate, Drop, Enqueue, Point, Reject, Reset}
use Rattle.target_cache.specs.Cache.{IsRow, id_at}
use Rattle.target_cache.specs.declared.row.Row.{Row}
use Rattle.value_model.specs.Time.{IsMoment}
use Rattle.value_model.specs.Versions.{version_of}
use Rattle.value_model.specs.declared.document.RpcStatus.{RpcStatus}
use Rattle.value_model.specs.declared.message.ListenResponse.{ListenResponse}
use Rattle.value_model.specs.declared.message.ListenResponse.TheVariants as sent
use Rattle.value_model.specs.declared.timestamp.Timestamp.{Timestamp}
use Rattle.watch_aggregator.specs.Effects.{Gives}
use Rattle.watch_aggregator.specs.declared.effect.Effect.TheVariants as effect
use Rattle.watch_points.specs.PointCommit.{IsPointCommit}
use Rattle.client_turns.specs.Answers.{Answers}
use Rattle.client_turns.specs.Asking.{is_told_dropped, resets_by}
use Rattle.client_turns.specs.Hearing.{AreBlankedFor, AreListenersOf, Blanks, HaveRows, IsHeard, IsOld, commits_if_left, dropped, ended, held, mismatch, none_held, nothing, old_point, point, point_spent, fails as fails_heard}
use Rattle.client_turns.specs.Lines.{Line, error}
use Rattle.client_turns.specs.Order.{AreHeard, now}
use Rattle.client_turns.specs.Past.{Past, Turn}
use Rattle.client_turns.specs.Settling.{HasTargetRow}
use Rattle.client_turns.specs.Turn.{is_heard}
use Rattle.client_turns.specs.Turns.{after, commits, refused}
use Rattle.client_turns.specs.Watching.{WatchStep, calls_of, hears, is_dropped_by, is_mismatch, is_watched, passes, step_by}
use Rattle.client_turns.specs.declared.refusal.Refusal.TheVariants.{IdsSpent}
use Rattle.client_agreement.proofs.Alike.{Alike}
use Rattle.client_agreement.proofs.AlikePast.{alike_heard, alike_transcript, token_heard}
use Rattle.client_agreement.proofs.Ascending.{ascends}
use Rattle.client_agreement.proofs.Asked.{asked_rows}
use Rattle.client_agreement.proofs.PlainEvents.{ack_taken, alloc_reached, alloc_taken, break_taken, enqueue_taken, idle_taken, reject_taken}
use Rattle.client_agreement.proofs.Ends.{dropped_reaches, end_gives, end_some, ended_reaches, mismatch_reaches}
use Rattle.client_agreement.proofs.Entries.{ack_entry, ack_sound, drop_entry, new_entry, point_entry}
use Rattle.client_agreement.proofs.GoingOut.{TakenBy}
use Rattle.client_agreement.proofs.EventKinds.{IsMessage, Kind, acks, allocates, breaks, enqueues, idle, kind_of, message, rejecting}
use Rattle.client_agreement.proofs.Listening.{current_row}
use Rattle.client_agreement.proofs.Moments.{BringsMomentsIf, moments_heard, point_moment, spelled_calls, waiting_moment}
use Rattle.client_agreement.proofs.Odd.{odd_unlistened}
use Rattle.client_agreement.proofs.Points.{point_at, point_gives, point_judged, point_reaches}
use Rattle.client_agreement.proofs.QuietMessages.{nothing_mismatched, nothing_reaches, old_reaches}
use Rattle.client_agreement.proofs.Reaching.{Reaches, reach_none, reach_one}
use Rattle.client_agreement.proofs.Resets.{is_blanked}
use Rattle.client_agreement.proofs.Rows.{allocated_row, blanked_tuple, row_back, row_even, row_is, row_stays, told_tuple, untold_tuple}
use Rattle.client_agreement.proofs.Waiting.{HasMomentsIn}
use Rattle.client_agreement.specs.Durable.{is_listener, row_of}
use Rattle.client_agreement.specs.Honest.{AcknowledgesTruly}
use Rattle.client_agreement.specs.Standing.{AreSpelled, HasMoments, IsWellMade, StandsAs}
use Rattle.client_agreement.specs.Transcript.{transcript}

-- the times that a message with a spelling tells are moments
spelled_moments : (m : ListenResponse) → IsSpelledMessage m → HasMomentsIn m
spelled_moments (sent.Target change) spelled = tt
spelled_moments (sent.Change change) spelled = spelled.content.1
spelled_moments (sent.Delete gone) spelled = spelled.time
spelled_moments (sent.Remove remove) spelled = tt
spelled_moments (sent.Filter filter) spelled = tt

-- no row stands behind the last
no_more : {X : Type 0} (xs : List X) (x : X) → slice_get xs (length xs) ≡ Some x → ⊥
no_more [] x there = none-some _ there
no_more (y ∷ xs) x there = no_more xs x there

past_end : (rows : List Row) (row : Row) → IsRow rows (pos (id_at (length rows))) row → ⊥
past_end rows row there =
    let same : id_at there.place ≡ id_at (length rows) = cc_pos (id_at (length rows)) (id_at there.place) there.is in
    let place : there.place ≡ length rows = omega (arith, same) in
    no_more rows row (subst (λ n. slice_get rows n ≡ Some row) place there.there)
  where
    cc_pos : (a b : ℕ) → pos a ≡ pos b → b ≡ a
    cc_pos a b same = cc

-- the ids of rows aren't odd
even_not : (n : ℕ) → is_odd (pos (id_at n)) ≡ false
even_not n = let rest : id_at n % 2 ≡ 0 = omega arith in ap (λ k. k == 1) rest

-- some client is reached that took this
abbrev pub Takes : Setting → Client → State → (Id → Bool) → WatchStep → Option Commit → (Id → Bool) → Past → Type 0
Takes s c later wanted step commit resets past = (d : Client) × Reaches s c d × TakenBy d later wanted step commit resets past

-- What is given: a past that was heard one after another from a state that is well made, and a client that stands for it.
-- `wanted` has the ids that are looked at as current, and `removed` those whose remove requests go out.
module _ (s : Setting) (listens : s.listens ≡ is_listener) (root : Root) (first : State) (past : Past) (c : Client)
    (well : IsWellMade first) (spelled : AreSpelled past) (heard : AreHeard root first past) (stands : StandsAs c (now first past) past)
    (wanted removed : Id → Bool) where
  abbrev state : State
  state = now first past

  abbrev h : Calls
  h = calls_of past

  row_there : (id : Id) (row : Row) → IsRow state.rows id row → row_of state.rows id ≡ Some row
  row_there id row = (row_is state.rows id row).0

  row_found : (id : Id) (row : Row) → row_of state.rows id ≡ Some row → IsRow state.rows id row
  row_found id row = (row_is state.rows id row).1

  even : (id : Id) (row : Row) → IsRow state.rows id row → is_listener id ≡ true
  even id row there = row_even state.rows id row (row_there id row there)

  alike : Alike (transcript past) h
  alike = alike_transcript root first past heard

  alike_then : (m : ListenResponse) → Alike (Heard (message_of m) ∷ transcript past) (came m ∷ h)
  alike_then = alike_heard root first past heard

  moments : HasMoments state
  moments = moments_heard root first past well.moments spelled heard

  waiting : (key : Key) → IfSome (buffered key h) (λ e. IsMoment (version_of e))
  waiting key = by (buffered key h) refl (waiting_moment h key (spelled_calls past spelled))
    where
      by : (o : Option _) → buffered key h ≡ o → ForSome o (λ e. IsMoment (version_of e)) → IfSome o (λ e. IsMoment (version_of e))
      by None is each = tt
      by (Some entry) is each = each entry refl

  asked_query : (id : Id) (opening : Request) (row : Row) → request id (transcript past) ≡ Some opening → IsRow state.rows id row → opening.query ≡ row.target
  asked_query id opening row asked there = ⊎_elim
      (λ known. known.2 ∙ ap (λ (r : Row). r.target) (same known.0 (row_there id known.0 known.1)))
      (λ odd. absurd (true≢false (sym (even id row there) ∙ odd_unlistened id odd)))
      (asked_rows row_stays root first past heard id opening asked)
    where
      same : (r : Row) → row_of state.rows id ≡ Some r → r ≡ row
      same r is = let both : Some r ≡ Some row = sym is ∙ row_there id row there in cc

  known_by : (t : Id) → stream.is_wanted t h ≡ true → HasTargetRow state.rows t ⊎ (is_odd t ≡ true)
  known_by t wants =
      let asked = alike.requested t wants in
      ⊎_elim (λ known. inl (known.0, known.1)) (λ odd. inr odd) (asked_rows row_stays root first past heard t asked.0 asked.1)

  known_then : (m : ListenResponse) (t : Id) → stream.is_wanted t (came m ∷ h) ≡ true → HasTargetRow state.rows t ⊎ (is_odd t ≡ true)
  known_then m t wants = known_by t wants

  -- rows behind a commit that allocates none
  back_unless : (commit : Commit) → ((number : ℕ) (target : Target) → commit ≡ Allocate number target → ⊥) → (id : Id) (row : Row) → IsRow (committed state commit).rows id row → (old : Row) × IsRow state.rows id old × (row.target ≡ old.target)
  back_unless commit none id row there = ⊎_elim (λ old. old) (λ made. absurd (none made.number made.target made.allocates)) (row_back state commit id row there)

  back_none : (id : Id) (row : Row) → IsRow state.rows id row → (old : Row) × IsRow state.rows id old × (row.target ≡ old.target)
  back_none id row there = (row, there, refl)

  -- ---- messages

  module _ (m : ListenResponse) (is_spelled : IsSpelledMessage m) (t : Turn) (fine : t.refusal ≡ None)
      (wanted_before : (id : Id) → wanted id ≡ true → HasTargetRow state.rows id)
      (ends_unwanted : (ids : List ℤ) (status : RpcStatus) (listeners : List ℕ) → AreListenersOf past ids listeners → t.lines ≡ each (λ l. error l status) listeners → (id : Id) → Contains ids id → wanted id ≡ true → ⊥)
      (removes : (id : Id) → resets_by (event.Watch m) t.commit past id ≡ true → removed id ≡ stream.is_asked_in id (came m ∷ h)) where
    abbrev resets : Id → Bool
    resets id = resets_by (event.Watch m) t.commit past id && removed id

    abbrev Done : Option Commit → Type 0
    Done commit = Takes s c (after state commit) wanted (hears m) commit resets past

    ascending : (id : Id) → IsAscending (told_keys id h)
    ascending id = told_law.ascend id h (ascends root first past well.ascending heard).starts

    no_commit : t.commit ≡ None → Done None → Done t.commit
    no_commit is done = subst Done (sym is) done

    left_commit : (commit : Commit) (lines : List Line) → t ≡ commits_if_left state commit lines → t.commit ≡ Some commit
    left_commit commit lines is = by (nat_lt state.number most_commits) is
      where
        by : (b : Bool) → t ≡ (if b then commits commit lines else refused IdsSpent) → t.commit ≡ Some commit
        by true same = ap (λ (x : Turn). x.commit) same
        by false same = absurd (none-some _ (sym fine ∙ ap (λ (x : Turn). x.refusal) same))

    left_lines : (commit : Commit) (lines : List Line) → t ≡ commits_if_left state commit lines → t.lines ≡ lines
    left_lines commit lines is = by (nat_lt state.number most_commits) is
      where
        by : (b : Bool) → t ≡ (if b then commits commit lines else refused IdsSpent) → t.lines ≡ lines
        by true same = ap (λ (x : Turn). x.lines) same
        by false same = absurd (none-some _ (sym fine ∙ ap (λ (x : Turn). x.refusal) same))

    blanks_lines : (ids : List ℕ) (lines : List Line) → Blanks state ids lines t → t.lines ≡ lines
    blanks_lines ids lines (held any is) = left_lines (Reset ids) lines is
    blanks_lines ids lines (none_held none is) = ap (λ (x : Turn). x.lines) is

    blanks_back : (ids : List ℕ) (lines : List Line) → Blanks state ids lines t → (id : Id) (row : Row) → IsRow (after state t.commit).rows id row → (old : Row) × IsRow state.rows id old × (row.target ≡ old.target)
    blanks_back ids lines (held any is) = subst (λ (commit : Option Commit). (id : Id) (row : Row) → IsRow (after state commit).rows id row → (old : Row) × IsRow state.rows id old × (row.target ≡ old.target)) (sym (left_commit (Reset ids) lines is)) (back_unless (Reset ids) (λ n target same. cc))
    blanks_back ids lines (none_held none is) = subst (λ (commit : Option Commit). (id : Id) (row : Row) → IsRow (after state commit).rows id row → (old : Row) × IsRow state.rows id old × (row.target ≡ old.target)) (sym (ap (λ (x : Turn). x.commit) is)) back_none

    or_none : (b : Bool) → (b || false) ≡ b
    or_none true = refl
    or_none false = refl

    point_done : (at : Timestamp) (entries : List KeyedEntry) (rows : List PointRow) → Gives h m (effect.Point at) → IsNotBelow state.last_read at → IsPointCommit state (came m ∷ h) at entries rows → Done (Some (Point at entries rows))
    point_done at entries rows gives below commits_it =
        let is = point_gives h m at gives in
        let moment = point_moment h m at is_spelled gives in
        let waits = λ (key : Key). waiting_moment (came m ∷ h) key (is_spelled, spelled_calls past spelled) in
        let turn = point_entry state (came m ∷ h) at entries rows commits_it moments moment waits in
        point_reaches s listens c state past stands m (alike_then m) (token_heard root first past heard m) (known_then m) asked_query row_there even wanted resets wanted_before at is entries rows commits_it
        (λ p here id same row found. told_tuple at rows state.rows id commits_it.ids_ascend p here same row found)
        (λ id others. untold_tuple at rows state.rows id others)
        (back_unless (Point at entries rows) (λ n target same. cc))
        turn.0 turn.1.lacked turn.1.entry below moment moments.read

    old_done : (at : Timestamp) → Gives h m (effect.Point at) → IsOld state.last_read at → Done None
    old_done at gives old =
        let is = point_gives h m at gives in
        old_reaches s c state past stands m alike (spelled_moments m is_spelled) waiting wanted resets (λ x. ap (λ y. is_mismatch h y x) is.is)
        at (point_at m at is) (ap (λ y. left_by y h) is.is) (point_judged s c.past m at is) (point_moment h m at is_spelled gives) moments.read old

    mismatch_done : (id : ℤ) (told count : ℕ) (ids : List ℕ) → Gives h m (effect.Mismatch id told count) → HaveRows state.rows (id ∷ []) ids → Blanks state ids [] t → Done t.commit
    mismatch_done id told count ids gives have blanks =
        let blanked = is_blanked state row_there row_found (λ those x. blanked_tuple those state.rows x) (id ∷ []) ids [] t have blanks fine in
        let same : (x : Id) → resets_by (event.Watch m) t.commit past x ≡ is_mismatch h m x = λ x. ap (λ (b : Bool). is_mismatch h m x || (b || is_told_dropped t.commit past x)) (blanked.drops x) ∙ ap (λ (b : Bool). is_mismatch h m x || b) (blanked.told_drops past x) ∙ or_none (is_mismatch h m x) in
        subst (λ (r : Id → Bool). Takes s c (after state t.commit) wanted (hears m) t.commit r past) (λ i x. sym (same x) i && removed x)
        (mismatch_reaches s listens c state past stands m alike (alike_then m) known_by row_there row_found even wanted removed wanted_before id told count gives t.commit blanked (blanks_back ids [] blanks)
        (λ x yes. removes x (same x ∙ yes)))

    ended_done : (ids : List ℤ) (status : RpcStatus) (those listeners : List ℕ) → Gives h m (effect.Ended ids status) → HaveRows state.rows ids those → AreListenersOf past ids listeners → Blanks state those (each (λ l. error l status) listeners) t → Done t.commit
    ended_done ids status those listeners gives have are blanks =
        let it = end_gives h m ids status gives in
        let some = end_some h m ids status gives in
        let blanked = is_blanked state row_there row_found (λ ns x. blanked_tuple ns state.rows x) ids those _ t have blanks fine in
        ended_reaches s listens c state past stands m alike (alike_then m) known_by row_there row_found even wanted removed wanted_before ids it some.0 some.1 t.commit blanked (blanks_back those _ blanks)
        (ends_unwanted ids status listeners are (blanks_lines those _ blanks))
        (λ x. resets_by (event.Watch m) t.commit past x)
        (λ x. ap (λ y. is_mismatch h y x || (is_dropped_by t.commit x || is_told_dropped t.commit past x)) it.is
        ∙ ap (λ (b : Bool). b || is_told_dropped t.commit past x) (blanked.drops x) ∙ blanked.told_drops past x)

    dropped_done : (ids : List ℤ) (status : RpcStatus) (keys : List Key) (those listeners : List ℕ) → Gives h m (effect.Ended ids status) → AreBlankedFor state past ids keys those → AreListenersOf past ids listeners
        → t ≡ commits_if_left state (Drop keys those) (each (λ l. error l status) listeners) → Done t.commit
    dropped_done ids status keys those listeners gives blanked are is =
        let it = end_gives h m ids status gives in
        let some = end_some h m ids status gives in
        let made = left_commit (Drop keys those) _ is in
        let removes_drop = subst (λ (commit : Option Commit). (id : Id) → resets_by (event.Watch m) commit past id ≡ true → removed id ≡ stream.is_asked_in id (came m ∷ h)) made removes in
        subst (λ (commit : Option Commit). Takes s c (after state commit) wanted (hears m) commit (λ id. resets_by (event.Watch m) commit past id && removed id) past) (sym made)
        (dropped_reaches s listens c state past stands m alike (alike_then m) known_by row_there row_found even wanted removed wanted_before
        (λ ns x. blanked_tuple ns state.rows x) (λ ks ns key. drop_entry state ks ns key) (current_row root first past heard)
        ids it some.0 some.1 keys those blanked (back_unless (Drop keys those) (λ n target same. cc))
        (ends_unwanted ids status listeners are (left_lines (Drop keys those) _ is)) removes_drop)

    pub message_done : IsHeard state past m t → Done t.commit
    message_done (nothing gives is) = no_commit (ap (λ (x : Turn). x.commit) is)
        (nothing_reaches s c state past stands m alike (spelled_moments m is_spelled) waiting wanted resets (nothing_mismatched h m gives) gives ascending)
    message_done (old_point at gives old is) = no_commit (ap (λ (x : Turn). x.commit) is) (old_done at gives old)
    message_done (point at entries rows gives below commits_it is) = subst Done (sym (left_commit (Point at entries rows) [] is)) (point_done at entries rows gives below commits_it)
    message_done (point_spent at gives below many is) = absurd (none-some _ (sym fine ∙ ap (λ (x : Turn). x.refusal) is))
    message_done (mismatch id told count ids gives have blanks) = mismatch_done id told count ids gives have blanks
    message_done (ended ids status those listeners gives none have are blanks) = ended_done ids status those listeners gives have are blanks
    message_done (dropped ids status keys those listeners gives drops some blanked are is) = dropped_done ids status keys those listeners gives blanked are is
    message_done (fails_heard why refuses is) = absurd (none-some _ (sym fine ∙ ap (λ (x : Turn). x.refusal) is))

  -- ---- all events

  module _ (e : Event) (t : Turn) (is_spelled : IsSpelledEvent e) (truly : AcknowledgesTruly s state t.commit) (brings : BringsMomentsIf t.commit)
      (wanted_before : (id : Id) → wanted id ≡ true → IsMessage e → HasTargetRow state.rows id)
      (ends_unwanted : (ids : List ℤ) (status : RpcStatus) (listeners : List ℕ) → AreListenersOf past ids listeners → t.lines ≡ each (λ l. error l status) listeners → (id : Id) → Contains ids id → wanted id ≡ true → ⊥)
      (removes : (m : ListenResponse) → e ≡ event.Watch m → t.refusal ≡ None → is_watched past ≡ true → (id : Id) → resets_by (event.Watch m) t.commit past id ≡ true → removed id ≡ stream.is_asked_in id (came m ∷ h)) where
    abbrev all_resets : Id → Bool
    all_resets id = resets_by e t.commit past id && removed id

    abbrev TakenAs : WatchStep → Option Commit → Type 0
    TakenAs step commit = Takes s c (after state commit) wanted step commit all_resets past

    idle_done : TakenAs (step_by e t.refusal) None → t.commit ≡ None → TakenAs (step_by e t.refusal) t.commit
    idle_done it none = subst (λ (commit : Option Commit). TakenAs (step_by e t.refusal) commit) (sym none) it

    made_done : (commit : Commit) → step_by e t.refusal ≡ passes → t.commit ≡ Some commit → TakenAs passes (Some commit) → TakenAs (step_by e t.refusal) t.commit
    made_done commit step made it =
        subst (λ (x : Option Commit). TakenAs (step_by e t.refusal) x) (sym made) (subst (λ (x : WatchStep). TakenAs x (Some commit)) (sym step) it)

    new_row : row_of state.rows (pos (id_at (length state.rows))) ≡ None
    new_row = by (row_of state.rows (pos (id_at (length state.rows)))) refl
      where
        by : (o : Option Row) → row_of state.rows (pos (id_at (length state.rows))) ≡ o → row_of state.rows (pos (id_at (length state.rows))) ≡ None
        by None is = is
        by (Some row) is = absurd (past_end state.rows row (row_found (pos (id_at (length state.rows))) row is))

    fresh_id : is_asked (pos (id_at (length state.rows))) c.past ≡ false
    fresh_id = ap (is_asked id) stands.past ∙ alike.asks id ∙ by (stream.is_asked_in id h) refl
      where
        id : Id
        id = pos (id_at (length state.rows))

        by : (b : Bool) → stream.is_asked_in id h ≡ b → b ≡ false
        by false is = refl
        by true is =
            let wants = (and_parts (stream.is_wanted id h) (not (stream.open_count id h == 0)) is).0 in
            absurd (⊎_elim
            (λ there. none-some _ (sym new_row ∙ row_there id there.0 there.1))
            (λ odd. true≢false (sym odd ∙ even_not (length state.rows)))
            (known_by id wants))

    by_kind : Kind state past e t → TakenAs (step_by e t.refusal) t.commit
    by_kind (idle step none plain) = idle_done (c, reach_none s c, idle_taken s c state past stands wanted all_resets (step_by e t.refusal) step) none
    by_kind (breaks step none) = idle_done (after_turn s Breaks c, reach_one s c Breaks tt, break_taken s c state past stands wanted all_resets (step_by e t.refusal) step) none
    by_kind (enqueues batch step made plain) = made_done (Enqueue batch) step made (c, reach_none s c, enqueue_taken s c state past stands wanted all_resets batch)
    by_kind (rejecting id step made plain) = made_done (Reject id) step made (c, reach_none s c, reject_taken s c state past stands wanted all_resets id)
    by_kind (acks id at results step made plain) =
        let spelled_results = subst BringsMomentsIf made brings in
        made_done (Acknowledge id at results) step made (
          after_turn s (Acks (new_entry state at results)) c,
          reach_one s c (Acks (new_entry state at results)) (ack_sound s state c.read at results (subst (AcknowledgesTruly s state) made truly)),
          ack_taken s c state past stands wanted all_resets id at results (new_entry state at results) (ack_entry state id at results moments spelled_results.0 spelled_results.1),
        )
    by_kind (allocates query step made plain) = made_done (Allocate (id_at (length state.rows)) query) step made (
      after_turn s (Aims (pos (id_at (length state.rows))) query) c,
      alloc_reached s c state past stands wanted all_resets query (allocated_row state.rows query) (λ rows i row. (row_is rows i row).1) (λ rows i row. (row_is rows i row).0) new_row (current_row root first past heard) fresh_id,
      alloc_taken s c state past stands wanted all_resets query (allocated_row state.rows query) (λ rows i row. (row_is rows i row).1) (λ rows i row. (row_is rows i row).0) new_row,
    )
    by_kind (message m is fine watched it) =
        let done = message_done m (subst IsSpelledEvent is is_spelled) t fine (λ id wants. wanted_before id wants (subst IsMessage (sym is) tt)) ends_unwanted (removes m is fine watched) it in
        subst (λ (step : WatchStep). TakenAs step t.commit) (sym (λ i. step_by (is i) (fine i)))
        (subst (λ (r : Id → Bool). Takes s c (after state t.commit) wanted (hears m) t.commit r past) (λ i id. resets_by (sym is i) t.commit past id && removed id) done)

    pub event_done : Answers state past e t → is_heard t.refusal ≡ true → TakenAs (step_by e t.refusal) t.commit
    event_done answers is = by_kind (kind_of state past e t answers is)
