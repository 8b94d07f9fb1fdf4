-- What the turn of a line writes: whole lines, which report no number above that of the state after its commit.
use Rattle.std.proofs.Common.{◌≡◌, ℕ, ◌+◌, ◌<◌, ◌≤◌, ◌^◌, ℤ, pos, nat_abs, suc, zero, Bool, true, false, not, nat_eq, nat_lt, List, [], ◌∷◌, ◌++◌, ◌&&◌, map as each, length, Option, Some, None, option_map, IfSome, if◌then◌else◌, refl, sym, ap, subst, ◌∙◌, arith}
use Rattle.std.specs.List.{All, AllZip, slice_get}
use Rattle.std.proofs.lemmas.Bool.{and_parts, eqb-true, ltb-true}
use Rattle.std.proofs.lemmas.Option.{none-some}
use Rattle.std.proofs.lemmas.List.Elements.{All-nil, All-cons, All-head, All-tail, All-append}
use Rattle.document_keys.specs.Names.{Root}
use Rattle.client_events.specs.Spelled.{IsSpelledEvent}
use Rattle.client_events.specs.declared.event.Event.{Event}
use Rattle.client_events.specs.declared.event.Event.TheVariants as event
use Rattle.line_printer.specs.Lines.{line_of}
use Rattle.line_printer.proofs.Streams as streams
use Rattle.line_printer.proofs.Within as within
use Rattle.line_printer.proofs.Within.{IsWithin, within_append, within_nothing, within_one}
use Rattle.line_reader.specs.Spelled.{IsSpelledReading}
use Rattle.line_reader.specs.declared.reading.Reading.{Reading}
use Rattle.line_reader.specs.declared.reading.Reading.TheVariants.{Line as an_event, Refused}
use Rattle.line_reader.specs.declared.refusal.Refusal.{Refusal as Unread}
use Rattle.line_reader.specs.declared.refusal.Refusal.TheVariants.{LineTooLong, BadLine, TooDeep, Unsupported, BadName, BadWrites, BadQuery}
use Rattle.record_codec.specs.declared.commit.Commit.{Commit}
use Rattle.record_codec.specs.declared.commit.Commit.TheVariants.{Acknowledge, Allocate, Drop, Enqueue, Point, Reject, Reset}
use Rattle.local_store.specs.Documents.{document_of, standing_of}
use Rattle.local_store.specs.State.{State, most_commits}
use Rattle.queries.specs.declared.raw.QueryRule.{QueryRule}
use Rattle.queries.specs.declared.raw.QueryRule.TheVariants as rule
use Rattle.queries.specs.declared.listen_request.ListenRequest.TheVariants.{Add, Remove}
use Rattle.queries.specs.declared.target.Target.{Target}
use Rattle.target_cache.specs.Cache.{TellsId, id_at}
use Rattle.views.specs.Viewed.{Viewed}
use Rattle.views.specs.declared.raised.Raised.{Raised}
use Rattle.client_turns.specs.Answers.{Answers, Begins, are_left, ends, enqueued, last_target, listens}
use Rattle.client_turns.specs.Turns.{after, answered, commits, refused}
use Rattle.limbo_resolver.specs.Limbo.{Limbo}
use Rattle.queries.specs.declared.target.Target.TheVariants.{Document as DocumentTarget}
use Rattle.client_turns.specs.Asking.{AsksIf, IsAddLine, IsListenLine, resets_by}
use Rattle.client_turns.specs.LimboListens.{limbo_of}
use Rattle.client_turns.specs.Hearing as hearing
use Rattle.client_turns.specs.Hearing.{Blanks, HeardTurn, commits_if_left, watch_member_name}
use Rattle.client_turns.specs.Lines.{Line, Told, wrote, listening, unlistened, document, result, rejected, error, remove, send}
use Rattle.client_turns.specs.Past.{Entry, Turn, Past, asked, is_refused_in, listener, raised_in, steps_by, steps_of, told}
use Rattle.client_turns.specs.Past as past_of
use Rattle.client_turns.specs.Watching.{is_watched}
use Rattle.client_turns.specs.Writing.{WrittenTurn, acknowledges, bad_turn, closed_turn, closes, fails, first_batch, is_open, is_stream_open, member_name, opened_turn, rejects, request_of, requests, settles, shakes, to_send}
use Rattle.mutations.specs.declared.batch.Batch.{Batch}
use Rattle.mutations.specs.declared.results.WriteRequest.TheVariants.{Batch as a_batch, Handshake as the_first}
use Rattle.mutations.specs.declared.results.WriteResponse.{WriteResponse}
use Rattle.mutations.specs.declared.results.WriteResult.{WriteResult}
use Rattle.value_model.specs.declared.document.RpcStatus.{RpcStatus}
use Rattle.value_model.specs.declared.message.ListenResponse.{ListenResponse}
use Rattle.value_model.specs.declared.message.StreamName.{StreamName}
use Rattle.value_model.specs.declared.message.StreamName.TheVariants as stream
use Rattle.value_model.specs.declared.timestamp.Timestamp.{Timestamp}
use Rattle.write_pipeline.specs.Order.{Steps, latest_token}
use Rattle.write_pipeline.specs.Standing.{closing_of}
use Rattle.write_pipeline.specs.declared.answer.Closing.{Closing}
use Rattle.write_pipeline.specs.declared.answer.Closing.TheVariants.{Kept as KeepsAll, Rejects}
use Rattle.std.proofs.lemmas.List.{append_assoc}
use Rattle.std.proofs.lemmas.Grind.{flat_map-append}
use Rattle.client_turns.specs.Settling.{Settles, ShowsAt, Stance, stance_of, told_to}
use Rattle.client_turns.specs.Turn.{IsTurn, SettlesAfter, answered_next, batches_behind, is_heard, snapshot_line, unless_refused, with_limbo, with_lines}
use Rattle.client_turns.specs.declared.refusal.Refusal.{Refusal}
use Rattle.client_turns.specs.declared.refusal.Refusal.TheVariants.{ListenerTaken, NoListener, StreamState, BadMessage, IdsSpent}
use Rattle.client_turns.proofs.Ones.{all_told}
use Rattle.client_run.specs.Laws.{ATurnReportsWithin, HasListenerIds, IsCounted}
use Rattle.client_run.specs.Printed.{printed, refusal_text, resume_of, rule_number, text_of, tree_of, unheard_tree, unread_tree}
use Rattle.client_run.specs.Turn.{LineTurn, IsLineTurn, and_heard, entry_of, of_event, refusal_in, unheard}

-- ---- refusals

unread_within : (most number : ℕ) (refusal : Unread) → number < 2 ^ 64 → IsSpelledReading (Refused refusal) → IsWithin most (line_of (unread_tree number refusal))
unread_within most number LineTooLong few is = within.too_long_within most number few
unread_within most number (BadLine member) few is = within.bad_line_within most number member few
unread_within most number TooDeep few is = within.too_deep_within most number few
unread_within most number (Unsupported member) few is = within.unsupported_within most number member few
unread_within most number (BadName bad) few is = within.bad_name_within most number _ bad.name few
unread_within most number (BadWrites count) few is = within.bad_writes_within most number count few is
unread_within most number (BadQuery broken) few is = within.bad_query_within most number (rule_number broken) few (small broken)
  where
    small : (r : QueryRule) → rule_number r < 2 ^ 64
    small rule.OneCollection = omega arith
    small rule.Negations = omega arith
    small rule.Lists = omega arith
    small rule.Cursors = omega arith
    small rule.Limit = omega arith
    small rule.ArrayFilters = omega arith

-- the id of a listener that is refused fits
abbrev IsSmallRefusal : Refusal → Type 0
IsSmallRefusal (ListenerTaken id) = id < 2 ^ 32
IsSmallRefusal (NoListener id) = id < 2 ^ 32
IsSmallRefusal (StreamState stream is_open) = Unit {0}
IsSmallRefusal (BadMessage stream member) = Unit {0}
IsSmallRefusal IdsSpent = Unit {0}

unheard_within : (most number : ℕ) (refusal : Refusal) → number < 2 ^ 64 → IsSmallRefusal refusal → IsWithin most (line_of (unheard_tree number refusal))
unheard_within most number (ListenerTaken id) few small = within.listener_taken_within most number id few (omega (arith, small))
unheard_within most number (NoListener id) few small = within.no_listener_within most number id few (omega (arith, small))
unheard_within most number (StreamState stream is_open) few small = streams.stream_state_within most number stream is_open few
unheard_within most number (BadMessage stream member) few small = streams.bad_message_within most number stream member few
unheard_within most number IdsSpent few small = within.ids_spent_within most number few

-- ---- lines

abbrev LineWithin : Root → ℕ → Line → Type 0
LineWithin root most line = IsWithin most (line_of (tree_of root line))

lines_within : (root : Root) (most : ℕ) (lines : List Line) → All (LineWithin root most) lines → IsWithin most (text_of root lines)
lines_within root most [] all = within_nothing most
lines_within root most (line ∷ lines) all = within_append most (line_of (tree_of root line)) (text_of root lines) (All-head (LineWithin root most) line lines all) (lines_within root most lines (All-tail (LineWithin root most) line lines all))

-- an answer that is refused has no lines, and one that isn't has lines that report within the state after it
pub record AnswerWithin (root : Root) (number : ℕ) (s : State) (answer : Turn) : Type 0 where
  pub refusal : IsWithin (after s answer.commit).number (refusal_text number (option_map unheard answer.refusal))
  pub lines : All (LineWithin root (after s answer.commit).number) answer.lines

refused_answer : (root : Root) (number : ℕ) (s : State) (refusal : Refusal) → number < 2 ^ 64 → IsSmallRefusal refusal → AnswerWithin root number s (refused refusal)
refused_answer root number s refusal few small = record { refusal = unheard_within s.number number refusal few small; lines = All-nil (LineWithin root s.number) }

one_answer : (root : Root) (most : ℕ) (line : Line) → LineWithin root most line → All (LineWithin root most) (line ∷ [])
one_answer root most line is = All-cons (LineWithin root most) line [] is (All-nil (LineWithin root most))

-- an error reports nothing
errors_within : (root : Root) (most : ℕ) (status : RpcStatus) (ids : List ℕ) → All (LineWithin root most) (each (λ id. error id status) ids)
errors_within root most status [] = All-nil (LineWithin root most)
errors_within root most status (id ∷ ids) = All-cons (LineWithin root most) (error id status) (each (λ i. error i status) ids) (streams.error_within most id status) (errors_within root most status ids)

inside : {X : Type 0} (xs : List X) (i : ℕ) (x : X) → slice_get xs i ≡ Some x → i < length xs
inside [] i x is = absurd (none-some x is)
inside (y ∷ xs) zero x is = omega arith
inside (y ∷ xs) (suc i) x is = let less = inside xs i x is in omega (arith, less)

module _ (root : Root) (number : ℕ) (s : State) (past : Past) (counted : IsCounted s) (few : number < 2 ^ 64) where
  write_within : (at : _) (writes : _) → AnswerWithin root number s (enqueued s at writes)
  write_within at writes = by (nat_lt s.number most_commits) refl
    where
      by : (left : Bool) → nat_lt s.number most_commits ≡ left → AnswerWithin root number s (if left then commits (Enqueue (record { id = s.next_batch; at = at; writes = writes })) (wrote s.next_batch (s.number + 1) ∷ []) else refused IdsSpent)
      by true is =
          let less = ltb-true s.number most_commits is in
          record { refusal = within_nothing (s.number + 1); lines = one_answer root (s.number + 1) (wrote s.next_batch (s.number + 1)) (within.ok_within s.next_batch (s.number + 1) (omega (arith, less, counted.next)) (omega (arith, less))) }
      by false is = refused_answer root number s IdsSpent few tt

  listens_within : (id : ℕ) (query : Target) (found : Option ℤ) → id < 2 ^ 32 → TellsId s.rows query found → AnswerWithin root number s (listens s id query found)
  listens_within id query (Some at) small tells =
      let has = (tells at).1 refl in
      let place = inside s.rows has.of_id.place has.row has.of_id.there in
      let bound : nat_abs at < 2 ^ 63 = subst (λ (z : ℤ). nat_abs z < 2 ^ 63) (sym has.of_id.is) (omega (arith, place, counted.rows)) in
      record { refusal = within_nothing s.number; lines = one_answer root s.number (listening id at s.number) (within.listening_within id s.number at (omega (arith, small)) bound (omega (arith, counted.within))) }
  listens_within id query None small tells = by (are_left s) refl
    where
      by : (left : Bool) → are_left s ≡ left → AnswerWithin root number s (if left then commits (Allocate (id_at (length s.rows)) query) (listening id (pos (id_at (length s.rows))) (s.number + 1) ∷ []) else refused IdsSpent)
      by true is =
          let parts = and_parts (nat_lt s.number most_commits) (not (nat_lt last_target (id_at (length s.rows)))) is in
          let less = ltb-true s.number most_commits parts.0 in
          record { refusal = within_nothing (s.number + 1); lines = one_answer root (s.number + 1) (listening id (pos (id_at (length s.rows))) (s.number + 1)) (within.listening_within id (s.number + 1) (pos (id_at (length s.rows))) (omega (arith, small)) (omega (arith, counted.rows)) (omega (arith, less))) }
      by false is = refused_answer root number s IdsSpent few tt

  begins_within : (id : ℕ) (query : Target) (view : Option Viewed) (answer : Turn) → id < 2 ^ 32 → Begins s id query view answer → AnswerWithin root number s answer
  begins_within id query (Some view) answer small is = subst (AnswerWithin root number s) (sym is) (refused_answer root number s (ListenerTaken id) few small)
  begins_within id query None answer small is = subst (AnswerWithin root number s) (sym is.2) (listens_within id query is.0 small is.1)

  ends_within : (id : ℕ) (view : Option Viewed) → id < 2 ^ 32 → AnswerWithin root number s (ends s id view)
  ends_within id None small = refused_answer root number s (NoListener id) few small
  ends_within id (Some view) small = record { refusal = within_nothing s.number; lines = one_answer root s.number (unlistened id s.number) (within.unlistened_within id s.number (omega (arith, small)) (omega (arith, counted.within))) }

  nothing_said : AnswerWithin root number s (answered [])
  nothing_said = record { refusal = within_nothing s.number; lines = All-nil (LineWithin root s.number) }

  -- ---- the streams

  opened_within : (name : StreamName) (opening : Bool) → AnswerWithin root number s (opened_turn name opening)
  opened_within name true = refused_answer root number s (StreamState name true) few tt
  opened_within stream.Watch false = nothing_said
  opened_within stream.Write false = record { refusal = within_nothing s.number; lines = one_answer root s.number (send the_first) (streams.send_write_within s.number root the_first) }

  bad_within : (name : StreamName) (member : List ℕ) (opening : Bool) → AnswerWithin root number s (bad_turn name member opening)
  bad_within name member true = refused_answer root number s (BadMessage name member) few tt
  bad_within name member false = refused_answer root number s (StreamState name false) few tt

  -- ---- the stream of listeners

  if_left_within : (made : Commit) (lines : List Line) → ((most : ℕ) → All (LineWithin root most) lines) → AnswerWithin root number s (commits_if_left s made lines)
  if_left_within made lines all = by (nat_lt s.number most_commits)
    where
      by : (left : Bool) → AnswerWithin root number s (if left then commits made lines else refused IdsSpent)
      by true = record { refusal = within_nothing (s.number + 1); lines = all (s.number + 1) }
      by false = refused_answer root number s IdsSpent few tt

  blanks_within : (ids : List ℕ) (lines : List Line) (t : Turn) → ((most : ℕ) → All (LineWithin root most) lines) → Blanks s ids lines t → AnswerWithin root number s t
  blanks_within ids lines t all (hearing.held some is) = subst (AnswerWithin root number s) (sym is) (if_left_within (Reset ids) lines all)
  blanks_within ids lines t all (hearing.none_held none is) = subst (AnswerWithin root number s) (sym is) (record { refusal = within_nothing s.number; lines = all s.number })

  heard_within : (response : ListenResponse) (opening : Bool) (t : Turn) → HeardTurn s past response opening t → AnswerWithin root number s t
  heard_within response true t (hearing.nothing gives is) = subst (AnswerWithin root number s) (sym is) nothing_said
  heard_within response true t (hearing.old_point at gives old is) = subst (AnswerWithin root number s) (sym is) nothing_said
  heard_within response true t (hearing.point at entries rows gives new made is) =
      subst (AnswerWithin root number s) (sym is) (if_left_within (Point at entries rows) [] (λ most. All-nil (LineWithin root most)))
  heard_within response true t (hearing.point_spent at gives new spent is) = subst (AnswerWithin root number s) (sym is) (refused_answer root number s IdsSpent few tt)
  heard_within response true t (hearing.mismatch id told count ids gives have blanks) = blanks_within ids [] t (λ most. All-nil (LineWithin root most)) blanks
  heard_within response true t (hearing.ended ids status those listeners gives none have are blanks) =
      blanks_within those (each (λ l. error l status) listeners) t (λ most. errors_within root most status listeners) blanks
  heard_within response true t (hearing.dropped ids status keys those listeners gives drops some blanked are is) =
      subst (AnswerWithin root number s) (sym is) (if_left_within (Drop keys those) (each (λ l. error l status) listeners) (λ most. errors_within root most status listeners))
  heard_within response true t (hearing.fails why refuses is) = subst (AnswerWithin root number s) (sym is) (refused_answer root number s (BadMessage stream.Watch (watch_member_name why)) few tt)
  heard_within response false t is = subst (AnswerWithin root number s) (sym is) (refused_answer root number s (StreamState stream.Watch false) few tt)

  -- ---- the stream of writes

  rejects_within : (status : RpcStatus) → status.code < 2 ^ 8 → (first : Option Batch) → IfSome first (λ batch. batch.id < 2 ^ 64) → AnswerWithin root number s (rejects s first status)
  rejects_within status small None bound = nothing_said
  rejects_within status small (Some batch) bound = by (nat_lt s.number most_commits) refl
    where
      by : (left : Bool) → nat_lt s.number most_commits ≡ left → AnswerWithin root number s (if left then commits (Reject batch.id) (rejected batch.id (s.number + 1) status ∷ []) else refused IdsSpent)
      by true is =
          let less = ltb-true s.number most_commits is in
          record { refusal = within_nothing (s.number + 1); lines = one_answer root (s.number + 1) (rejected batch.id (s.number + 1) status) (streams.rejected_within batch.id (s.number + 1) status bound (omega (arith, less)) (omega (arith, small))) }
      by false is = refused_answer root number s IdsSpent few tt

  closes_within : (status : RpcStatus) → status.code < 2 ^ 8 → (closing : Closing) → AnswerWithin root number s (closes s status closing)
  closes_within status small KeepsAll = nothing_said
  closes_within status small Rejects = rejects_within status small (first_batch s) counted.first

  closed_within : (h : Steps) (name : StreamName) (status : RpcStatus) → status.code < 2 ^ 8 → (opening : Bool) → AnswerWithin root number s (closed_turn s h name status opening)
  closed_within h stream.Watch status small true = nothing_said
  closed_within h stream.Write status small true = closes_within status small (closing_of h status.code)
  closed_within h name status small false = refused_answer root number s (StreamState name false) few tt

  settles_within : (batch : ℕ) (time : Timestamp) (results : List WriteResult) → batch < 2 ^ 64 → AnswerWithin root number s (settles s batch time results)
  settles_within batch time results bound = by (nat_lt s.number most_commits) refl
    where
      by : (left : Bool) → nat_lt s.number most_commits ≡ left → AnswerWithin root number s (if left then commits (Acknowledge batch time results) (result batch (s.number + 1) time ∷ []) else refused IdsSpent)
      by true is =
          let less = ltb-true s.number most_commits is in
          record { refusal = within_nothing (s.number + 1); lines = one_answer root (s.number + 1) (result batch (s.number + 1) time) (streams.result_within batch (s.number + 1) time bound (omega (arith, less))) }
      by false is = refused_answer root number s IdsSpent few tt

  written_within : (h : Steps) (response : WriteResponse) (opening : Bool) (t : Turn) → WrittenTurn s h response opening t → AnswerWithin root number s t
  written_within h response true t (shakes fits is) = subst (AnswerWithin root number s) (sym is) nothing_said
  written_within h response true t (acknowledges batch time first at fits is) =
      subst (AnswerWithin root number s) (sym is) (settles_within batch.id time response.results (subst (λ (b : Option Batch). IfSome b (λ x. x.id < 2 ^ 64)) first counted.first))
  written_within h response true t (fails member not is) = subst (AnswerWithin root number s) (sym is) (refused_answer root number s (BadMessage stream.Write (member_name member)) few tt)
  written_within h response false t is = subst (AnswerWithin root number s) (sym is) (refused_answer root number s (StreamState stream.Write false) few tt)

  answer_within : (e : Event) (answer : Turn) → IsSpelledEvent e → Answers s past e answer → AnswerWithin root number s answer
  answer_within (event.Write at writes) answer spelled is = subst (AnswerWithin root number s) (sym is) (write_within at writes)
  answer_within (event.Get key) answer spelled is = subst (AnswerWithin root number s) (sym is)
      (record { refusal = within_nothing s.number; lines = one_answer root s.number (document key (document_of s key) (standing_of s key)) (within.document_within s.number root key (document_of s key) (standing_of s key)) })
  answer_within (event.Listen id query) answer spelled is = begins_within id query (listener id past) answer spelled.fits is
  answer_within (event.Unlisten id) answer spelled is = subst (AnswerWithin root number s) (sym is) (ends_within id (listener id past) spelled)
  answer_within (event.Opened name) answer spelled is = subst (AnswerWithin root number s) (sym is) (opened_within name (is_stream_open name past))
  answer_within (event.Closed name status) answer spelled is = subst (AnswerWithin root number s) (sym is) (closed_within (steps_of past) name status spelled (is_stream_open name past))
  answer_within (event.Written response) answer spelled is = written_within (steps_of past) response (is_open (steps_of past)) answer is
  answer_within (event.BadMessage name member) answer spelled is = subst (AnswerWithin root number s) (sym is) (bad_within name member (is_stream_open name past))
  answer_within (event.Watch response) answer spelled is = heard_within response (is_watched past) answer is
  answer_within event.Timer answer spelled is = subst (AnswerWithin root number s) (sym is) nothing_said

-- ---- snapshots

-- who listens after an event has a small id, where those before and the event's own have one
asked_small : (e : Event) (past : Past) → IsSpelledEvent e → HasListenerIds past → (id : ℕ) (view : Viewed) → asked id e (listener id past) ≡ Some view → id < 2 ^ 32
asked_small (event.Write at writes) past spelled small id view is = small id view is
asked_small (event.Get key) past spelled small id view is = small id view is
asked_small (event.Listen other query) past spelled small id view is = by (nat_eq other id) refl is
  where
    by : (b : Bool) → nat_eq other id ≡ b → (if b then Some (record { target = query; raised = None }) else listener id past) ≡ Some view → id < 2 ^ 32
    by true same is = subst (λ (n : ℕ). n < 2 ^ 32) (eqb-true other id same) spelled.fits
    by false apart is = small id view is
asked_small (event.Opened name) past spelled small id view is = small id view is
asked_small (event.Closed name status) past spelled small id view is = small id view is
asked_small (event.Written response) past spelled small id view is = small id view is
asked_small (event.BadMessage name member) past spelled small id view is = small id view is
asked_small (event.Watch response) past spelled small id view is = small id view is
asked_small event.Timer past spelled small id view is = small id view is
asked_small (event.Unlisten other) past spelled small id view is = by (nat_eq other id) is
  where
    by : (b : Bool) → (if b then None else listener id past) ≡ Some view → id < 2 ^ 32
    by true is = absurd (none-some view is)
    by false is = small id view is

told_there : (r : Option Raised) (v : Option Viewed) (view : Viewed) → told r v ≡ Some view → (found : Viewed) × (v ≡ Some found)
told_there None v view is = (view, is)
told_there (Some raised) None view is = absurd (none-some view is)
told_there (Some raised) (Some found) view is = (found, refl)

unrefused : (b : Bool) (v : Option Viewed) (view : Viewed) → past_of.unless_refused b v ≡ Some view → v ≡ Some view
unrefused true v view is = absurd (none-some view is)
unrefused false v view is = is

-- who listens once an event was heard has a small id
entry_small : (entry : Entry) (past : Past) → IsSpelledEvent entry.event → HasListenerIds past → HasListenerIds (entry ∷ past)
entry_small entry past spelled small id view is =
    let before = asked id entry.event (listener id past) in
    let there = told_there (raised_in id entry.turn.lines) (past_of.unless_refused (is_refused_in id entry.turn.lines) before) view is in
    asked_small entry.event past spelled small id there.0 (unrefused (is_refused_in id entry.turn.lines) before there.0 there.1)

told_small : (root : Root) (s : State) (stance : ℕ → Stance) (listening_of : ℕ → Option Viewed) (ts : List Told) → ((id : ℕ) (view : Viewed) → listening_of id ≡ Some view → id < 2 ^ 32) → Settles root s stance listening_of ts → All (λ (t : Told). t.id < 2 ^ 32) ts
told_small root s stance listening_of ts small settles = go ts (all_told ts settles.ascending)
  where
    one : (t : Told) → told_to t.id ts ≡ Some t.raised → (v : Option Viewed) → listening_of t.id ≡ v → t.id < 2 ^ 32
    one t is None there = absurd (none-some t.raised (sym (subst (λ (v : Option Viewed). ShowsAt root s (stance t.id) v (Some t.raised)) there (subst (ShowsAt root s (stance t.id) (listening_of t.id)) is (settles.each t.id)))))
    one t is (Some view) there = small t.id view there

    go : (us : List Told) → All (λ (t : Told). told_to t.id ts ≡ Some t.raised) us → All (λ (t : Told). t.id < 2 ^ 32) us
    go [] all = All-nil (λ (t : Told). t.id < 2 ^ 32)
    go (u ∷ us) all = All-cons (λ (t : Told). t.id < 2 ^ 32) u us (one u (All-head (λ (t : Told). told_to t.id ts ≡ Some t.raised) u us all) (listening_of u.id) refl) (go us (All-tail (λ (t : Told). told_to t.id ts ≡ Some t.raised) u us all))

snapshots_within : (root : Root) (s : State) (ts : List Told) → s.number < 2 ^ 64 → All (λ (t : Told). t.id < 2 ^ 32) ts → All (LineWithin root s.number) (each (snapshot_line s) ts)
snapshots_within root s [] few all = All-nil (LineWithin root s.number)
snapshots_within root s (t ∷ ts) few all =
    let small = All-head (λ (x : Told). x.id < 2 ^ 32) t ts all in
    All-cons (LineWithin root s.number) (snapshot_line s t) (each (snapshot_line s) ts)
    (within.snapshot_within root t.id s.number s.last_read t.raised (omega (arith, small)) few)
    (snapshots_within root s ts few (All-tail (λ (x : Told). x.id < 2 ^ 32) t ts all))

-- ---- turns

after_few : (s : State) (commit : Option Commit) → s.number ≤ most_commits → (after s commit).number < 2 ^ 64
after_few s None few = omega (arith, few)
after_few s (Some commit) few = omega (arith, few)

settled_within : (root : Root) (number : ℕ) (s : State) (past : Past) (e : Event) (answer : Turn) (heard : Bool) (t : Turn) → IsCounted s → IsSpelledEvent e → HasListenerIds past
    → AnswerWithin root number s answer → SettlesAfter root s past e answer heard t → IsWithin (after s t.commit).number (printed root number (of_event t))
settled_within root number s past e answer false t counted spelled small is settles =
    subst (λ (x : Turn). IsWithin (after s x.commit).number (printed root number (of_event x))) (sym settles)
    (within_append (after s answer.commit).number (refusal_text number (option_map unheard answer.refusal)) (text_of root answer.lines) is.refusal (lines_within root (after s answer.commit).number answer.lines is.lines))
settled_within root number s past e answer true t counted spelled small is settled =
    let later = after s answer.commit in
    let next = answered_next s past e answer in
    let entry : Entry = record { state = s; event = e; turn = answer } in
    subst (λ (x : Turn). IsWithin (after s x.commit).number (printed root number (of_event x))) (sym settled.is)
    (within_append later.number (refusal_text number (option_map unheard answer.refusal)) (text_of root (answer.lines ++ each (snapshot_line later) settled.told)) is.refusal
    (lines_within root later.number (answer.lines ++ each (snapshot_line later) settled.told)
    (All-append (LineWithin root later.number) answer.lines (each (snapshot_line later) settled.told) is.lines
    (snapshots_within root later settled.told (after_few s answer.commit counted.within)
    (told_small root later (stance_of next) (λ id. listener id next) settled.told (entry_small entry past spelled small) settled.settles)))))

-- ---- requests, which report nothing

requests_within : (root : Root) (most : ℕ) (token : List ℕ) (bs : List Batch) → All (LineWithin root most) (each (request_of token) bs)
requests_within root most token [] = All-nil (LineWithin root most)
requests_within root most token (b ∷ bs) = All-cons (LineWithin root most) (request_of token b) (each (request_of token) bs) (streams.send_write_within most root (a_batch token b.writes)) (requests_within root most token bs)

behind_within : (root : Root) (most : ℕ) (refusal : Option Refusal) (h : Steps) (bs : List Batch) → All (LineWithin root most) (unless_refused refusal (requests h bs))
behind_within root most None h bs = requests_within root most (latest_token h) (to_send h bs)
behind_within root most (Some refusal) h bs = All-nil (LineWithin root most)

removes_within : (root : Root) (most : ℕ) (targets : List ℤ) → All (LineWithin root most) (each remove targets)
removes_within root most [] = All-nil (LineWithin root most)
removes_within root most (t ∷ targets) = All-cons (LineWithin root most) (remove t) (each remove targets) (streams.send_listen_within most root (Remove t)) (removes_within root most targets)

adds_within : (root : Root) (most : ℕ) (s : State) (targets : List ℤ) (adds : List Line) → AllZip (IsAddLine s) targets adds → All (LineWithin root most) adds
adds_within root most s [] [] are = All-nil (LineWithin root most)
adds_within root most s [] (line ∷ adds) are = absurd are
adds_within root most s (t ∷ targets) [] are = absurd are
adds_within root most s (t ∷ targets) (line ∷ adds) are =
    All-cons (LineWithin root most) line adds
    (subst (LineWithin root most) (sym are.0.is) (streams.send_listen_within most root (Add t are.0.row.target (option_map resume_of are.0.row.held))))
    (adds_within root most s targets adds are.1)

limbo_adds_within : (root : Root) (most : ℕ) (limbo : Limbo) (targets : List ℤ) (adds : List Line) → AllZip (IsListenLine limbo) targets adds → All (LineWithin root most) adds
limbo_adds_within root most limbo [] [] are = All-nil (LineWithin root most)
limbo_adds_within root most limbo [] (line ∷ adds) are = absurd are
limbo_adds_within root most limbo (t ∷ targets) [] are = absurd are
limbo_adds_within root most limbo (t ∷ targets) (line ∷ adds) are =
    All-cons (LineWithin root most) line adds
    (subst (LineWithin root most) (sym are.0.is) (streams.send_listen_within most root (Add t (DocumentTarget are.0.key) None)))
    (limbo_adds_within root most limbo targets adds are.1)

asks_within : (root : Root) (most : ℕ) (may : Bool) (s : State) (next : Past) (reset : ℤ → Bool) (lines : List Line) → AsksIf may s next reset lines → All (LineWithin root most) lines
asks_within root most true s next reset lines asks =
    subst (All (LineWithin root most)) (sym asks.is)
    (All-append (LineWithin root most) (each remove asks.removed ++ asks.adds) asks.listen_adds
    (All-append (LineWithin root most) (each remove asks.removed) asks.adds (removes_within root most asks.removed) (adds_within root most s asks.added asks.adds asks.rows))
    (limbo_adds_within root most (limbo_of next) asks.listens asks.listen_adds asks.keys))
asks_within root most false s next reset lines none = subst (All (LineWithin root most)) (sym none) (All-nil (LineWithin root most))

with_lines_within : (root : Root) (number most : ℕ) (t : Turn) (lines : List Line) → IsWithin most (printed root number (of_event t)) → All (LineWithin root most) lines → IsWithin most (printed root number (of_event (with_lines t lines)))
with_lines_within root number most t lines is all =
    subst (IsWithin most)
    (append_assoc (refusal_text number (option_map unheard t.refusal)) (text_of root t.lines) (text_of root lines)
    ∙ ap (λ (x : List ℕ). refusal_text number (option_map unheard t.refusal) ++ x) (sym (flat_map-append (λ l. line_of (tree_of root l)) t.lines lines)))
    (within_append most (printed root number (of_event t)) (text_of root lines) is (lines_within root most lines all))

event_within : (root : Root) (s : State) (past : Past) (e : Event) (t : Turn) (number : ℕ) → IsCounted s → HasListenerIds past → number < 2 ^ 64 → IsSpelledEvent e → IsTurn root s past e t → IsWithin (after s t.commit).number (printed root number (of_event t))
event_within root s past e t number counted small few spelled is =
    let turn = is.is_settled in
    let settled = is.settled in
    let most = (after s settled.commit).number in
    let within_it = settled_within root number s past e turn.answer (is_heard turn.answer.refusal) settled counted spelled small (answer_within root number s past counted few e turn.answer spelled turn.answers) turn.settles in
    let held = with_limbo settled is.limbo in
    let asking = asks_within root most (is_heard settled.refusal && is_watched (answered_next s past e held)) (after s settled.commit) (answered_next s past e held) (resets_by e settled.commit past) is.asked is.asks in
    let sending = behind_within root most settled.refusal (steps_by e settled.refusal (steps_of past)) (after s settled.commit).batches in
    subst (λ (x : Turn). IsWithin (after s x.commit).number (printed root number (of_event x))) (sym is.is)
    (with_lines_within root number most held (is.asked ++ batches_behind s past e settled) within_it
    (All-append (LineWithin root most) is.asked (batches_behind s past e settled) asking sending))

pub turn_within : (root : Root) (s : State) (past : Past) (reading : Reading) (t : LineTurn) (number : ℕ) → IsCounted s → HasListenerIds past → number < 2 ^ 64 → IsSpelledReading reading → IsLineTurn root s past reading t → IsWithin (after s t.commit).number (printed root number t)
turn_within root s past (Refused refusal) t number counted small few spelled is =
    subst (λ (x : LineTurn). IsWithin (after s x.commit).number (printed root number x)) (sym is)
    (within_one s.number (line_of (unread_tree number refusal)) (unread_within s.number number refusal few spelled))
turn_within root s past (an_event e) t number counted small few spelled is =
    subst (λ (x : LineTurn). IsWithin (after s x.commit).number (printed root number x)) (sym is.is)
    (event_within root s past e is.turn number counted small few spelled is.is_turn)

pub turn_reports : ATurnReportsWithin
turn_reports root s past reading t number counted small few spelled is = (turn_within root s past reading t number counted small few spelled is).within

-- ---- the ids of listeners

pub more_small : (s : State) (reading : Reading) (t : LineTurn) (past : Past) → IsSpelledReading reading → HasListenerIds past → HasListenerIds (and_heard s reading t past)
more_small s (Refused refusal) t past spelled small = small
more_small s (an_event e) t past spelled small = by (is_heard (refusal_in t.cause))
  where
    by : (b : Bool) → HasListenerIds (if b then entry_of s e t ∷ past else past)
    by true = entry_small (entry_of s e t) past spelled small
    by false = small
