-- the requests behind an event's turn
use Rattle.std.proofs.Common.{◌≡◌, ℕ, ◌+◌, ℤ, Bool, true, false, nat_lt, nat_eq, List, [], ◌∷◌, ◌++◌, map as each, length, Option, Some, None, if◌then◌else◌, refl, sym, ap, subst, ◌∙◌}
use Rattle.std.proofs.lemmas.Option.{none-some}
use Rattle.std.specs.List.{AllZip}
use Rattle.document_keys.specs.Names.{Root}
use Rattle.client_events.specs.declared.event.Event.{Event}
use Rattle.client_events.specs.declared.event.Event.TheVariants as event
use Rattle.durable_state.specs.State.{State, most_commits}
use Rattle.mutations.specs.declared.batch.Batch.{Batch}
use Rattle.mutations.specs.declared.results.WriteResponse.{WriteResponse}
use Rattle.queries.specs.declared.target.Target.{Target}
use Rattle.record_codec.specs.declared.commit.Commit.{Commit}
use Rattle.record_codec.specs.declared.commit.Commit.TheVariants.{Acknowledge, Allocate, Drop, Enqueue, Point, Reject, Reset}
use Rattle.target_cache.specs.Cache.{id_at}
use Rattle.value_model.specs.declared.document.RpcStatus.{RpcStatus}
use Rattle.value_model.specs.declared.message.ListenResponse.{ListenResponse}
use Rattle.value_model.specs.declared.message.StreamName.{StreamName}
use Rattle.views.specs.Viewed.{Viewed}
use Rattle.write_pipeline.specs.Order.{Steps}
use Rattle.write_pipeline.specs.Standing.{closing_of}
use Rattle.write_pipeline.specs.declared.answer.Closing.{Closing}
use Rattle.write_pipeline.specs.declared.answer.Closing.TheVariants.{Kept as KeepsAll, Rejects}
use Rattle.client_turns.specs.Answers.{Answers, Begins, are_left, ends, listens}
use Rattle.durable_state.specs.Documents.{document_of, standing_of}
use Rattle.mutations.specs.declared.results.WriteRequest.TheVariants.{Handshake as the_first}
use Rattle.client_turns.specs.Hearing.{Blanks, HeardTurn, commits_if_left, dropped, ended, held, mismatch, none_held, nothing, old_point, point, point_spent, watch_member_name, fails as fails_heard}
use Rattle.client_turns.specs.Lines.{Line, Told, add, document, error, listening, rejected, remove, result, send, snapshot, unlistened, wrote}
use Rattle.client_turns.specs.Past.{Past, Turn, is_refused_in, listener, raised_in, sent_in, steps_of, told}
use Rattle.client_turns.specs.Turn.{IsSettled, IsTurn, SettlesAfter, is_heard, snapshot_line}
use Rattle.client_turns.specs.Watching.{is_watched}
use Rattle.client_turns.specs.Turns.{after, answered, commits, refused}
use Rattle.client_turns.specs.Writing.{WrittenTurn, acknowledges, bad_turn, closed_turn, closes, fails, first_batch, is_open, is_stream_open, member_name, opened_turn, rejects, request_of, shakes}
use Rattle.client_turns.specs.declared.refusal.Refusal.{Refusal}
use Rattle.client_turns.specs.declared.refusal.Refusal.TheVariants.{BadMessage, IdsSpent, ListenerTaken, NoListener, StreamState}
use Rattle.value_model.specs.declared.message.StreamName.TheVariants as stream
use Rattle.client_turns.proofs.Requested.{IsAdd}
use Rattle.client_turns.proofs.Steps.{sent_behind, sent_told}

-- ---- an answer is a refusal, or lines that send no batch and add no target, perhaps with a commit

-- these lines send no batch
abbrev SendsNone : List Line → Type 0
SendsNone lines = (h : Steps) → sent_in lines h ≡ h

-- none of these lines is an add request
abbrev pub IsNoAdd : Line → Type 0
IsNoAdd (add t row) = ⊥
IsNoAdd _ = Unit {0}

abbrev pub AddsNone : List Line → Type 0
AddsNone [] = Unit {0}
AddsNone (line ∷ lines) = IsNoAdd line × AddsNone lines

abbrev RequestsNone : List Line → Type 0
RequestsNone lines = SendsNone lines × AddsNone lines

data Shape (t : Turn) : Type 0 where
  is_refused : (refusal : Refusal) → t ≡ refused refusal → Shape t
  is_answered : (lines : List Line) → RequestsNone lines → t ≡ answered lines → Shape t
  is_made : (commit : Commit) (lines : List Line) → RequestsNone lines → t ≡ commits commit lines → Shape t

shape_if : (b : Bool) (some none : Turn) → Shape some → Shape none → Shape (if b then some else none)
shape_if true some none first second = first
shape_if false some none first second = second

-- a commit where a number is left for it
shape_left : (b : Bool) (commit : Commit) (lines : List Line) → RequestsNone lines → Shape (if b then commits commit lines else refused IdsSpent)
shape_left b commit lines silent = shape_if b (commits commit lines) (refused IdsSpent) (is_made commit lines silent refl) (is_refused IdsSpent refl)

shape_begins : (s : State) (id : ℕ) (query : Target) (view : Option Viewed) (t : Turn) → Begins s id query view t → Shape t
shape_begins s id query (Some view) t is = is_refused (ListenerTaken id) is
shape_begins s id query None t is = subst Shape (sym is.2) (by is.0)
  where
    by : (found : Option _) → Shape (listens s id query found)
    by (Some target) = is_answered (listening id target s.number ∷ []) (λ h. refl, (tt, tt)) refl
    by None = shape_left (are_left s) (Allocate (id_at (length s.rows)) query) (listening id _ (s.number + 1) ∷ []) (λ h. refl, (tt, tt))

shape_ends : (s : State) (id : ℕ) (view : Option Viewed) → Shape (ends s id view)
shape_ends s id None = is_refused (NoListener id) refl
shape_ends s id (Some view) = is_answered (unlistened id s.number ∷ []) (λ h. refl, (tt, tt)) refl

shape_opened : (name : StreamName) (b : Bool) → Shape (opened_turn name b)
shape_opened name true = is_refused (StreamState name true) refl
shape_opened stream.Watch false = is_answered [] (λ h. refl, tt) refl
shape_opened stream.Write false = is_answered (send the_first ∷ []) (λ h. refl, (tt, tt)) refl

shape_bad : (name : StreamName) (member : List ℕ) (b : Bool) → Shape (bad_turn name member b)
shape_bad name member true = is_refused (BadMessage name member) refl
shape_bad name member false = is_refused (StreamState name false) refl

shape_rejects : (s : State) (status : RpcStatus) (first : Option Batch) → Shape (rejects s first status)
shape_rejects s status None = is_answered [] (λ h. refl, tt) refl
shape_rejects s status (Some batch) = shape_left (nat_lt s.number most_commits) (Reject batch.id) (rejected batch.id (s.number + 1) status ∷ []) (λ h. refl, (tt, tt))

shape_closes : (s : State) (status : RpcStatus) (closing : Closing) → Shape (closes s status closing)
shape_closes s status KeepsAll = is_answered [] (λ h. refl, tt) refl
shape_closes s status Rejects = shape_rejects s status (first_batch s)

shape_closed : (s : State) (h : Steps) (name : StreamName) (status : RpcStatus) (b : Bool) → Shape (closed_turn s h name status b)
shape_closed s h name status false = is_refused (StreamState name false) refl
shape_closed s h stream.Watch status true = is_answered [] (λ g. refl, tt) refl
shape_closed s h stream.Write status true = shape_closes s status (closing_of h status.code)

shape_written : (s : State) (h : Steps) (response : WriteResponse) (b : Bool) (t : Turn) → WrittenTurn s h response b t → Shape t
shape_written s h response true t (shakes fits is) = is_answered [] (λ g. refl, tt) is
shape_written s h response true t (acknowledges batch time first at fits is) = subst Shape (sym is) (shape_left (nat_lt s.number most_commits) (Acknowledge batch.id time response.results) (result batch.id (s.number + 1) time ∷ []) (λ g. refl, (tt, tt)))
shape_written s h response true t (fails member not is) = is_refused (BadMessage stream.Write (member_name member)) is
shape_written s h response false t is = is_refused (StreamState stream.Write false) is

errors_silent : (status : RpcStatus) (ls : List ℕ) → SendsNone (each (λ l. error l status) ls)
errors_silent status [] h = refl
errors_silent status (l ∷ ls) h = errors_silent status ls h

errors_plain : (status : RpcStatus) (ls : List ℕ) → AddsNone (each (λ l. error l status) ls)
errors_plain status [] = tt
errors_plain status (l ∷ ls) = (tt, errors_plain status ls)

shape_committing : (s : State) (commit : Commit) (lines : List Line) → RequestsNone lines → Shape (commits_if_left s commit lines)
shape_committing s commit lines silent = shape_left (nat_lt s.number most_commits) commit lines silent

shape_blanks : (s : State) (ids : List ℕ) (lines : List Line) (t : Turn) → RequestsNone lines → Blanks s ids lines t → Shape t
shape_blanks s ids lines t silent (held any is) = subst Shape (sym is) (shape_committing s (Reset ids) lines silent)
shape_blanks s ids lines t silent (none_held none is) = is_answered lines silent is

shape_heard : (s : State) (past : Past) (response : ListenResponse) (b : Bool) (t : Turn) → HeardTurn s past response b t → Shape t
shape_heard s past response false t is = is_refused (StreamState stream.Watch false) is
shape_heard s past response true t (nothing gives is) = is_answered [] (λ g. refl, tt) is
shape_heard s past response true t (old_point at gives old is) = is_answered [] (λ g. refl, tt) is
shape_heard s past response true t (point at entries rows gives below commits is) = subst Shape (sym is) (shape_committing s (Point at entries rows) [] (λ g. refl, tt))
shape_heard s past response true t (point_spent at gives below many is) = is_refused IdsSpent is
shape_heard s past response true t (mismatch id told count ids gives have blanks) = shape_blanks s ids [] t (λ g. refl, tt) blanks
shape_heard s past response true t (ended ids status those listeners gives none have are blanks) = shape_blanks s those (each (λ l. error l status) listeners) t (errors_silent status listeners, errors_plain status listeners) blanks
shape_heard s past response true t (dropped ids status keys those listeners gives drops some blanked are is) = subst Shape (sym is) (shape_committing s (Drop keys those) (each (λ l. error l status) listeners) (errors_silent status listeners, errors_plain status listeners))
shape_heard s past response true t (fails_heard why refuses is) = is_refused (BadMessage stream.Watch (watch_member_name why)) is

answer_shape : (s : State) (past : Past) (e : Event) (t : Turn) → Answers s past e t → Shape t
answer_shape s past (event.Write at writes) t is =
    subst Shape (sym is) (shape_left (nat_lt s.number most_commits) (Enqueue (record { id = s.next_batch; at = at; writes = writes })) (wrote s.next_batch (s.number + 1) ∷ []) (λ h. refl, (tt, tt)))
answer_shape s past (event.Get key) t is = is_answered (document key (document_of s key) (standing_of s key) ∷ []) (λ h. refl, (tt, tt)) is
answer_shape s past (event.Listen id query) t is = shape_begins s id query (listener id past) t is
answer_shape s past (event.Unlisten id) t is = subst Shape (sym is) (shape_ends s id (listener id past))
answer_shape s past (event.Opened name) t is = subst Shape (sym is) (shape_opened name (is_stream_open name past))
answer_shape s past (event.Closed name status) t is = subst Shape (sym is) (shape_closed s (steps_of past) name status (is_stream_open name past))
answer_shape s past (event.Written response) t is = shape_written s (steps_of past) response (is_open (steps_of past)) t is
answer_shape s past (event.BadMessage name member) t is = subst Shape (sym is) (shape_bad name member (is_stream_open name past))
answer_shape s past (event.Watch response) t is = shape_heard s past response (is_watched past) t is
answer_shape s past event.Timer t is = is_answered [] (λ h. refl, tt) is

shape_lines : (t : Turn) → Shape t → RequestsNone t.lines
shape_lines t (is_refused refusal is) = subst (λ (x : Turn). RequestsNone x.lines) (sym is) (λ h. refl, tt)
shape_lines t (is_answered lines silent is) = subst (λ (x : Turn). RequestsNone x.lines) (sym is) silent
shape_lines t (is_made commit lines silent is) = subst (λ (x : Turn). RequestsNone x.lines) (sym is) silent

-- where a refusal is, no commit is
shape_unmade : (t : Turn) → Shape t → (refusal : Refusal) → t.refusal ≡ Some refusal → t.commit ≡ None
shape_unmade t (is_refused refusal is) other so = ap (λ (x : Turn). x.commit) is
shape_unmade t (is_answered lines silent is) other so = ap (λ (x : Turn). x.commit) is
shape_unmade t (is_made commit lines silent is) other so = absurd (none-some other (sym (ap (λ (x : Turn). x.refusal) is) ∙ so))

adds_none_behind : (xs ys : List Line) → AddsNone xs → AddsNone ys → AddsNone (xs ++ ys)
adds_none_behind [] ys none more = more
adds_none_behind (x ∷ xs) ys none more = (none.0, adds_none_behind xs ys none.1 more)

told_plain : (s : State) (ts : List Told) → AddsNone (each (snapshot_line s) ts)
told_plain s [] = tt
told_plain s (t ∷ ts) = (tt, told_plain s ts)

abbrev Requestless : Turn → Type 0
Requestless t = RequestsNone t.lines

lines_then : (root : Root) (s : State) (past : Past) (e : Event) (answer : Turn) (heard : Bool) (t : Turn) → SettlesAfter root s past e answer heard t → Requestless answer → Requestless t
lines_then root s past e answer true t is lines = subst Requestless (sym is.is) (
  λ h. sent_behind answer.lines (each (snapshot_line (after s answer.commit)) is.told) h ∙ sent_told (after s answer.commit) is.told (sent_in answer.lines h) ∙ lines.0 h,
  adds_none_behind answer.lines (each (snapshot_line (after s answer.commit)) is.told) lines.1 (told_plain (after s answer.commit) is.told),
)
lines_then root s past e answer false t is lines = subst Requestless (sym is) lines

settled_lines : (root : Root) (s : State) (past : Past) (e : Event) (t : Turn) → IsSettled root s past e t → Requestless t
settled_lines root s past e t it = lines_then root s past e it.answer (is_heard it.answer.refusal) t it.settles (shape_lines it.answer (answer_shape s past e it.answer it.answers))

pub settled_silent : (root : Root) (s : State) (past : Past) (e : Event) (t : Turn) → IsSettled root s past e t → (h : Steps) → sent_in t.lines h ≡ h
settled_silent root s past e t it = (settled_lines root s past e t it).0

-- no target is added before the requests
pub settled_plain : (root : Root) (s : State) (past : Past) (e : Event) (t : Turn) → IsSettled root s past e t → AddsNone t.lines
settled_plain root s past e t it = (settled_lines root s past e t it).1

-- a refused event makes no commit
unmade_then : (root : Root) (s : State) (past : Past) (e : Event) (answer : Turn) (heard : Bool) (t : Turn) → SettlesAfter root s past e answer heard t → Shape answer → (other : Refusal) → t.refusal ≡ Some other → t.commit ≡ None
unmade_then root s past e answer true t is shape other so = ap (λ (x : Turn). x.commit) is.is ∙ shape_unmade answer shape other (sym (ap (λ (x : Turn). x.refusal) is.is) ∙ so)
unmade_then root s past e answer false t is shape other so = ap (λ (x : Turn). x.commit) is ∙ shape_unmade answer shape other (sym (ap (λ (x : Turn). x.refusal) is) ∙ so)

pub refused_unmade : (root : Root) (s : State) (past : Past) (e : Event) (t : Turn) → IsTurn root s past e t → (refusal : Refusal) → t.refusal ≡ Some refusal → t.commit ≡ None
refused_unmade root s past e t it refusal so =
    let settled = it.is_settled in
    ap (λ (x : Turn). x.commit) it.is
    ∙ unmade_then root s past e settled.answer (is_heard settled.answer.refusal) it.settled settled.settles (answer_shape s past e settled.answer settled.answers) refusal (sym (ap (λ (x : Turn). x.refusal) it.is) ∙ so)

-- ---- requests are no snapshots

pub raised_no : (id : ℕ) (token : List ℕ) (bs : List Batch) → raised_in id (each (request_of token) bs) ≡ None
raised_no id token [] = refl
raised_no id token (b ∷ bs) = raised_no id token bs

pub raised_removes : (id : ℕ) (ids : List ℤ) → raised_in id (each remove ids) ≡ None
raised_removes id [] = refl
raised_removes id (x ∷ ids) = raised_removes id ids

pub raised_adds : (id : ℕ) (ids : List ℤ) (lines : List Line) → AllZip IsAdd ids lines → raised_in id lines ≡ None
raised_adds id [] [] all = refl
raised_adds id [] (line ∷ lines) all = absurd all
raised_adds id (x ∷ ids) [] all = absurd all
raised_adds id (x ∷ ids) (line ∷ lines) all = ap (λ (l : Line). raised_in id (l ∷ lines)) all.0.1 ∙ raised_adds id ids lines all.1

pub refused_no : (id : ℕ) (token : List ℕ) (bs : List Batch) → is_refused_in id (each (request_of token) bs) ≡ false
refused_no id token [] = refl
refused_no id token (b ∷ bs) = refused_no id token bs

pub refused_removes : (id : ℕ) (ids : List ℤ) → is_refused_in id (each remove ids) ≡ false
refused_removes id [] = refl
refused_removes id (x ∷ ids) = refused_removes id ids

pub refused_adds : (id : ℕ) (ids : List ℤ) (lines : List Line) → AllZip IsAdd ids lines → is_refused_in id lines ≡ false
refused_adds id [] [] all = refl
refused_adds id [] (line ∷ lines) all = absurd all
refused_adds id (x ∷ ids) [] all = absurd all
refused_adds id (x ∷ ids) (line ∷ lines) all = ap (λ (l : Line). is_refused_in id (l ∷ lines)) all.0.1 ∙ refused_adds id ids lines all.1

pub raised_before : (id : ℕ) (xs ys : List Line) → raised_in id ys ≡ None → raised_in id (xs ++ ys) ≡ raised_in id xs
raised_before id [] ys none = none
raised_before id (wrote b c ∷ xs) ys none = raised_before id xs ys none
raised_before id (listening i t c ∷ xs) ys none = raised_before id xs ys none
raised_before id (unlistened i c ∷ xs) ys none = raised_before id xs ys none
raised_before id (document k d w ∷ xs) ys none = raised_before id xs ys none
raised_before id (result b c t ∷ xs) ys none = raised_before id xs ys none
raised_before id (rejected b c t ∷ xs) ys none = raised_before id xs ys none
raised_before id (error i t ∷ xs) ys none = raised_before id xs ys none
raised_before id (add t r ∷ xs) ys none = raised_before id xs ys none
raised_before id (remove t ∷ xs) ys none = raised_before id xs ys none
raised_before id (send r ∷ xs) ys none = raised_before id xs ys none
raised_before id (snapshot c r t ∷ xs) ys none = ap (λ o. if nat_eq t.id id then Some t.raised else o) (raised_before id xs ys none)
