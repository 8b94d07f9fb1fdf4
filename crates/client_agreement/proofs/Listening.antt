-- What is read off a past of listeners and of their targets.
use Rattle.std.proofs.Common.{◌≡◌, ◌∙◌, ◌↔◌, ⊎_elim, inl, inr, ℕ, zero, suc, ◌+◌, ◌<ℤ◌, ℤ, pos, Bool, true, false, ◌&&◌, ◌||◌, nat_eq, nat_lt, List, [], ◌∷◌, ◌++◌, map as each, length, Option, Some, None, if◌then◌else◌, refl, sym, ap, subst, arith}
use Rattle.std.specs.List.{AllZip, Contains, fold, slice_get}
use Rattle.std.proofs.lemmas.Bool.{eqb-false, false≢true, true≢false}
use Rattle.std.proofs.lemmas.Int.{ints}
use Rattle.std.proofs.lemmas.List.{append_assoc}
use Rattle.std.proofs.lemmas.List.Sums.{fold-append}
use Rattle.std.proofs.lemmas.Option.{none-some, same_Some}
use Rattle.client_events.specs.Spelled.{IsSpelledEvent}
use Rattle.client_events.specs.declared.event.Event.{Event}
use Rattle.client_events.specs.declared.event.Event.TheVariants as event
use Rattle.document_keys.specs.Names.{Root}
use Rattle.durable_state.specs.Rows.{blanked, held_at, holding, holding_from, told as told_rows}
use Rattle.listen_protocol.specs.Calls.{Key, Calls, is_remove, lists}
use Rattle.client_turns.proofs.Given.{ended_change}
use Rattle.value_model.specs.declared.message.ListenResponse.TheVariants as message
use Rattle.value_model.specs.declared.message.TargetChange.{TargetChange}
use Rattle.watch_aggregator.specs.Effects.{Gives, GivesTarget, IsEnded, RefusesTarget}
use Rattle.watch_aggregator.specs.declared.effect.Effect.TheVariants as effect
use Rattle.watch_aggregator.specs.declared.effect.WatchFault.TheVariants as fault
use Rattle.watch_aggregator.specs.declared.effect.WatchMember.{WatchMember}
use Rattle.watch_aggregator.specs.declared.effect.WatchMember.TheVariants as member
use Rattle.durable_state.specs.State.{State, committed, most_commits}
use Rattle.mutations.specs.declared.batch.Batch.{Batch}
use Rattle.mutations.specs.declared.results.WriteResponse.{WriteResponse}
use Rattle.outcome_codec.specs.declared.parts.PointRow.{PointRow}
use Rattle.queries.proofs.Whole.{fits_from, name_is_among}
use Rattle.queries.specs.Checked.{IsChecked, IsLimit}
use Rattle.queries.specs.Queried.{IsSameLimit, IsTargetOf}
use Rattle.queries.specs.Rules.{BadCursor, BadLimit}
use Rattle.queries.specs.declared.raw.QueryRule.TheVariants as rule
use Rattle.queries.specs.declared.raw.RawCollection.{RawCollection}
use Rattle.queries.specs.declared.target.Target.{Target}
use Rattle.queries.specs.declared.target.Target.TheVariants.{Document, Collection}
use Rattle.record_codec.specs.declared.commit.Commit.{Commit}
use Rattle.record_codec.specs.declared.commit.Commit.TheVariants.{Acknowledge, Allocate, Drop, Enqueue, Point, Reject, Reset}
use Rattle.target_cache.specs.Cache.{HasTarget, TellsId, blank, id_at}
use Rattle.target_cache.specs.declared.row.Held.{Held}
use Rattle.target_cache.specs.declared.row.Row.{Row}
use Rattle.target_codec.specs.Spelling.{IsSpelledTarget}
use Rattle.value_model.specs.declared.document.RpcStatus.{RpcStatus}
use Rattle.value_model.specs.declared.message.ListenResponse.{ListenResponse}
use Rattle.value_model.specs.declared.message.StreamName.{StreamName}
use Rattle.value_model.specs.declared.message.StreamName.TheVariants as stream
use Rattle.value_model.specs.declared.timestamp.Timestamp.{Timestamp}
use Rattle.views.specs.Viewed.{Viewed}
use Rattle.views.specs.declared.raised.Raised.{Raised}
use Rattle.write_pipeline.specs.Order.{Steps, latest_token}
use Rattle.write_pipeline.specs.Standing.{closing_of}
use Rattle.write_pipeline.specs.declared.answer.Closing.{Closing}
use Rattle.write_pipeline.specs.declared.answer.Closing.TheVariants.{Kept as KeepsAll, Rejects}
use Rattle.client_turns.specs.Answers.{Answers, Begins, are_left, ends, listens}
use Rattle.client_turns.specs.Asking.{AsksIf, resets_by}
use Rattle.client_turns.specs.Hearing.{AreListenersOf, Blanks, HeardTurn, IsHeard, commits_if_left}
use Rattle.client_turns.specs.Hearing as hearing
use Rattle.client_turns.specs.LimboListens.{limbo_of}
use Rattle.client_turns.specs.Lines.{Line, Told, add, document, error, listening, rejected, remove, result, send, snapshot, unlistened, wrote}
use Rattle.client_turns.specs.Order.{AreHeard, now}
use Rattle.client_turns.specs.Past.{Entry, Past, Turn, asked, is_refused_in, listener, raised_in, steps_by, steps_of, told, unless_refused}
use Rattle.client_turns.specs.Settling.{Settles, stance_of, HasTargetRow}
use Rattle.client_turns.specs.Turn.{IsTurn, SettlesAfter, answered_next, batches_behind, is_heard, snapshot_line, with_limbo, with_lines, unless_refused as lines_unless}
use Rattle.client_turns.specs.Turns.{after, commits, refused}
use Rattle.client_turns.specs.Watching.{calls_of, current_keys, is_wanted, is_watched, listened, listened_by, listened_in}
use Rattle.client_turns.specs.Writing as writing
use Rattle.client_turns.specs.Writing.{WrittenTurn, bad_turn, closed_turn, closes, first_batch, is_open, is_stream_open, opened_turn, rejects, request_of, to_send}
use Rattle.client_turns.specs.declared.refusal.Refusal.{Refusal}
use Rattle.client_turns.specs.declared.refusal.Refusal.TheVariants.{IdsSpent, ListenerTaken, NoListener, StreamState}
use Rattle.client_turns.proofs.Current.{unwanted_current}
use Rattle.client_turns.proofs.Lists.{slice_get_more}
use Rattle.client_turns.proofs.Requested.{IsAdd, are_adds, are_listens}
use Rattle.client_turns.proofs.Wanted.{cons_cases, wanted_has}
use Rattle.client_agreement.specs.Standing.{AreSpelled}

-- ---- lines of a kind

-- each of the lines is such
abbrev pub Every : (Line → Type 0) → List Line → Type 0
Every P [] = Unit {0}
Every P (line ∷ lines) = P line × Every P lines

pub every_append : (P : Line → Type 0) (xs ys : List Line) → Every P xs → Every P ys → Every P (xs ++ ys)
every_append P [] ys first second = second
every_append P (x ∷ xs) ys first second = (first.0, every_append P xs ys first.1 second)

pub every_weaker : (P Q : Line → Type 0) → ((line : Line) → P line → Q line) → (lines : List Line) → Every P lines → Every Q lines
every_weaker P Q more [] all = tt
every_weaker P Q more (line ∷ lines) all = (more line all.0, every_weaker P Q more lines all.1)

-- lines of which nothing is read
pub fold_every : {B : Type 0} (P : Line → Type 0) (f : B → Line → B) → ((b : B) (line : Line) → P line → f b line ≡ b) → (lines : List Line) (b : B) → Every P lines → fold f b lines ≡ b
fold_every P f plain [] b all = refl
fold_every P f plain (line ∷ lines) b all = ap (λ x. fold f x lines) (plain b line all.0) ∙ fold_every P f plain lines b all.1

-- a request
abbrev pub IsRequest : Line → Type 0
IsRequest (add t row) = Unit {0}
IsRequest (remove t) = Unit {0}
IsRequest (send request) = Unit {0}
IsRequest _ = ⊥

-- a snapshot, or a request
abbrev pub IsBehind : Line → Type 0
IsBehind (snapshot number read_time told) = Unit {0}
IsBehind (add t row) = Unit {0}
IsBehind (remove t) = Unit {0}
IsBehind (send request) = Unit {0}
IsBehind _ = ⊥

request_behind : (line : Line) → IsRequest line → IsBehind line
request_behind (wrote b c) is = absurd is
request_behind (listening i t c) is = absurd is
request_behind (unlistened i c) is = absurd is
request_behind (document k d w) is = absurd is
request_behind (result b c t) is = absurd is
request_behind (rejected b c t) is = absurd is
request_behind (error i t) is = absurd is
request_behind (snapshot c r t) is = absurd is
request_behind (add t row) is = tt
request_behind (remove t) is = tt
request_behind (send r) is = tt

snapshots_behind : (s : State) (ts : List Told) → Every IsBehind (each (snapshot_line s) ts)
snapshots_behind s [] = tt
snapshots_behind s (t ∷ ts) = (tt, snapshots_behind s ts)

removes_requests : (ids : List ℤ) → Every IsRequest (each remove ids)
removes_requests [] = tt
removes_requests (t ∷ ids) = (tt, removes_requests ids)

adds_requests : (ids : List ℤ) (lines : List Line) → AllZip IsAdd ids lines → Every IsRequest lines
adds_requests [] [] all = tt
adds_requests [] (line ∷ lines) all = absurd all
adds_requests (t ∷ ids) [] all = absurd all
adds_requests (t ∷ ids) (line ∷ lines) all = (subst IsRequest (sym all.0.1) tt, adds_requests ids lines all.1)

sent_requests : (token : List ℕ) (bs : List Batch) → Every IsRequest (each (request_of token) bs)
sent_requests token [] = tt
sent_requests token (b ∷ bs) = (tt, sent_requests token bs)

asked_requests : (s : State) (next : Past) (reset : ℤ → Bool) (b : Bool) (lines : List Line) → AsksIf b s next reset lines → Every IsRequest lines
asked_requests s next reset true lines asks = subst (Every IsRequest) (sym asks.is)
    (every_append IsRequest (each remove asks.removed ++ asks.adds) asks.listen_adds
    (every_append IsRequest (each remove asks.removed) asks.adds (removes_requests asks.removed) (adds_requests asks.added asks.adds (are_adds s asks.added asks.adds asks.rows)))
    (adds_requests asks.listens asks.listen_adds (are_listens (limbo_of next) asks.listens asks.listen_adds asks.keys)))
asked_requests s next reset false lines none = subst (Every IsRequest) (sym none) tt

unless_requests : (refusal : Option Refusal) (lines : List Line) → Every IsRequest lines → Every IsRequest (lines_unless refusal lines)
unless_requests None lines all = all
unless_requests (Some refusal) lines all = tt

-- ---- an event as it was answered

-- The turn of an event is its answer, with the snapshots of listeners over the state after it and then requests behind it, and
-- the documents in limbo.
pub record IsAnswered (root : Root) (s : State) (past : Past) (e : Event) (t : Turn) : Type 0 where
  pub answer : Turn
  pub answers : Answers s past e answer
  pub snapshots : List Told
  pub settles : is_heard answer.refusal ≡ true → Settles root (after s answer.commit) (stance_of (answered_next s past e answer)) (λ id. listener id (answered_next s past e answer)) snapshots
  pub requested : List Line
  pub are_requests : Every IsRequest requested
  pub limbo : List Key
  pub is : t ≡ with_limbo (with_lines answer (each (snapshot_line (after s answer.commit)) snapshots ++ requested)) limbo

pub answered_turn : (root : Root) (s : State) (past : Past) (e : Event) (t : Turn) → IsTurn root s past e t → IsAnswered root s past e t
answered_turn root s past e t it = by (is_heard it.is_settled.answer.refusal) refl it.is_settled.settles
  where
    answer : Turn
    answer = it.is_settled.answer

    steps : Steps
    steps = steps_by e it.settled.refusal (steps_of past)

    more : List Line
    more = it.asked ++ batches_behind s past e it.settled

    are : Every IsRequest more
    are = every_append IsRequest it.asked (batches_behind s past e it.settled)
        (asked_requests (after s it.settled.commit) (answered_next s past e (with_limbo it.settled it.limbo)) (resets_by e it.settled.commit past) (is_heard it.settled.refusal && is_watched (answered_next s past e (with_limbo it.settled it.limbo))) it.asked it.asks)
        (unless_requests it.settled.refusal (writing.requests steps (after s it.settled.commit).batches) (sent_requests (latest_token steps) (to_send steps (after s it.settled.commit).batches)))

    by : (b : Bool) → is_heard answer.refusal ≡ b → SettlesAfter root s past e answer b it.settled → IsAnswered root s past e t
    by true heard settled = record {
      answer = answer;
      answers = it.is_settled.answers;
      snapshots = settled.told;
      settles = λ is. settled.settles;
      requested = more;
      are_requests = are;
      limbo = it.limbo;
      is = it.is ∙ ap (λ (x : Turn). with_lines (with_limbo x it.limbo) more) settled.is
          ∙ ap (λ (ls : List Line). record { refusal = answer.refusal; commit = answer.commit; lines = ls; limbo = it.limbo }) (append_assoc answer.lines (each (snapshot_line (after s answer.commit)) settled.told) more);
    }
    by false unheard same = record {
      answer = answer;
      answers = it.is_settled.answers;
      snapshots = [];
      settles = λ is. absurd (false≢true (sym unheard ∙ is));
      requested = more;
      are_requests = are;
      limbo = it.limbo;
      is = it.is ∙ ap (λ (x : Turn). with_lines (with_limbo x it.limbo) more) same;
    }

-- ---- what is read of the lines behind an answer

pub listened_plain : (id : ℕ) (was : Option ℤ) (line : Line) → IsBehind line → listened_by id was line ≡ was
listened_plain id was (wrote b c) is = absurd is
listened_plain id was (listening i t c) is = absurd is
listened_plain id was (unlistened i c) is = absurd is
listened_plain id was (document k d w) is = absurd is
listened_plain id was (result b c t) is = absurd is
listened_plain id was (rejected b c t) is = absurd is
listened_plain id was (error i t) is = absurd is
listened_plain id was (snapshot c r t) is = refl
listened_plain id was (add t row) is = refl
listened_plain id was (remove t) is = refl
listened_plain id was (send r) is = refl

listened_before : (id : ℕ) (xs ys : List Line) (was : Option ℤ) → Every IsBehind ys → listened_in id (xs ++ ys) was ≡ listened_in id xs was
listened_before id xs ys was behind = fold-append (listened_by id) was xs ys ∙ fold_every IsBehind (listened_by id) (listened_plain id) ys (listened_in id xs was) behind

refused_none : (id : ℕ) (ys : List Line) → Every IsBehind ys → is_refused_in id ys ≡ false
refused_none id [] all = refl
refused_none id (wrote b c ∷ ys) all = absurd all.0
refused_none id (listening i t c ∷ ys) all = absurd all.0
refused_none id (unlistened i c ∷ ys) all = absurd all.0
refused_none id (document k d w ∷ ys) all = absurd all.0
refused_none id (result b c t ∷ ys) all = absurd all.0
refused_none id (rejected b c t ∷ ys) all = absurd all.0
refused_none id (error i t ∷ ys) all = absurd all.0
refused_none id (snapshot c r t ∷ ys) all = refused_none id ys all.1
refused_none id (add t row ∷ ys) all = refused_none id ys all.1
refused_none id (remove t ∷ ys) all = refused_none id ys all.1
refused_none id (send r ∷ ys) all = refused_none id ys all.1

refused_before : (id : ℕ) (xs ys : List Line) → Every IsBehind ys → is_refused_in id (xs ++ ys) ≡ is_refused_in id xs
refused_before id [] ys all = refused_none id ys all
refused_before id (wrote b c ∷ xs) ys all = refused_before id xs ys all
refused_before id (listening i t c ∷ xs) ys all = refused_before id xs ys all
refused_before id (unlistened i c ∷ xs) ys all = refused_before id xs ys all
refused_before id (document k d w ∷ xs) ys all = refused_before id xs ys all
refused_before id (result b c t ∷ xs) ys all = refused_before id xs ys all
refused_before id (rejected b c t ∷ xs) ys all = refused_before id xs ys all
refused_before id (error i t ∷ xs) ys all = ap (λ b. nat_eq i id || b) (refused_before id xs ys all)
refused_before id (snapshot c r t ∷ xs) ys all = refused_before id xs ys all
refused_before id (add t row ∷ xs) ys all = refused_before id xs ys all
refused_before id (remove t ∷ xs) ys all = refused_before id xs ys all
refused_before id (send r ∷ xs) ys all = refused_before id xs ys all

module _ {root : Root} {s : State} {past : Past} {e : Event} {t : Turn} (it : IsAnswered root s past e t) where
  pub answer_lines : t.lines ≡ it.answer.lines ++ (each (snapshot_line (after s it.answer.commit)) it.snapshots ++ it.requested)
  answer_lines = ap (λ (x : Turn). x.lines) it.is

  pub answer_commit : t.commit ≡ it.answer.commit
  answer_commit = ap (λ (x : Turn). x.commit) it.is

  pub answer_refusal : t.refusal ≡ it.answer.refusal
  answer_refusal = ap (λ (x : Turn). x.refusal) it.is

  pub answer_behind : Every IsBehind (each (snapshot_line (after s it.answer.commit)) it.snapshots ++ it.requested)
  answer_behind = every_append IsBehind (each (snapshot_line (after s it.answer.commit)) it.snapshots) it.requested (snapshots_behind (after s it.answer.commit) it.snapshots) (every_weaker IsRequest IsBehind request_behind it.requested it.are_requests)

  pub answer_listened : (id : ℕ) (was : Option ℤ) → listened_in id t.lines was ≡ listened_in id it.answer.lines was
  answer_listened id was = ap (λ (ls : List Line). listened_in id ls was) answer_lines ∙ listened_before id it.answer.lines (each (snapshot_line (after s it.answer.commit)) it.snapshots ++ it.requested) was answer_behind

  pub answer_refused : (id : ℕ) → is_refused_in id t.lines ≡ is_refused_in id it.answer.lines
  answer_refused id = ap (is_refused_in id) answer_lines ∙ refused_before id it.answer.lines (each (snapshot_line (after s it.answer.commit)) it.snapshots ++ it.requested) answer_behind

-- ---- what an answer makes of listeners

-- a line that says nothing of a listener
abbrev pub IsPlain : Line → Type 0
IsPlain (listening id t number) = ⊥
IsPlain (unlistened id number) = ⊥
IsPlain (error id status) = ⊥
IsPlain (snapshot number read_time told) = ⊥
IsPlain _ = Unit {0}

-- A listener begins, on a target that has its row then; or one ends; or the targets of some were refused; or nothing is said of
-- any.
pub data Moves (s : State) (e : Event) (t : Turn) : Type 0 where
  begins : (id : ℕ) (query : Target) (target : ℤ) (number : ℕ) → e ≡ event.Listen id query → HasTarget (after s t.commit).rows query target → t.lines ≡ listening id target number ∷ [] → Moves s e t
  stops : (id number : ℕ) → e ≡ event.Unlisten id → t.lines ≡ unlistened id number ∷ [] → Moves s e t
  refuses : (status : RpcStatus) (listeners : List ℕ) (response : ListenResponse) → e ≡ event.Watch response → t.lines ≡ each (λ l. error l status) listeners → Moves s e t
  passes : ((id : ℕ) (view : Option Viewed) → asked id e view ≡ view) → Every IsPlain t.lines → Moves s e t

-- what isn't heard
unheard : (refusal : Refusal) {P : Type 0} (t : Turn) → is_heard (Some refusal) ≡ false → t ≡ refused refusal → is_heard t.refusal ≡ true → P
unheard refusal t not is heard = absurd (false≢true (sym not ∙ sym (ap (λ (x : Turn). is_heard x.refusal) is) ∙ heard))

plain_as : {t u : Turn} → t ≡ u → Every IsPlain u.lines → Every IsPlain t.lines
plain_as is all = subst (λ (x : Turn). Every IsPlain x.lines) (sym is) all

-- one of two turns
plain_if : (b : Bool) (t u : Turn) → Every IsPlain t.lines → Every IsPlain u.lines → Every IsPlain (if b then t else u).lines
plain_if true t u first second = first
plain_if false t u first second = second

moves_listens : (s : State) (id : ℕ) (query : Target) (found : Option ℤ) (t : Turn) → TellsId s.rows query found → t ≡ listens s id query found → is_heard t.refusal ≡ true → Moves s (event.Listen id query) t
moves_listens s id query (Some target) t tells is heard =
    begins id query target s.number refl (subst (λ (x : Turn). HasTarget (after s x.commit).rows query target) (sym is) ((tells target).1 refl)) (ap (λ (x : Turn). x.lines) is)
moves_listens s id query None t tells is heard = by (are_left s) is
  where
    made : Turn
    made = commits (Allocate (id_at (length s.rows)) query) (listening id (pos (id_at (length s.rows))) (s.number + 1) ∷ [])

    last : (rows : List Row) → slice_get (rows ++ blank query ∷ []) (length rows) ≡ Some (blank query)
    last [] = refl
    last (row ∷ rows) = last rows

    has : HasTarget (committed s (Allocate (id_at (length s.rows)) query)).rows query (pos (id_at (length s.rows)))
    has = record { row = blank query; of_id = record { place = length s.rows; is = refl; there = last s.rows }; same = refl }

    by : (b : Bool) → t ≡ (if b then made else refused IdsSpent) → Moves s (event.Listen id query) t
    by true made_it = begins id query (pos (id_at (length s.rows))) (s.number + 1) refl (subst (λ (x : Turn). HasTarget (after s x.commit).rows query (pos (id_at (length s.rows)))) (sym made_it) has) (ap (λ (x : Turn). x.lines) made_it)
    by false spent = unheard IdsSpent t refl spent heard

moves_begins : (s : State) (id : ℕ) (query : Target) (view : Option Viewed) (t : Turn) → Begins s id query view t → is_heard t.refusal ≡ true → Moves s (event.Listen id query) t
moves_begins s id query (Some view) t is heard = unheard (ListenerTaken id) t refl is heard
moves_begins s id query None t it heard = moves_listens s id query it.0 t it.1 it.2 heard

moves_ends : (s : State) (id : ℕ) (view : Option Viewed) (t : Turn) → t ≡ ends s id view → is_heard t.refusal ≡ true → Moves s (event.Unlisten id) t
moves_ends s id None t is heard = unheard (NoListener id) t refl is heard
moves_ends s id (Some view) t is heard = stops id s.number refl (ap (λ (x : Turn). x.lines) is)

plain_opened : (name : StreamName) (b : Bool) → Every IsPlain (opened_turn name b).lines
plain_opened name true = tt
plain_opened stream.Watch false = tt
plain_opened stream.Write false = (tt, tt)

plain_bad : (name : StreamName) (member : List ℕ) (b : Bool) → Every IsPlain (bad_turn name member b).lines
plain_bad name member true = tt
plain_bad name member false = tt

plain_rejects : (s : State) (status : RpcStatus) (first : Option Batch) → Every IsPlain (rejects s first status).lines
plain_rejects s status None = tt
plain_rejects s status (Some batch) = plain_if (nat_lt s.number most_commits) (commits (Reject batch.id) (rejected batch.id (s.number + 1) status ∷ [])) (refused IdsSpent) (tt, tt) tt

plain_closes : (s : State) (status : RpcStatus) (closing : Closing) → Every IsPlain (closes s status closing).lines
plain_closes s status KeepsAll = tt
plain_closes s status Rejects = plain_rejects s status (first_batch s)

plain_closed : (s : State) (h : Steps) (name : StreamName) (status : RpcStatus) (b : Bool) → Every IsPlain (closed_turn s h name status b).lines
plain_closed s h name status false = tt
plain_closed s h stream.Watch status true = tt
plain_closed s h stream.Write status true = plain_closes s status (closing_of h status.code)

plain_written : (s : State) (h : Steps) (response : WriteResponse) (b : Bool) (t : Turn) → WrittenTurn s h response b t → Every IsPlain t.lines
plain_written s h response true t (writing.shakes fits is) = plain_as is tt
plain_written s h response true t (writing.acknowledges batch time first at fits is) = plain_as is (plain_if (nat_lt s.number most_commits) (commits (Acknowledge batch.id time response.results) (result batch.id (s.number + 1) time ∷ [])) (refused IdsSpent) (tt, tt) tt)
plain_written s h response true t (writing.fails member not is) = plain_as is tt
plain_written s h response false t is = plain_as is tt

-- listeners are told that their targets were refused, with a commit where a number is left for it
moves_left : (s : State) (response : ListenResponse) (commit : Commit) (status : RpcStatus) (listeners : List ℕ) (t : Turn) → t ≡ commits_if_left s commit (each (λ l. error l status) listeners) → Moves s (event.Watch response) t
moves_left s response commit status listeners t is = by (nat_lt s.number most_commits) is
  where
    by : (b : Bool) → t ≡ (if b then commits commit (each (λ l. error l status) listeners) else refused IdsSpent) → Moves s (event.Watch response) t
    by true made = refuses status listeners response refl (ap (λ (x : Turn). x.lines) made)
    by false spent = refuses status [] response refl (ap (λ (x : Turn). x.lines) spent)

moves_blanks : (s : State) (response : ListenResponse) (ids : List ℕ) (status : RpcStatus) (listeners : List ℕ) (t : Turn) → Blanks s ids (each (λ l. error l status) listeners) t → Moves s (event.Watch response) t
moves_blanks s response ids status listeners t (hearing.held any is) = moves_left s response (Reset ids) status listeners t is
moves_blanks s response ids status listeners t (hearing.none_held none is) = refuses status listeners response refl (ap (λ (x : Turn). x.lines) is)

plain_blanks : (s : State) (ids : List ℕ) (t : Turn) → Blanks s ids [] t → Every IsPlain t.lines
plain_blanks s ids t (hearing.held any is) = plain_as is (plain_if (nat_lt s.number most_commits) (commits (Reset ids) []) (refused IdsSpent) tt tt)
plain_blanks s ids t (hearing.none_held none is) = plain_as is tt

moves_heard : (s : State) (past : Past) (response : ListenResponse) (b : Bool) (t : Turn) → HeardTurn s past response b t → Moves s (event.Watch response) t
moves_heard s past response false t is = passes (λ id view. refl) (plain_as is tt)
moves_heard s past response true t (hearing.nothing gives is) = passes (λ id view. refl) (plain_as is tt)
moves_heard s past response true t (hearing.old_point at gives old is) = passes (λ id view. refl) (plain_as is tt)
moves_heard s past response true t (hearing.point at entries rows gives below is_commit is) = passes (λ id view. refl) (plain_as is (plain_if (nat_lt s.number most_commits) (commits (Point at entries rows) []) (refused IdsSpent) tt tt))
moves_heard s past response true t (hearing.point_spent at gives below many is) = passes (λ id view. refl) (plain_as is tt)
moves_heard s past response true t (hearing.mismatch id many count ids gives have blanks) = passes (λ id view. refl) (plain_blanks s ids t blanks)
moves_heard s past response true t (hearing.ended ids status those listeners gives none have are blanks) = moves_blanks s response those status listeners t blanks
moves_heard s past response true t (hearing.dropped ids status keys those listeners gives drops some blank_rows are is) = moves_left s response (Drop keys those) status listeners t is
moves_heard s past response true t (hearing.fails why never is) = passes (λ id view. refl) (plain_as is tt)

pub moves_of : (s : State) (past : Past) (e : Event) (t : Turn) → Answers s past e t → is_heard t.refusal ≡ true → Moves s e t
moves_of s past (event.Write at writes) t is heard = passes (λ id view. refl) (plain_as is (plain_if (nat_lt s.number most_commits) (commits (Enqueue (record { id = s.next_batch; at = at; writes = writes })) (wrote s.next_batch (s.number + 1) ∷ [])) (refused IdsSpent) (tt, tt) tt))
moves_of s past (event.Get key) t is heard = passes (λ id view. refl) (plain_as is (tt, tt))
moves_of s past (event.Listen id query) t it heard = moves_begins s id query (listener id past) t it heard
moves_of s past (event.Unlisten id) t is heard = moves_ends s id (listener id past) t is heard
moves_of s past (event.Opened name) t is heard = passes (λ id view. refl) (plain_as is (plain_opened name (is_stream_open name past)))
moves_of s past (event.Closed name status) t is heard = passes (λ id view. refl) (plain_as is (plain_closed s (steps_of past) name status (is_stream_open name past)))
moves_of s past (event.Written response) t it heard = passes (λ id view. refl) (plain_written s (steps_of past) response (is_open (steps_of past)) t it)
moves_of s past (event.BadMessage name member) t is heard = passes (λ id view. refl) (plain_as is (plain_bad name member (is_stream_open name past)))
moves_of s past (event.Watch response) t it heard = moves_heard s past response (is_watched past) t it
moves_of s past event.Timer t is heard = passes (λ id view. refl) (plain_as is tt)

-- plain lines say nothing
plain_listened : (id : ℕ) (lines : List Line) (was : Option ℤ) → Every IsPlain lines → listened_in id lines was ≡ was
plain_listened id lines was all = fold_every IsPlain (listened_by id) plain lines was all
  where
    plain : (was : Option ℤ) (line : Line) → IsPlain line → listened_by id was line ≡ was
    plain was (wrote b c) is = refl
    plain was (listening i t c) is = absurd is
    plain was (unlistened i c) is = absurd is
    plain was (document k d w) is = refl
    plain was (result b c t) is = refl
    plain was (rejected b c t) is = refl
    plain was (error i t) is = absurd is
    plain was (snapshot c r t) is = absurd is
    plain was (add t row) is = refl
    plain was (remove t) is = refl
    plain was (send r) is = refl

plain_refused : (id : ℕ) (lines : List Line) → Every IsPlain lines → is_refused_in id lines ≡ false
plain_refused id [] all = refl
plain_refused id (wrote b c ∷ lines) all = plain_refused id lines all.1
plain_refused id (listening i t c ∷ lines) all = absurd all.0
plain_refused id (unlistened i c ∷ lines) all = absurd all.0
plain_refused id (document k d w ∷ lines) all = plain_refused id lines all.1
plain_refused id (result b c t ∷ lines) all = plain_refused id lines all.1
plain_refused id (rejected b c t ∷ lines) all = plain_refused id lines all.1
plain_refused id (error i t ∷ lines) all = absurd all.0
plain_refused id (snapshot c r t ∷ lines) all = absurd all.0
plain_refused id (add t row ∷ lines) all = plain_refused id lines all.1
plain_refused id (remove t ∷ lines) all = plain_refused id lines all.1
plain_refused id (send r ∷ lines) all = plain_refused id lines all.1

-- ---- rows keep their targets

still_target : (rows : List Row) (first id place : ℕ) (held : Option Held) (row : Row) → slice_get rows place ≡ Some row → (now_row : Row) × (slice_get (holding_from first id held rows) place ≡ Some now_row) × (now_row.target ≡ row.target)
still_target [] first id place held row there = absurd (none-some row there)
still_target (r ∷ rows) first id zero held row there = (_, refl, by (nat_eq first id) ∙ ap (λ (x : Row). x.target) (same_Some r row there))
  where
    by : (b : Bool) → (if b then record { target = r.target; held = held } else r).target ≡ r.target
    by true = refl
    by false = refl
still_target (r ∷ rows) first id (suc place) held row there = still_target rows (first + 2) id place held row there

target_holding : (rows : List Row) (id : ℕ) (held : Option Held) (query : Target) (t : ℤ) → HasTarget rows query t → HasTarget (holding id held rows) query t
target_holding rows id held query t has =
    let it = still_target rows 2 id has.of_id.place held has.row has.of_id.there in
    record { row = it.0; of_id = record { place = has.of_id.place; is = has.of_id.is; there = it.1 }; same = it.2 ∙ has.same }

target_told : (at : Timestamp) (those : List PointRow) (rows : List Row) (query : Target) (t : ℤ) → HasTarget rows query t → HasTarget (told_rows at those rows) query t
target_told at [] rows query t has = has
target_told at (row ∷ those) rows query t has = target_told at those (holding row.id (Some (held_at at row)) rows) query t (target_holding rows row.id (Some (held_at at row)) query t has)

target_blanked : (ids : List ℕ) (rows : List Row) (query : Target) (t : ℤ) → HasTarget rows query t → HasTarget (blanked ids rows) query t
target_blanked [] rows query t has = has
target_blanked (id ∷ ids) rows query t has = target_blanked ids (holding id None rows) query t (target_holding rows id None query t has)

target_committed : (s : State) (commit : Commit) (query : Target) (t : ℤ) → HasTarget s.rows query t → HasTarget (committed s commit).rows query t
target_committed s (Enqueue batch) query t has = has
target_committed s (Acknowledge id at results) query t has = has
target_committed s (Reject id) query t has = has
target_committed s (Allocate id target) query t has = record { row = has.row; of_id = record { place = has.of_id.place; is = has.of_id.is; there = slice_get_more s.rows (blank target) has.row has.of_id.place has.of_id.there }; same = has.same }
target_committed s (Point at entries those) query t has = target_told at those s.rows query t has
target_committed s (Reset ids) query t has = target_blanked ids s.rows query t has
target_committed s (Drop keys ids) query t has = target_blanked ids s.rows query t has

-- a row of a target stays, whatever is committed
pub target_after : (s : State) (commit : Option Commit) (query : Target) (t : ℤ) → HasTarget s.rows query t → HasTarget (after s commit).rows query t
target_after s None query t has = has
target_after s (Some commit) query t has = target_committed s commit query t has

pub row_after : (s : State) (commit : Option Commit) (t : ℤ) → HasTargetRow s.rows t → HasTargetRow (after s commit).rows t
row_after s commit t has = let it = target_after s commit has.0.target t (record { row = has.0; of_id = has.1; same = refl }) in (it.row, it.of_id)

-- ---- each listener has a target, which has a row with what it asks for

-- the target of a listener has a row, and who is a listener has a target with what it asks for
record IsLinked (rows : List Row) (view : Option Viewed) (link : Option ℤ) : Type 0 where
  row : (t : ℤ) → link ≡ Some t → HasTargetRow rows t
  target : (v : Viewed) → view ≡ Some v → (t : ℤ) × (link ≡ Some t) × HasTarget rows v.target t

linked_after : (s : State) (commit : Option Commit) (view : Option Viewed) (link : Option ℤ) → IsLinked s.rows view link → IsLinked (after s commit).rows view link
linked_after s commit view link it = record {
  row = λ t is. row_after s commit t (it.row t is);
  target = λ v is. let has = it.target v is in (has.0, has.1, target_after s commit v.target has.0 has.2);
}

-- no listener, whose target had a row, if there was one
linked_ended : (rows : List Row) (view : Option Viewed) (link : Option ℤ) → IsLinked rows view link → IsLinked rows None link
linked_ended rows view link it = record { row = it.row; target = λ v is. absurd (none-some v is) }

linked_none : (rows : List Row) → IsLinked rows None None
linked_none rows = record { row = λ t is. absurd (none-some t is); target = λ v is. absurd (none-some v is) }

linked_told : (rows : List Row) (raised : Option Raised) (view : Option Viewed) (link : Option ℤ) → IsLinked rows view link → IsLinked rows (told raised view) link
linked_told rows None view link it = it
linked_told rows (Some raised) None link it = it
linked_told rows (Some raised) (Some view) link it = record {
  row = it.row;
  target = λ v is.
      let has = it.target view refl in
      let same : view.target ≡ v.target = ap (λ (x : Viewed). x.target) (same_Some (record { target = view.target; raised = Some raised }) v is) in
      (has.0, has.1, subst (λ (q : Target). HasTarget rows q has.0) same has.2);
}

linked_begins : (rows : List Row) (view : Option Viewed) (link : Option ℤ) (query : Target) (t : ℤ) (b : Bool) → HasTarget rows query t → IsLinked rows view link → IsLinked rows (if b then Some (record { target = query; raised = None }) else view) (if b then Some t else link)
linked_begins rows view link query t true has it = record {
  row = λ x is. subst (HasTargetRow rows) (same_Some t x is) (has.row, has.of_id);
  target = λ v is. (t, refl, subst (λ (q : Target). HasTarget rows q t) (ap (λ (x : Viewed). x.target) (same_Some (record { target = query; raised = None }) v is)) has);
}
linked_begins rows view link query t false has it = it

linked_stops : (rows : List Row) (view : Option Viewed) (link : Option ℤ) (b : Bool) → IsLinked rows view link → IsLinked rows (if b then None else view) (if b then None else link)
linked_stops rows view link true it = linked_none rows
linked_stops rows view link false it = it

linked_refuses : (rows : List Row) (status : RpcStatus) (id : ℕ) (listeners : List ℕ) (view : Option Viewed) (link : Option ℤ) → IsLinked rows view link
    → IsLinked rows (unless_refused (is_refused_in id (each (λ l. error l status) listeners)) view) (listened_in id (each (λ l. error l status) listeners) link)
linked_refuses rows status id [] view link it = it
linked_refuses rows status id (l ∷ listeners) view link it = by (linked_refuses rows status id listeners None None (linked_none rows)) (linked_refuses rows status id listeners view link it) (nat_eq l id)
  where
    rest : List Line
    rest = each (λ x. error x status) listeners

    by : IsLinked rows (unless_refused (is_refused_in id rest) None) (listened_in id rest None) → IsLinked rows (unless_refused (is_refused_in id rest) view) (listened_in id rest link)
        → (b : Bool) → IsLinked rows (unless_refused (b || is_refused_in id rest) view) (listened_in id rest (if b then None else link))
    by none some true = linked_ended rows (unless_refused (is_refused_in id rest) None) (listened_in id rest None) none
    by none some false = some

linked_moves : (s : State) (e : Event) (t : Turn) (id : ℕ) (view : Option Viewed) (link : Option ℤ) → Moves s e t → IsLinked s.rows view link → IsLinked (after s t.commit).rows (unless_refused (is_refused_in id t.lines) (asked id e view)) (listened_in id t.lines link)
linked_moves s e t id view link (begins other query target number is has lines) it =
    subst (λ (ls : List Line). IsLinked (after s t.commit).rows (unless_refused (is_refused_in id ls) (asked id e view)) (listened_in id ls link)) (sym lines)
    (subst (λ (x : Event). IsLinked (after s t.commit).rows (asked id x view) (if nat_eq other id then Some target else link)) (sym is)
    (linked_begins (after s t.commit).rows view link query target (nat_eq other id) has (linked_after s t.commit view link it)))
linked_moves s e t id view link (stops other number is lines) it =
    subst (λ (ls : List Line). IsLinked (after s t.commit).rows (unless_refused (is_refused_in id ls) (asked id e view)) (listened_in id ls link)) (sym lines)
    (subst (λ (x : Event). IsLinked (after s t.commit).rows (asked id x view) (if nat_eq other id then None else link)) (sym is)
    (linked_stops (after s t.commit).rows view link (nat_eq other id) (linked_after s t.commit view link it)))
linked_moves s e t id view link (refuses status listeners response is lines) it =
    subst (λ (ls : List Line). IsLinked (after s t.commit).rows (unless_refused (is_refused_in id ls) (asked id e view)) (listened_in id ls link)) (sym lines)
    (subst (λ (x : Event). IsLinked (after s t.commit).rows (unless_refused (is_refused_in id (each (λ l. error l status) listeners)) (asked id x view)) (listened_in id (each (λ l. error l status) listeners) link)) (sym is)
    (linked_refuses (after s t.commit).rows status id listeners view link (linked_after s t.commit view link it)))
linked_moves s e t id view link (passes still plain) it =
    subst (λ (b : Bool). IsLinked (after s t.commit).rows (unless_refused b (asked id e view)) (listened_in id t.lines link)) (sym (plain_refused id t.lines plain))
    (subst (IsLinked (after s t.commit).rows (asked id e view)) (sym (plain_listened id t.lines link plain))
    (subst (λ (v : Option Viewed). IsLinked (after s t.commit).rows v link) (sym (still id view)) (linked_after s t.commit view link it)))

linked_next : (root : Root) (e : Entry) (past : Past) (id : ℕ) → IsAnswered root e.state past e.event e.turn → is_heard e.turn.refusal ≡ true → IsLinked e.state.rows (listener id past) (listened id past)
    → IsLinked (after e.state e.turn.commit).rows (listener id (e ∷ past)) (listened id (e ∷ past))
linked_next root e past id a heard it =
    subst (λ (c : Option Commit). IsLinked (after e.state c).rows (listener id (e ∷ past)) (listened id (e ∷ past))) (sym (answer_commit a))
    (subst (IsLinked (after e.state a.answer.commit).rows (listener id (e ∷ past))) (sym (answer_listened a id (listened id past)))
    (linked_told (after e.state a.answer.commit).rows (raised_in id e.turn.lines) (unless_refused (is_refused_in id e.turn.lines) (asked id e.event (listener id past))) (listened_in id a.answer.lines (listened id past))
    (subst (λ (b : Bool). IsLinked (after e.state a.answer.commit).rows (unless_refused b (asked id e.event (listener id past))) (listened_in id a.answer.lines (listened id past))) (sym (answer_refused a id))
    (linked_moves e.state e.event a.answer id (listener id past) (listened id past) (moves_of e.state past e.event a.answer a.answers (sym (ap is_heard (answer_refusal a)) ∙ heard)) it))))

linked_at : (root : Root) (first : State) (past : Past) → AreHeard root first past → (id : ℕ) → IsLinked (now first past).rows (listener id past) (listened id past)
linked_at root first [] heard id = linked_none first.rows
linked_at root first (e ∷ past) heard id =
    linked_next root e past id (answered_turn root e.state past e.event e.turn heard.1.turn) heard.1.heard
    (subst (λ (s : State). IsLinked s.rows (listener id past) (listened id past)) (sym heard.1.state) (linked_at root first past heard.0 id))

-- the target of a listener has a row
pub listened_row : (root : Root) (first : State) (past : Past) → AreHeard root first past → (id : ℕ) (t : ℤ) → listened id past ≡ Some t → HasTargetRow (now first past).rows t
listened_row root first past heard id t is = (linked_at root first past heard id).row t is

-- so does one that is wanted
pub wanted_row : (root : Root) (first : State) (past : Past) → AreHeard root first past → (t : ℤ) → is_wanted t past ≡ true → HasTargetRow (now first past).rows t
wanted_row root first past heard t is = let it = wanted_has t past is in listened_row root first past heard it.0 t it.1

-- and one that is current
pub current_row : (root : Root) (first : State) (past : Past) → AreHeard root first past → (t : ℤ) (keys : List Key) → current_keys t past ≡ Some keys → HasTargetRow (now first past).rows t
current_row root first past heard t keys is = wanted_row root first past heard t (by (is_wanted t past) refl)
  where
    by : (b : Bool) → is_wanted t past ≡ b → b ≡ true
    by true wanted = refl
    by false unwanted = absurd (none-some keys (sym (unwanted_current t past unwanted) ∙ is))

-- ---- what a listener asks for was checked

limit_of : (limit : Option ℤ) (own : Option ℕ) → IsSameLimit limit own → (BadLimit limit → ⊥) → IsLimit own
limit_of None None same sound = tt
limit_of None (Some n) same sound = absurd (none-some n (sym same))
limit_of (Some z) None same sound = absurd same
limit_of (Some z) (Some zero) same sound = absurd (sound (subst (λ (x : ℤ). x <ℤ pos 1) (sym same) (omega (arith, ints))))
limit_of (Some z) (Some (suc n)) same sound = omega arith

-- a target that has a spelling was checked
pub spelled_checked : (query : Target) → IsSpelledTarget query → IsChecked query
spelled_checked (Document key) spelled = tt
spelled_checked (Collection query) spelled = record {
  start = fits_from query.orders query.start_at (λ bad. own.sound rule.Cursors (record { orders = query.orders; whole = own.orders; bad = inl (subst (BadCursor query.orders) own.start_at bad) }));
  stop = fits_from query.orders query.end_at (λ bad. own.sound rule.Cursors (record { orders = query.orders; whole = own.orders; bad = inr (subst (BadCursor query.orders) own.end_at bad) }));
  named = name_is_among raw.orders raw.filter query.orders own.orders;
  limit = limit_of raw.limit query.limit own.limit (λ bad. own.sound rule.Limit bad);
}
  where
    raw : RawCollection
    raw = spelled.checked.0

    own : IsTargetOf raw query
    own = spelled.checked.1

-- what a listener asks for, if there is one, was checked
abbrev AreChecked : Option Viewed → Type 0
AreChecked view = (v : Viewed) → view ≡ Some v → IsChecked v.target

checked_if : (b : Bool) (here other : Option Viewed) → AreChecked here → AreChecked other → AreChecked (if b then here else other)
checked_if true here other first second = first
checked_if false here other first second = second

no_view : AreChecked None
no_view v is = absurd (none-some v is)

checked_asked : (id : ℕ) (e : Event) (view : Option Viewed) → IsSpelledEvent e → AreChecked view → AreChecked (asked id e view)
checked_asked id (event.Listen other query) view spelled it =
    checked_if (nat_eq other id) (Some (record { target = query; raised = None })) view
    (λ v is. subst IsChecked (ap (λ (x : Viewed). x.target) (same_Some (record { target = query; raised = None }) v is)) (spelled_checked query spelled.target)) it
checked_asked id (event.Unlisten other) view spelled it = checked_if (nat_eq other id) None view no_view it
checked_asked id (event.Write at writes) view spelled it = it
checked_asked id (event.Get key) view spelled it = it
checked_asked id (event.Opened name) view spelled it = it
checked_asked id (event.Closed name status) view spelled it = it
checked_asked id (event.Written response) view spelled it = it
checked_asked id (event.BadMessage name member) view spelled it = it
checked_asked id (event.Watch response) view spelled it = it
checked_asked id event.Timer view spelled it = it

checked_unless : (b : Bool) (view : Option Viewed) → AreChecked view → AreChecked (unless_refused b view)
checked_unless true view it = no_view
checked_unless false view it = it

checked_told : (raised : Option Raised) (view : Option Viewed) → AreChecked view → AreChecked (told raised view)
checked_told None view it = it
checked_told (Some raised) None it = no_view
checked_told (Some raised) (Some view) it = λ v is. subst IsChecked (ap (λ (x : Viewed). x.target) (same_Some (record { target = view.target; raised = Some raised }) v is)) (it view refl)

pub listener_checked : (past : Past) → AreSpelled past → (id : ℕ) (view : Viewed) → listener id past ≡ Some view → IsChecked view.target
listener_checked [] spelled id = no_view
listener_checked (e ∷ past) spelled id =
    checked_told (raised_in id e.turn.lines) (unless_refused (is_refused_in id e.turn.lines) (asked id e.event (listener id past)))
    (checked_unless (is_refused_in id e.turn.lines) (asked id e.event (listener id past)) (checked_asked id e.event (listener id past) spelled.0 (listener_checked past spelled.1 id)))

-- who is a listener has a target, whose row has what the listener asks for, and that was checked
pub listener_row : (root : Root) (first : State) (past : Past) → AreHeard root first past → AreSpelled past → (id : ℕ) (view : Viewed) → listener id past ≡ Some view
    → (t : ℤ) × (listened id past ≡ Some t) × HasTarget (now first past).rows view.target t × IsChecked view.target
listener_row root first past heard spelled id view is =
    let it = (linked_at root first past heard id).target view is in
    (it.0, it.1, it.2, listener_checked past spelled id view is)

-- ---- targets that the backend ended

-- who has a target still behind errors had it before, and isn't told an error
errors_left : (status : RpcStatus) (id : ℕ) (listeners : List ℕ) (was : Option ℤ) (t : ℤ) → listened_in id (each (λ l. error l status) listeners) was ≡ Some t → (was ≡ Some t) × (Contains listeners id → ⊥)
errors_left status id [] was t is = (is, λ there. absurd (omega (arith, there.1)))
errors_left status id (l ∷ listeners) was t is = by (errors_left status id listeners None t) (errors_left status id listeners was t) (nat_eq l id) refl is
  where
    by : (listened_in id (each (λ x. error x status) listeners) None ≡ Some t → (None ≡ Some t) × (Contains listeners id → ⊥)) → (listened_in id (each (λ x. error x status) listeners) was ≡ Some t → (was ≡ Some t) × (Contains listeners id → ⊥))
        → (b : Bool) → nat_eq l id ≡ b → listened_in id (each (λ x. error x status) listeners) (if b then None else was) ≡ Some t → (was ≡ Some t) × (Contains (l ∷ listeners) id → ⊥)
    by none some true same now_is = absurd (none-some t (none now_is).0)
    by none some false other now_is =
        let it = some now_is in
        (it.0, λ there. ⊎_elim (λ here. eqb-false l id other here) it.1 (cons_cases l id listeners there))

-- Where listeners of targets are told errors, these targets have no listener behind it.
pub ended_by : (past : Past) (e : Entry) (ids : List ℤ) (status : RpcStatus) (listeners : List ℕ) (more : List Line) → AreListenersOf past ids listeners → e.turn.lines ≡ each (λ l. error l status) listeners ++ more → Every IsBehind more
    → (t : ℤ) → Contains ids t → is_wanted t (e ∷ past) ≡ false
ended_by past e ids status listeners more are lines behind t among = by (is_wanted t (e ∷ past)) refl
  where
    by : (b : Bool) → is_wanted t (e ∷ past) ≡ b → b ≡ false
    by false unwanted = refl
    by true wanted =
        let it = wanted_has t (e ∷ past) wanted in
        let still = errors_left status it.0 listeners (listened it.0 past) t (sym (ap (λ (ls : List Line). listened_in it.0 ls (listened it.0 past)) lines ∙ listened_before it.0 (each (λ l. error l status) listeners) more (listened it.0 past) behind) ∙ it.1) in
        absurd (still.1 ((are.each it.0).1 (t, among, still.0)))

-- so it is where the answer of an event is these errors
pub ended_unwanted : (root : Root) (past : Past) (e : Entry) (a : IsAnswered root e.state past e.event e.turn) (ids : List ℤ) (status : RpcStatus) (listeners : List ℕ) → AreListenersOf past ids listeners → a.answer.lines ≡ each (λ l. error l status) listeners
    → (t : ℤ) → Contains ids t → is_wanted t (e ∷ past) ≡ false
ended_unwanted root past e a ids status listeners are lines =
    ended_by past e ids status listeners (each (snapshot_line (after e.state a.answer.commit)) a.snapshots ++ a.requested) are
    (answer_lines a ∙ ap (λ (ls : List Line). ls ++ (each (snapshot_line (after e.state a.answer.commit)) a.snapshots ++ a.requested)) lines) (answer_behind a)

-- ---- a REMOVE

-- what a REMOVE ends
ends_of : (h : Calls) (change : TargetChange) (ids : List ℤ) (status : RpcStatus) → GivesTarget h change (effect.Ended ids status)
    → (is_remove change.kind ≡ true) × (change.cause ≡ Some status) × ((t : ℤ) → Contains ids t ↔ IsEnded h change.target_ids t) × ((t : ℤ) × Contains ids t)
ends_of h change ids status (inl it) = (it.0, it.1.0, it.1.2, it.1.3)
ends_of h change ids status (inr it) = absurd it.1

-- it is no other message
never_nothing : (h : Calls) (change : TargetChange) (ids : List ℤ) (status : RpcStatus) → GivesTarget h change (effect.Ended ids status) → GivesTarget h change effect.Nothing → ⊥
never_nothing h change ids status ended (inl it) = let e = ends_of h change ids status ended in it.1.1 e.3.0 ((e.2 e.3.0).0 e.3.1)
never_nothing h change ids status ended (inr it) = true≢false (sym (ends_of h change ids status ended).0 ∙ it.0)

never_point : (h : Calls) (change : TargetChange) (ids : List ℤ) (status : RpcStatus) (at : Timestamp) → GivesTarget h change (effect.Ended ids status) → GivesTarget h change (effect.Point at) → ⊥
never_point h change ids status at ended (inl it) = it.1
never_point h change ids status at ended (inr it) = true≢false (sym (ends_of h change ids status ended).0 ∙ it.0)

never_mismatch : (h : Calls) (change : TargetChange) (id : ℤ) (many count : ℕ) → GivesTarget h change (effect.Mismatch id many count) → ⊥
never_mismatch h change id many count (inl it) = it.1
never_mismatch h change id many count (inr it) = it.1

never_bad : (h : Calls) (change : TargetChange) (ids : List ℤ) (status : RpcStatus) (why : WatchMember) → GivesTarget h change (effect.Ended ids status) → RefusesTarget h change (fault.BadMessage why) → ⊥
never_bad h change ids status member.TargetIds ended it =
    let e = ends_of h change ids status ended in
    false≢true (ap (λ (l : List ℤ). lists l e.3.0) (sym it.1) ∙ ((e.2 e.3.0).0 e.3.1).listed)
never_bad h change ids status member.Cause ended it = none-some status (sym it.1 ∙ (ends_of h change ids status ended).1)

-- Listeners are told errors, and these are all that have one of the targets.
pub record EndsListeners (past : Past) (ids : List ℤ) (t : Turn) : Type 0 where
  pub others : List ℤ
  pub among : (x : ℤ) → Contains ids x → Contains others x
  pub status : RpcStatus
  pub listeners : List ℕ
  pub are : AreListenersOf past others listeners
  pub lines : t.lines ≡ each (λ l. error l status) listeners

left_lines : (s : State) (commit : Commit) (lines : List Line) (t : Turn) → t ≡ commits_if_left s commit lines → is_heard t.refusal ≡ true → t.lines ≡ lines
left_lines s commit lines t is heard = by (nat_lt s.number most_commits) is
  where
    by : (b : Bool) → t ≡ (if b then commits commit lines else refused IdsSpent) → t.lines ≡ lines
    by true made = ap (λ (x : Turn). x.lines) made
    by false spent = unheard IdsSpent t refl spent heard

blank_lines : (s : State) (ids : List ℕ) (lines : List Line) (t : Turn) → Blanks s ids lines t → is_heard t.refusal ≡ true → t.lines ≡ lines
blank_lines s ids lines t (hearing.held any is) heard = left_lines s (Reset ids) lines t is heard
blank_lines s ids lines t (hearing.none_held never is) heard = ap (λ (x : Turn). x.lines) is

module _ (s : State) (past : Past) (change : TargetChange) (t : Turn) (heard : is_heard t.refusal ≡ true) (ids : List ℤ) (status : RpcStatus) (gives : GivesTarget (calls_of past) change (effect.Ended ids status)) where
  ends_same : (others : List ℤ) (other : RpcStatus) → GivesTarget (calls_of past) change (effect.Ended others other) → (x : ℤ) → Contains ids x → Contains others x
  ends_same others other given x there = ((ends_of (calls_of past) change others other given).2 x).1 (((ends_of (calls_of past) change ids status gives).2 x).0 there)

  ends_heard : IsHeard s past (message.Target change) t → EndsListeners past ids t
  ends_heard (hearing.nothing given is) = absurd (never_nothing (calls_of past) change ids status gives given)
  ends_heard (hearing.old_point at given old is) = absurd (never_point (calls_of past) change ids status at gives given)
  ends_heard (hearing.point at entries rows given below is_commit is) = absurd (never_point (calls_of past) change ids status at gives given)
  ends_heard (hearing.point_spent at given below many is) = absurd (never_point (calls_of past) change ids status at gives given)
  ends_heard (hearing.mismatch id many count those given have blanks) = absurd (never_mismatch (calls_of past) change id many count given)
  ends_heard (hearing.ended others other those listeners given none have are blanks) = record {
    others = others;
    among = ends_same others other given;
    status = other;
    listeners = listeners;
    are = are;
    lines = blank_lines s those (each (λ l. error l other) listeners) t blanks heard;
  }
  ends_heard (hearing.dropped others other keys those listeners given drops some blank_rows are is) = record {
    others = others;
    among = ends_same others other given;
    status = other;
    listeners = listeners;
    are = are;
    lines = left_lines s (Drop keys those) (each (λ l. error l other) listeners) t is heard;
  }
  ends_heard (hearing.fails why never is) = absurd (never_bad (calls_of past) change ids status why gives never)

  ends_turn : (b : Bool) → HeardTurn s past (message.Target change) b t → EndsListeners past ids t
  ends_turn true it = ends_heard it
  ends_turn false is = unheard (StreamState stream.Watch false) t refl is heard

-- the answer to a message by which targets end
pub ends_listeners : (s : State) (past : Past) (e : Event) (t : Turn) → Answers s past e t → is_heard t.refusal ≡ true → (response : ListenResponse) → e ≡ event.Watch response → (ids : List ℤ) (status : RpcStatus) → Gives (calls_of past) response (effect.Ended ids status) → EndsListeners past ids t
ends_listeners s past e t answers heard response is ids status gives =
    let it = ended_change (calls_of past) response ids status gives in
    ends_turn s past it.0 t heard ids status (subst (λ (r : ListenResponse). Gives (calls_of past) r (effect.Ended ids status)) it.1 gives) (is_watched past)
    (subst (λ (x : Event). Answers s past x t) (is ∙ ap event.Watch it.1) answers)
