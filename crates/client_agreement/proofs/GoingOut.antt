-- what goes out behind an event, as allowed turns
use Rattle.std.proofs.Common.{◌≡◌, ◌⊎◌, ⊎_elim, inl, inr, ℤ, Bool, true, false, not, ◌&&◌, ◌||◌, List, [], ◌∷◌, ◌++◌, map as each, Option, Some, None, if◌then◌else◌, refl, sym, ap, subst, ◌∙◌, arith}
use Rattle.std.proofs.lemmas.Bool.{false≢true, true≢false}
use Rattle.std.proofs.lemmas.List.Sums.{fold-append}
use Rattle.std.specs.Prelude.{option_map, option_and_then}
use Rattle.std.specs.List.{AllZip, Contains, fold, list_any}
use Rattle.std.specs.Ordering.{int_eq}
use Rattle.agreement.proofs.Counting.{same_id-refl, same_id-true}
use Rattle.agreement.specs.Backend.{Id, Key, Setting, tick_of}
use Rattle.agreement.specs.Client.{Client, Leaves, Unasks, after as after_turn}
use Rattle.agreement.specs.MessageTurns.{has}
use Rattle.agreement.specs.Streams.{message_of}
use Rattle.agreement.specs.Transcript.{Event, Heard, Unasked, is_asked}
use Rattle.document_keys.specs.Names.{Root}
use Rattle.limbo_resolver.specs.Limbo.{updated}
use Rattle.listen_protocol.specs.Buffer.{buffered}
use Rattle.listen_protocol.specs.Calls.{Calls, came}
use Rattle.listen_protocol.specs.Transcript.{is_asked_in}
use Rattle.durable_state.specs.State.{State}
use Rattle.record_codec.specs.declared.commit.Commit.{Commit}
use Rattle.target_cache.specs.Cache.{IsRow}
use Rattle.target_cache.specs.declared.row.Row.{Row}
use Rattle.client_turns.proofs.Requested.{IsAdd, are_adds, are_listens}
use Rattle.client_turns.proofs.Wanted.{cons_cases, first_among, later_among, same_truth}
use Rattle.client_turns.specs.Asking.{Asks, AsksIf, IsAddLine, resets_by}
use Rattle.client_turns.specs.LimboListens.{going_on, limbo_of}
use Rattle.client_turns.specs.Lines.{Line, add, document, error, listening, rejected, remove, result, send, snapshot, unlistened, wrote}
use Rattle.client_turns.specs.Past.{Entry, Past}
use Rattle.client_turns.specs.Settling.{HasTargetRow}
use Rattle.client_turns.specs.Turn.{answered_next}
use Rattle.client_turns.specs.Turns.{after}
use Rattle.client_turns.specs.Watching.{WatchStep, calls_by, calls_of, closes, current_keys, hears, if_so, is_offline, is_point, is_wanted, is_watched, online_of, opens, passed, passes, requested_by, requested_in, rings, step_by, step_of, told_by}
use Rattle.client_agreement.proofs.Odd.{odd_unlistened, running_odd}
use Rattle.client_agreement.proofs.Parts.{AreNoRequests, Parts}
use Rattle.client_agreement.proofs.Reaching.{HasRowsOf, IsFree, OnlyAsks, Reaches, adds_reach, listens_reach, reach_none, reach_one, reach_then}
use Rattle.client_agreement.specs.Durable.{entry_at, is_listener, row_of, tuple_at, tuple_in}
use Rattle.client_agreement.specs.Laws.{Goes}
use Rattle.client_agreement.specs.Standing.{StandsAs, seen_entry}
use Rattle.client_agreement.specs.Transcript.{asked_by, asked_in, came_by, is_removed_in, removes, transcript}

-- ---- lines that are no requests

pub asked_plain : (lines : List Line) (x : List Event) → AreNoRequests lines → asked_in lines x ≡ x
asked_plain [] x none = refl
asked_plain (wrote b c ∷ lines) x none = asked_plain lines x none.1
asked_plain (listening i t c ∷ lines) x none = asked_plain lines x none.1
asked_plain (unlistened i c ∷ lines) x none = asked_plain lines x none.1
asked_plain (document k d w ∷ lines) x none = asked_plain lines x none.1
asked_plain (result b c t ∷ lines) x none = asked_plain lines x none.1
asked_plain (rejected b c t ∷ lines) x none = asked_plain lines x none.1
asked_plain (error i t ∷ lines) x none = asked_plain lines x none.1
asked_plain (snapshot c r t ∷ lines) x none = asked_plain lines x none.1
asked_plain (add t r ∷ lines) x none = absurd none.0
asked_plain (remove t ∷ lines) x none = absurd none.0
asked_plain (send r ∷ lines) x none = asked_plain lines x none.1

pub requested_plain : (lines : List Line) (h : Calls) → AreNoRequests lines → requested_in lines h ≡ h
requested_plain [] h none = refl
requested_plain (wrote b c ∷ lines) h none = requested_plain lines h none.1
requested_plain (listening i t c ∷ lines) h none = requested_plain lines h none.1
requested_plain (unlistened i c ∷ lines) h none = requested_plain lines h none.1
requested_plain (document k d w ∷ lines) h none = requested_plain lines h none.1
requested_plain (result b c t ∷ lines) h none = requested_plain lines h none.1
requested_plain (rejected b c t ∷ lines) h none = requested_plain lines h none.1
requested_plain (error i t ∷ lines) h none = requested_plain lines h none.1
requested_plain (snapshot c r t ∷ lines) h none = requested_plain lines h none.1
requested_plain (add t r ∷ lines) h none = absurd none.0
requested_plain (remove t ∷ lines) h none = absurd none.0
requested_plain (send r ∷ lines) h none = requested_plain lines h none.1

pub removed_plain : (lines : List Line) (t : Id) → AreNoRequests lines → is_removed_in lines t ≡ false
removed_plain [] t none = refl
removed_plain (wrote b c ∷ lines) t none = removed_plain lines t none.1
removed_plain (listening i x c ∷ lines) t none = removed_plain lines t none.1
removed_plain (unlistened i c ∷ lines) t none = removed_plain lines t none.1
removed_plain (document k d w ∷ lines) t none = removed_plain lines t none.1
removed_plain (result b c x ∷ lines) t none = removed_plain lines t none.1
removed_plain (rejected b c x ∷ lines) t none = removed_plain lines t none.1
removed_plain (error i x ∷ lines) t none = removed_plain lines t none.1
removed_plain (snapshot c r x ∷ lines) t none = removed_plain lines t none.1
removed_plain (add x r ∷ lines) t none = absurd none.0
removed_plain (remove x ∷ lines) t none = absurd none.0
removed_plain (send r ∷ lines) t none = removed_plain lines t none.1

-- ---- remove requests

any_append : {X : Type 0} (p : X → Bool) (xs ys : List X) → list_any p (xs ++ ys) ≡ (list_any p xs || list_any p ys)
any_append p [] ys = refl
any_append p (x ∷ xs) ys = ap (λ (b : Bool). p x || b) (any_append p xs ys) ∙ or_three (p x) (list_any p xs) (list_any p ys)
  where
    or_three : (a b c : Bool) → (a || (b || c)) ≡ ((a || b) || c)
    or_three true b c = refl
    or_three false b c = refl

or_none : (b : Bool) → (b || false) ≡ b
or_none true = refl
or_none false = refl

pub asked_removes : (ids : List ℤ) (x : List Event) → asked_in (each remove ids) x ≡ x
asked_removes [] x = refl
asked_removes (id ∷ ids) x = asked_removes ids x

removed_has : (ids : List ℤ) (t : Id) → is_removed_in (each remove ids) t ≡ true → Contains ids t
removed_has [] t here = absurd (false≢true here)
removed_has (id ∷ ids) t here = by (removed_has ids t) (int_eq id t) refl here
  where
    by : (is_removed_in (each remove ids) t ≡ true → Contains ids t) → (b : Bool) → int_eq id t ≡ b → (b || is_removed_in (each remove ids) t) ≡ true → Contains (id ∷ ids) t
    by rest true is here = subst (λ (x : ℤ). Contains (id ∷ ids) x) (same_id-true id t is) (first_among id ids)
    by rest false is here = later_among id t ids (rest here)

has_removed : (ids : List ℤ) (t : Id) → Contains ids t → is_removed_in (each remove ids) t ≡ true
has_removed [] t here = let short = here.1 in absurd (omega arith)
has_removed (id ∷ ids) t here = ⊎_elim
    (λ same. ap (λ (b : Bool). b || is_removed_in (each remove ids) t) (ap (λ (x : ℤ). int_eq id x) (sym same) ∙ same_id-refl id))
    (λ later. by (int_eq id t) (has_removed ids t later))
    (cons_cases id t ids here)
  where
    by : (b : Bool) → is_removed_in (each remove ids) t ≡ true → (b || is_removed_in (each remove ids) t) ≡ true
    by true is = refl
    by false is = is

removed_adds : (ids : List ℤ) (lines : List Line) (t : Id) → AllZip IsAdd ids lines → is_removed_in lines t ≡ false
removed_adds [] [] t all = refl
removed_adds [] (line ∷ lines) t all = absurd all
removed_adds (id ∷ ids) [] t all = absurd all
removed_adds (id ∷ ids) (line ∷ lines) t all = ap (λ (l : Line). removes t l || is_removed_in lines t) all.0.1 ∙ removed_adds ids lines t all.1

-- ---- the lines of requests

pub fold_asks : {B : Type 0} (f : B → Line → B) (removed : List ℤ) (adds listen_adds : List Line) (b : B)
    → fold f b (each remove removed ++ adds ++ listen_adds) ≡ fold f (fold f (fold f b (each remove removed)) adds) listen_adds
fold_asks f removed adds listen_adds b = fold-append f b (each remove removed ++ adds) listen_adds ∙ ap (λ y. fold f y listen_adds) (fold-append f b (each remove removed) adds)

removed_asks : (removed : List ℤ) (adds listen_adds : List Line) (t : Id) → is_removed_in adds t ≡ false → is_removed_in listen_adds t ≡ false
    → is_removed_in (each remove removed ++ adds ++ listen_adds) t ≡ is_removed_in (each remove removed) t
removed_asks removed adds listen_adds t none none_listens =
    any_append (removes t) (each remove removed ++ adds) listen_adds
    ∙ ap (λ (b : Bool). is_removed_in (each remove removed ++ adds) t || b) none_listens
    ∙ or_none (is_removed_in (each remove removed ++ adds) t)
    ∙ any_append (removes t) (each remove removed) adds
    ∙ ap (λ (b : Bool). is_removed_in (each remove removed) t || b) none
    ∙ or_none (is_removed_in (each remove removed) t)

-- ---- what waits isn't touched by requests

pub buffered_requested : (key : Key) (lines : List Line) (h : Calls) → buffered key (requested_in lines h) ≡ buffered key h
buffered_requested key [] h = refl
buffered_requested key (wrote b c ∷ lines) h = buffered_requested key lines h
buffered_requested key (listening i t c ∷ lines) h = buffered_requested key lines h
buffered_requested key (unlistened i c ∷ lines) h = buffered_requested key lines h
buffered_requested key (document k d w ∷ lines) h = buffered_requested key lines h
buffered_requested key (result b c t ∷ lines) h = buffered_requested key lines h
buffered_requested key (rejected b c t ∷ lines) h = buffered_requested key lines h
buffered_requested key (error i t ∷ lines) h = buffered_requested key lines h
buffered_requested key (snapshot c r t ∷ lines) h = buffered_requested key lines h
buffered_requested key (add t r ∷ lines) h = buffered_requested key lines (requested_by h (add t r))
buffered_requested key (remove t ∷ lines) h = buffered_requested key lines (requested_by h (remove t))
buffered_requested key (send r ∷ lines) h = buffered_requested key lines h

-- ---- the client once what came was taken, before what goes out

-- the ids that the event resets and removes
abbrev pub reset_by : Entry → Past → Id → Bool
reset_by e past t = resets_by e.event e.turn.commit past t && is_removed_in e.turn.lines t

-- The client stands for the state after the event, and for what came: by its step on the stream, its commit, and the ids that are
-- reset. Which ids are current is said of wanted ones.
pub record TakenBy (c : Client) (state : State) (wanted : Id → Bool) (step : WatchStep) (commit : Option Commit) (resets : Id → Bool) (heard : Past) : Type 0 where
  pub entry : (key : Key) → c.entry key ≡ entry_at state key
  pub read : c.read ≡ tick_of state.last_read
  pub rows : HasRowsOf c state.rows
  pub current : (id : Id) → wanted id ≡ true
      → c.current id ≡ option_map has (told_by id step commit (calls_of heard) (current_keys id heard))
  pub buffer : (key : Key) → c.buffer key ≡ option_map seen_entry (buffered key (calls_by step commit (calls_of heard)))
  pub past : c.past ≡ came_by step resets (transcript heard)

abbrev pub Taken : Client → State → Entry → Past → Type 0
Taken c state e past = TakenBy c state (λ id. is_wanted id (e ∷ past)) (step_of e) e.turn.commit (reset_by e past) past

-- what is asked is the same for the events and for the calls, before and behind a message
pub record SameAsked (past : Past) : Type 0 where
  pub before : (t : Id) → is_asked t (transcript past) ≡ is_asked_in t (calls_of past)
  pub heard : (m : _) (t : Id) → is_asked t (Heard (message_of m) ∷ transcript past) ≡ is_asked_in t (came m ∷ calls_of past)

pub passed_asked : (t : Id) (b : Bool) (commit : Option Commit) (h : Calls) → is_asked_in t (passed b commit h) ≡ is_asked_in t h
passed_asked t false commit h = refl
passed_asked t true None h = refl
passed_asked t true (Some commit) h = refl

not_and : (a b : Bool) → b ≡ false → (not a && b) ≡ false
not_and true b is = refl
not_and false b is = is

-- what isn't asked by the calls isn't by the events
came_unasked : (t : Id) (step : WatchStep) (commit : Option Commit) (resets : Id → Bool) (past : Past) → SameAsked past → is_asked_in t (calls_by step commit (calls_of past)) ≡ false → is_asked t (came_by step resets (transcript past)) ≡ false
came_unasked t opens commit resets past same off = refl
came_unasked t closes commit resets past same off = refl
came_unasked t (hears m) commit resets past same off =
    not_and (resets t) _ (same.heard m t ∙ sym (passed_asked t (is_point m) commit (came m ∷ calls_of past)) ∙ off)
came_unasked t rings commit resets past same off = same.before t ∙ off
came_unasked t passes commit resets past same off = same.before t ∙ off

-- add requests of ids with a row ask for no other
asked_others : (state : State) (ids : List ℤ) (lines : List Line) (x : List Event) (t : Id) → AllZip (IsAddLine state) ids lines
    → ((id : Id) (row : Row) → IsRow state.rows id row → is_listener id ≡ true) → is_listener t ≡ false → is_asked t x ≡ false → is_asked t (asked_in lines x) ≡ false
asked_others state [] [] x t all even odd off = off
asked_others state [] (line ∷ lines) x t all even odd off = absurd all
asked_others state (id ∷ ids) [] x t all even odd off = absurd all
asked_others state (id ∷ ids) (line ∷ lines) x t all even odd off =
    asked_others state ids lines (asked_by x line) t all.1 even odd
    (ap (λ (l : Line). is_asked t (asked_by x l)) all.0.is ∙ by (int_eq id t) refl)
  where
    by : (b : Bool) → int_eq id t ≡ b → (b || is_asked t x) ≡ false
    by false is = off
    by true is = absurd (true≢false (sym (even id all.0.row all.0.of_id) ∙ ap is_listener (same_id-true id t is) ∙ odd))

-- ---- what goes out

module _ (s : Setting) (root : Root) (e : Entry) (past : Past) (p : Parts root e.state past e.event e.turn) (same : SameAsked past) where
  abbrev state : State
  state = after e.state e.turn.commit

  abbrev goes_on : Past
  goes_on = e ∷ past

  abbrev settled_entry : Entry
  settled_entry = record { state = e.state; event = e.event; turn = p.settled }

  abbrev gone : Id → Bool
  gone t = not (is_wanted t goes_on && not (is_offline (online_of goes_on)))

  -- the steps of the event as it was settled are those of its turn
  same_step : step_of settled_entry ≡ step_of e
  same_step = ap (step_by e.event) p.settled_refusal

  same_limbo : limbo_of (settled_entry ∷ past) ≡ limbo_of goes_on
  same_limbo = λ i. updated (p.settled_limbo i) (going_on (calls_of past) (same_step i) (limbo_of past))

  calls_settled : calls_of (settled_entry ∷ past) ≡ calls_by (step_of e) e.turn.commit (calls_of past)
  calls_settled = requested_plain p.settled.lines _ p.plain_front ∙ (λ i. calls_by (same_step i) (p.settled_commit i) (calls_of past))

  -- of the lines only the requests count
  lines_asked : (x : List Event) → asked_in e.turn.lines x ≡ asked_in p.asked x
  lines_asked x =
      ap (λ ls. asked_in ls x) p.lines
      ∙ fold-append asked_by x p.settled.lines (p.asked ++ p.behind)
      ∙ ap (asked_in (p.asked ++ p.behind)) (asked_plain p.settled.lines x p.plain_front)
      ∙ fold-append asked_by x p.asked p.behind
      ∙ asked_plain p.behind (asked_in p.asked x) p.plain_behind

  lines_removed : (t : Id) → is_removed_in e.turn.lines t ≡ is_removed_in p.asked t
  lines_removed t =
      ap (λ ls. is_removed_in ls t) p.lines
      ∙ any_append (removes t) p.settled.lines (p.asked ++ p.behind)
      ∙ ap (λ (b : Bool). b || is_removed_in (p.asked ++ p.behind) t) (removed_plain p.settled.lines t p.plain_front)
      ∙ any_append (removes t) p.asked p.behind
      ∙ ap (λ (b : Bool). is_removed_in p.asked t || b) (removed_plain p.behind t p.plain_behind)
      ∙ or_none (is_removed_in p.asked t)

  calls_next : (key : Key) → buffered key (calls_of goes_on) ≡ buffered key (calls_by (step_of e) e.turn.commit (calls_of past))
  calls_next key = buffered_requested key e.turn.lines (calls_by (step_of e) e.turn.commit (calls_of past))

  module _ (row_there : (id : Id) (row : Row) → IsRow state.rows id row → row_of state.rows id ≡ Some row)
      (row_even : (id : Id) (row : Row) → row_of state.rows id ≡ Some row → is_listener id ≡ true)
      (wanted_row : (t : Id) → is_wanted t goes_on ≡ true → HasTargetRow state.rows t) where
    even : (id : Id) (row : Row) → IsRow state.rows id row → is_listener id ≡ true
    even id row is = row_even id row (row_there id row is)

    odd_rowless : (t : Id) → is_listener t ≡ false → tuple_at state.rows t ≡ None
    odd_rowless t odd = by (row_of state.rows t) refl
      where
        by : (o : Option Row) → row_of state.rows t ≡ o → option_and_then tuple_in o ≡ None
        by None is = refl
        by (Some row) is = absurd (true≢false (sym (row_even t row is) ∙ odd))

    odd_unwanted : (t : Id) → is_listener t ≡ false → is_wanted t goes_on ≡ false
    odd_unwanted t odd = by (is_wanted t goes_on) refl
      where
        by : (b : Bool) → is_wanted t goes_on ≡ b → is_wanted t goes_on ≡ false
        by false is = is
        by true is = let it = wanted_row t is in absurd (true≢false (sym (even t it.0 it.1) ∙ odd))

    odd_gone : (t : Id) → is_listener t ≡ false → gone t ≡ true
    odd_gone t odd = ap (λ (b : Bool). not (b && not (is_offline (online_of goes_on)))) (odd_unwanted t odd)

    -- the ids that aren't current any more leave, and the remove requests go out
    abbrev left : Client → Client
    left c = after_turn s (Leaves gone) c

    abbrev unasked_all : Client → Client
    unasked_all c = after_turn s (Unasks (is_removed_in e.turn.lines)) (left c)

    reach_unasked : (c : Client) → Reaches s c (unasked_all c)
    reach_unasked c = reach_then s (reach_one s c (Leaves gone) tt) (reach_one s (left c) (Unasks (is_removed_in e.turn.lines)) tt)

    left_current : (c : Client) → Taken c state e past → (id : Id) → (left c).current id ≡ option_map has (current_keys id goes_on)
    left_current c taken id = by (is_wanted id goes_on) (not (is_offline (online_of goes_on))) (taken.current id)
      where
        told : Option (List Key)
        told = told_by id (step_of e) e.turn.commit (calls_of past) (current_keys id past)

        by : (wanted online : Bool) → (wanted ≡ true → c.current id ≡ option_map has told) → (if not (wanted && online) then None else c.current id) ≡ option_map has (if_so (wanted && online) told)
        by false online is = refl
        by true false is = refl
        by true true is = is refl

    -- a client that did what the requests are
    finished : (c d : Client) → Taken c state e past → Reaches s (unasked_all c) d → OnlyAsks (unasked_all c) d (asked_in p.asked (unasked_all c).past) → Goes s c state goes_on
    finished c d taken reached asks =
        let all = reach_then s (reach_unasked c) reached in
        record {
          turns = all.turns;
          allowed = all.allowed;
          stands = subst (λ (x : Client). StandsAs x state goes_on) (sym all.is) (record {
            entry = λ key. ap (λ f. f key) asks.entry ∙ taken.entry key;
            read = asks.read ∙ taken.read;
            row = λ id. ap (λ f. f id) asks.row ∙ taken.rows.row id;
            target = λ id row is. asks.target id (even id row is) ∙ taken.rows.target id row is;
            current = λ id. ap (λ f. f id) asks.current ∙ left_current c taken id;
            buffer = λ key. ap (λ f. f key) asks.buffer ∙ taken.buffer key ∙ ap (option_map seen_entry) (sym (calls_next key));
            past = asks.past ∙ ap (λ x. asked_in p.asked (Unasked (is_removed_in e.turn.lines) ∷ x)) taken.past ∙ sym (lines_asked (Unasked (is_removed_in e.turn.lines) ∷ came_by (step_of e) (reset_by e past) (transcript past)));
          });
        }

    -- nothing goes out
    silent : (c : Client) → Taken c state e past → p.asked ≡ [] → Goes s c state goes_on
    silent c taken none = finished c (unasked_all c) taken (reach_none s (unasked_all c)) (record {
      entry = refl;
      read = refl;
      row = refl;
      current = refl;
      buffer = refl;
      target = λ id own. refl;
      past = ap (λ ls. asked_in ls (unasked_all c).past) (sym none);
    })

    asking : (c : Client) → Taken c state e past → Asks state (settled_entry ∷ past) (resets_by e.event e.turn.commit past) p.asked → Goes s c state goes_on
    asking c taken it =
        let first = adds_reach s state.rows row_there state refl it.added it.adds it.rows (unasked_all c) (record { row = taken.rows.row; target = taken.rows.target }) in
        let second = listens_reach s (limbo_of (settled_entry ∷ past)) it.listens it.listen_adds it.keys it.are_listens.ascending first.0 (λ t here. free first.0 first.2 t here) in
        finished c second.0 taken (reach_then s first.1 second.1) (record {
          entry = second.2.entry ∙ first.2.entry;
          read = second.2.read ∙ first.2.read;
          row = second.2.row ∙ first.2.row;
          current = second.2.current ∙ first.2.current;
          buffer = second.2.buffer ∙ first.2.buffer;
          target = λ id own. second.2.target id own ∙ first.2.target id own;
          past = second.2.past ∙ ap (asked_in it.listen_adds) first.2.past ∙ sym (all_lines (unasked_all c).past);
        })
      where
        all_lines : (x : List Event) → asked_in p.asked x ≡ asked_in it.listen_adds (asked_in it.adds x)
        all_lines x =
            ap (λ ls. asked_in ls x) it.is
            ∙ fold_asks asked_by it.removed it.adds it.listen_adds x
            ∙ ap (λ y. asked_in it.listen_adds (asked_in it.adds y)) (asked_removes it.removed x)

        removed_here : (t : Id) → Contains it.removed t → is_removed_in e.turn.lines t ≡ true
        removed_here t here =
            lines_removed t ∙ ap (λ ls. is_removed_in ls t) it.is
            ∙ removed_asks it.removed it.adds it.listen_adds t (removed_adds it.added it.adds t (are_adds state it.added it.adds it.rows))
            (removed_adds it.listens it.listen_adds t (are_listens (limbo_of (settled_entry ∷ past)) it.listens it.listen_adds it.keys))
            ∙ has_removed it.removed t here

        unasked_then : (t : Id) → (is_asked_in t (calls_of (settled_entry ∷ past)) ≡ false) ⊎ Contains it.removed t → is_asked t (unasked_all c).past ≡ false
        unasked_then t (inl off) =
            not_and (is_removed_in e.turn.lines t) (is_asked t c.past)
            (ap (is_asked t) taken.past ∙ came_unasked t (step_of e) e.turn.commit (reset_by e past) past same (ap (is_asked_in t) (sym calls_settled) ∙ off))
        unasked_then t (inr here) = ap (λ (b : Bool). not b && is_asked t c.past) (removed_here t here)

        free : (d : Client) → OnlyAsks (unasked_all c) d (asked_in it.adds (unasked_all c).past) → (t : Id) → Contains it.listens t → IsFree d t
        free d only t here =
            let added = (it.are_listens.each t).0 here in
            let odd = odd_unlistened t (running_odd t (settled_entry ∷ past) added.running) in
            record {
              own = odd;
              no_row = ap (λ f. f t) only.row ∙ taken.rows.row t ∙ odd_rowless t odd;
              not_current = ap (λ f. f t) only.current ∙ ap (λ (b : Bool). if b then None else c.current t) (odd_gone t odd);
              not_asked = ap (is_asked t) only.past ∙ asked_others state it.added it.adds (unasked_all c).past t it.rows even odd (unasked_then t added.why);
            }

    by_asks : (c : Client) → Taken c state e past → (b : Bool) → AsksIf b state (settled_entry ∷ past) (resets_by e.event e.turn.commit past) p.asked → Goes s c state goes_on
    by_asks c taken true it = asking c taken it
    by_asks c taken false it = silent c taken it

    pub goes_out : (c : Client) → Taken c state e past → Goes s c state goes_on
    goes_out c taken = by_asks c taken (is_watched (answered_next e.state past e.event p.settled)) p.asks

  -- a target that the event resets is removed exactly where it is asked
  pub reset_removed : is_watched (settled_entry ∷ past) ≡ true → (t : Id) → resets_by e.event e.turn.commit past t ≡ true → is_removed_in e.turn.lines t ≡ is_asked_in t (calls_by (step_of e) e.turn.commit (calls_of past))
  reset_removed watched t resets = by_asks (subst (λ (b : Bool). AsksIf b state (settled_entry ∷ past) (resets_by e.event e.turn.commit past) p.asked) watched p.asks)
    where
      by_asks : Asks state (settled_entry ∷ past) (resets_by e.event e.turn.commit past) p.asked → is_removed_in e.turn.lines t ≡ is_asked_in t (calls_by (step_of e) e.turn.commit (calls_of past))
      by_asks it = lines_removed t ∙ ap (λ ls. is_removed_in ls t) it.is
          ∙ removed_asks it.removed it.adds it.listen_adds t (removed_adds it.added it.adds t (are_adds state it.added it.adds it.rows))
          (removed_adds it.listens it.listen_adds t (are_listens (limbo_of (settled_entry ∷ past)) it.listens it.listen_adds it.keys))
          ∙ same_truth (is_removed_in (each remove it.removed) t) (is_asked_in t (calls_by (step_of e) e.turn.commit (calls_of past)))
          (λ yes. ap (is_asked_in t) (sym calls_settled) ∙ ((it.are_removed.each t).0 (removed_has it.removed t yes)).asking)
          (λ yes. has_removed it.removed t ((it.are_removed.each t).1 (record { asking = ap (is_asked_in t) calls_settled ∙ yes; why = inr resets })))
