-- What the events of a client's past say of an id is what the calls on its stream say.
use Rattle.std.proofs.Common.{◌≡◌, ◌↔◌, ◌∙◌, suc, ℤ, Bool, true, false, cond, not, ◌&&◌, ◌||◌, ◌==◌, List, [], ◌∷◌, Option, Some, None, is_some, refl, sym, ap, arith}
use Rattle.std.specs.Prelude.{if◌then◌else◌, length, is_none}
use Rattle.std.specs.List.{Contains}
use Rattle.std.specs.Ordering.{int_eq}
use Rattle.std.proofs.lemmas.Bool.{true≢false, false≢true, and_parts, ne_eqb}
use Rattle.value_model.specs.declared.message.ChangeKind.{ChangeKind}
use Rattle.value_model.specs.declared.message.ListenResponse.{ListenResponse}
use Rattle.value_model.specs.declared.message.ListenResponse.TheVariants as sent
use Rattle.value_model.specs.declared.timestamp.Timestamp.{Timestamp}
use Rattle.listen_protocol.specs.Calls as calls
use Rattle.listen_protocol.specs.Calls.{Calls, asked, unasked, came, applied, skipped, is_add, is_remove, is_reset}
use Rattle.listen_protocol.specs.Transcript as stream
use Rattle.listen_protocol.specs.ToldKeys.{told_keys}
use Rattle.listen_protocol.proofs.ToldLaw.{told_members}
use Rattle.queries.specs.declared.target.Target.TheVariants.{Document}
use Rattle.record_codec.specs.declared.commit.Commit.{Commit}
use Rattle.target_cache.specs.declared.row.Held.{Held}
use Rattle.target_cache.specs.declared.row.Row.{Row}
use Rattle.agreement.specs.Backend.{Id, Key, Token, tick, tick_of}
use Rattle.agreement.specs.MessageTurns.{has}
use Rattle.agreement.specs.Streams.{message_of, events, StartWithKeys}
use Rattle.agreement.specs.Transcript.{Change, Request, Event, Asked, Cut, Heard, Unasked, Silent, changes, counts, is_asked, is_current, is_live, news, open_count, own_token, point_time, request, start, start_keys, token, told, told_by}
use Rattle.agreement.proofs.Answered.{has_decides}
use Rattle.agreement.proofs.Events.{counts_is}
use Rattle.agreement.proofs.Streams.{flip, open_same, asked_same, counts_same, heard_sorted, sort_of, sorted, started_by}
use Rattle.agreement.proofs.StreamsTold.{counted_step, current_same, told_same}
use Rattle.agreement.proofs.StreamsTokens.{came_token, last_since, nested, own_same, token_alone}
use Rattle.client_turns.specs.Watching.{held_keys, is_point, passed, wanted_document}
use Rattle.client_agreement.specs.Transcript.{request_of}

-- ---- two lists of events that say the same of an id

pub record SaySame (id : Id) (x y : List Event) : Type 0 where
  pub opened : open_count id x ≡ open_count id y
  pub asks : is_asked id x ≡ is_asked id y
  pub counting : counts id x ≡ counts id y
  pub currently : counts id y ≡ true → is_current id x ≡ is_current id y
  pub newly : (key : Key) → counts id y ≡ true → news id key x ≡ news id key y
  pub starts : (key : Key) → start_keys (request id x) key ≡ start_keys (request id y) key

-- what counts at an event that is no ADD counted before
or_none : (b : Bool) → (b || false) ≡ true → b ≡ true
or_none true is = refl
or_none false is = is

module _ (id : Id) where
  pub same_back : {x y : List Event} → SaySame id x y → SaySame id y x
  same_back it = record {
    opened = sym it.opened;
    asks = sym it.asks;
    counting = sym it.counting;
    currently = λ on. sym (it.currently (sym it.counting ∙ on));
    newly = λ key on. sym (it.newly key (sym it.counting ∙ on));
    starts = λ key. sym (it.starts key);
  }

  pub same_then : {x y z : List Event} → SaySame id x y → SaySame id y z → SaySame id x z
  same_then it next = record {
    opened = it.opened ∙ next.opened;
    asks = it.asks ∙ next.asks;
    counting = it.counting ∙ next.counting;
    currently = λ on. it.currently (next.counting ∙ on) ∙ next.currently on;
    newly = λ key on. it.newly key (next.counting ∙ on) ∙ next.newly key on;
    starts = λ key. it.starts key ∙ next.starts key;
  }

  -- nothing is said at first, nor behind a cut
  pub same_first : (y : List Event) → SaySame id [] (Cut ∷ y)
  same_first y = record {
    opened = refl;
    asks = refl;
    counting = refl;
    currently = λ on. absurd (false≢true on);
    newly = λ key on. absurd (false≢true on);
    starts = λ key. refl;
  }

  pub same_cut : (x y : List Event) → SaySame id (Cut ∷ x) (Cut ∷ y)
  same_cut x y = record {
    opened = refl;
    asks = refl;
    counting = refl;
    currently = λ on. absurd (false≢true on);
    newly = λ key on. absurd (false≢true on);
    starts = λ key. refl;
  }

  -- an id that begins to count starts then
  began : (e : Event) (y : List Event) → counts id y ≡ false → counts id (e ∷ y) ≡ true → start id e y ≡ Some Silent
  began e y off on =
      let p = and_parts (is_live id (e ∷ y)) (counts id y || changes is_add id e) on in
      let adds : changes is_add id e ≡ true = ap (λ b. b || changes is_add id e) (sym off) ∙ p.1 in
      rw (adds, off) refl

  -- a message says the same to both
  pub same_heard : {x y : List Event} → (m : ListenResponse) → SaySame id x y → SaySame id (Heard (message_of m) ∷ x) (Heard (message_of m) ∷ y)
  same_heard {x} {y} m it = record {
    opened = rw it.opened refl;
    asks = rw (it.asks, it.opened) refl;
    counting = rw (it.asks, it.opened, it.counting) refl;
    currently = λ on. current_by (counts id y) refl on;
    newly = λ key on. news_by_it key (counts id y) refl on;
    starts = it.starts;
  }
    where
      current_by : (b : Bool) → counts id y ≡ b → counts id (Heard (message_of m) ∷ y) ≡ true → is_current id (Heard (message_of m) ∷ x) ≡ is_current id (Heard (message_of m) ∷ y)
      current_by true was on = rw (it.counting, it.currently was) refl
      current_by false was on = rw (began (Heard (message_of m)) x (it.counting ∙ was) (rw (it.asks, it.opened, it.counting) on), began (Heard (message_of m)) y was on) refl

      news_by_it : (key : Key) (b : Bool) → counts id y ≡ b → counts id (Heard (message_of m) ∷ y) ≡ true → news id key (Heard (message_of m) ∷ x) ≡ news id key (Heard (message_of m) ∷ y)
      news_by_it key true was on = rw (it.counting, it.newly key was) refl
      news_by_it key false was on = rw (began (Heard (message_of m)) x (it.counting ∙ was) (rw (it.asks, it.opened, it.counting) on), began (Heard (message_of m)) y was on) refl

  -- an add request, with the same keys
  pub same_asked : {x y : List Event} → (i : Id) (one other : Request) → ((key : Key) → start_keys (Some one) key ≡ start_keys (Some other) key) → SaySame id x y → SaySame id (Asked i one ∷ x) (Asked i other ∷ y)
  same_asked {x} {y} i one other keys it = record {
    opened = rw it.opened refl;
    asks = rw it.asks refl;
    counting = rw (it.asks, it.opened, it.counting) refl;
    currently = λ on. it.currently (was on);
    newly = λ key on. it.newly key (was on);
    starts = λ key. by key (int_eq i id);
  }
    where
      was : counts id (Asked i other ∷ y) ≡ true → counts id y ≡ true
      was on = or_none (counts id y) (and_parts (is_live id (Asked i other ∷ y)) (counts id y || false) on).1

      by : (key : Key) (b : Bool) → start_keys (cond b (Some one) (request id x)) key ≡ start_keys (cond b (Some other) (request id y)) key
      by key true = keys key
      by key false = it.starts key

  -- remove requests of both or of neither
  pub same_unasked : {x y : List Event} → (one other : Id → Bool) → one id ≡ other id → SaySame id x y → SaySame id (Unasked one ∷ x) (Unasked other ∷ y)
  same_unasked {x} {y} one other same it = record {
    opened = it.opened;
    asks = rw (same, it.asks) refl;
    counting = rw (same, it.asks, it.opened, it.counting) refl;
    currently = λ on. it.currently (was on);
    newly = λ key on. it.newly key (was on);
    starts = it.starts;
  }
    where
      was : counts id (Unasked other ∷ y) ≡ true → counts id y ≡ true
      was on = or_none (counts id y) (and_parts (is_live id (Unasked other ∷ y)) (counts id y || false) on).1

  -- remove requests of none
  pub same_none : (x : List Event) (none : Id → Bool) → none id ≡ false → SaySame id (Unasked none ∷ x) x
  same_none x none is = record {
    opened = refl;
    asks = rw is refl;
    counting = counts_is id (Unasked none) x ∙ rw is refl;
    currently = λ on. refl;
    newly = λ key on. refl;
    starts = λ key. refl;
  }

  -- remove requests one behind the other are as those of both
  pub same_both : (x : List Event) (first second both : Id → Bool) → both id ≡ (first id || second id) → SaySame id (Unasked both ∷ x) (Unasked second ∷ Unasked first ∷ x)
  same_both x first second both is = by (first id) refl
    where
      unasked_no : (f : Id → Bool) (y : List Event) → is_asked id (Unasked f ∷ y) ≡ false → counts id (Unasked f ∷ y) ≡ false
      unasked_no f y off = rw off refl

      or_false : (b : Bool) → (not b && false) ≡ false
      or_false true = refl
      or_false false = refl

      gone : (f : Id → Bool) (y : List Event) → f id ≡ true → is_asked id (Unasked f ∷ y) ≡ false
      gone f y on = rw on refl

      twice : both id ≡ true → first id ≡ true → SaySame id (Unasked both ∷ x) (Unasked second ∷ Unasked first ∷ x)
      twice all one =
          let none : is_asked id (Unasked second ∷ Unasked first ∷ x) ≡ false = rw (gone first x one) (or_false (second id)) in
          record {
            opened = refl;
            asks = gone both x all ∙ sym none;
            counting = unasked_no both x (gone both x all) ∙ sym (unasked_no second (Unasked first ∷ x) none);
            currently = λ on. refl;
            newly = λ key on. refl;
            starts = λ key. refl;
          }

      by : (b : Bool) → first id ≡ b → SaySame id (Unasked both ∷ x) (Unasked second ∷ Unasked first ∷ x)
      by false off = same_unasked both second (is ∙ ap (λ b. b || second id) off) (same_back (same_none x first off))
      by true on = twice (is ∙ ap (λ b. b || second id) on) on

-- ---- the calls of a stream, as events

-- an add request that starts with the keys of its call
abbrev opening_of : Calls → Request
opening_of (asked id keys document ∷ h) = record { query = Document []; resume = Some (record { token = []; query = Document []; version = 0; keys = has keys }) }
opening_of _ = record { query = Document []; resume = None }

abbrev as_events : Calls → List Event
as_events h = events opening_of [] h

starts_with : (h : Calls) → StartWithKeys opening_of h
starts_with [] = tt
starts_with (asked id keys document ∷ h) = (λ key. ((has_decides keys key).0, (has_decides keys key).1), starts_with h)
starts_with (unasked id ∷ h) = starts_with h
starts_with (came message ∷ h) = starts_with h
starts_with (applied ∷ h) = starts_with h
starts_with (skipped ∷ h) = starts_with h

-- ---- what events say of an id, beside its calls

-- the newest add request asks for the document that the calls have
abbrev IsRequested : Id → List Event → Calls → Type 0
IsRequested id x h = stream.is_wanted id h ≡ true
    → (opening : Request) × (request id x ≡ Some opening) × (stream.document_of id h ≡ wanted_document opening.query)

-- the events say of the id what the calls say, but for its token
pub record SayAlike (id : Id) (x : List Event) (h : Calls) : Type 0 where
  pub same : SaySame id x (as_events h)
  pub asking : IsRequested id x h

-- what the events before leave to the next one
abbrev pub carried : Id → List Event → Token
carried id [] = []
carried id (f ∷ past) = if point_time f == 0 then token id (f ∷ past) else []

-- and its token, where no point is untaken
pub record AreAlike (id : Id) (x : List Event) (h : Calls) : Type 0 where
  pub alike : SayAlike id x h
  pub carries : stream.counts id h ≡ true → carried id x ≡ stream.token_in id h

token_is : (id : Id) (e : Event) (past : List Event) → token id (e ∷ past) ≡ stream.or_else (own_token id e) (cond (is_none (start id e past)) (carried id past) [])
token_is id e [] = token_alone (own_token id e) (is_none (start id e []))
token_is id e (f ∷ past) = ap (stream.or_else (own_token id e)) (nested (is_none (start id e (f ∷ past))) (point_time f == 0) (token id (f ∷ past)))

module _ (id : Id) where
  -- the same ids count
  counting_is : {x : List Event} {h : Calls} → SayAlike id x h → counts id x ≡ stream.counts id h
  counting_is {x} {h} it = it.same.counting ∙ counts_same opening_of [] id h

  -- at first, and behind a cut
  pub alike_first : AreAlike id [] []
  alike_first = record {
    alike = record { same = same_first id []; asking = λ wanted. absurd (false≢true wanted) };
    carries = λ on. absurd (false≢true on);
  }

  pub alike_cut : (x : List Event) → AreAlike id (Cut ∷ x) []
  alike_cut x = record {
    alike = record { same = same_cut id x []; asking = λ wanted. absurd (false≢true wanted) };
    carries = λ on. absurd (false≢true on);
  }

  -- an add request of a row
  same_keys : (row : Row) (t : Id) (h : Calls) (key : Key) → start_keys (Some (request_of row)) key ≡ start_keys (Some (opening_of (asked t (held_keys row.held) (wanted_document row.target) ∷ h))) key
  same_keys row t h key = by row.held
    where
      by : (held : Option Held) → start_keys (Some (request_of (record { target = row.target; held = held }))) key ≡ has (held_keys held) key
      by None = refl
      by (Some held) = refl

  pub alike_asked : (t : Id) (row : Row) (x : List Event) (h : Calls) → AreAlike id x h → AreAlike id (Asked t (request_of row) ∷ x) (asked t (held_keys row.held) (wanted_document row.target) ∷ h)
  alike_asked t row x h it = record {
    alike = record {
      same = same_asked id t (request_of row) (opening_of (asked t (held_keys row.held) (wanted_document row.target) ∷ h)) (same_keys row t h) it.alike.same;
      asking = rw (flip t id) (λ wanted. by (int_eq id t) wanted);
    };
    carries = λ on. token_is id (Asked t (request_of row)) x ∙ it.carries (and_parts (not (int_eq id t)) (stream.counts id h) on).1;
  }
    where
      by : (b : Bool) → (b || stream.is_wanted id h) ≡ true
          → (opening : Request) × (cond b (Some (request_of row)) (request id x) ≡ Some opening) × ((if b then wanted_document row.target else stream.document_of id h) ≡ wanted_document opening.query)
      by true wanted = (request_of row, refl, refl)
      by false wanted = it.alike.asking wanted

  -- remove requests of none
  pub alike_none : (x : List Event) (h : Calls) (none : Id → Bool) → none id ≡ false → AreAlike id x h → AreAlike id (Unasked none ∷ x) h
  alike_none x h none is it = record {
    alike = record { same = same_then id (same_none id x none is) it.alike.same; asking = it.alike.asking };
    carries = λ on. token_is id (Unasked none) x ∙ it.carries on;
  }

  -- one more among remove requests
  pub alike_unasked : (t : Id) (x : List Event) (h : Calls) (before now : Id → Bool) → now id ≡ (before id || int_eq t id) → AreAlike id (Unasked before ∷ x) h → AreAlike id (Unasked now ∷ x) (unasked t ∷ h)
  alike_unasked t x h before now is it = record {
    alike = record {
      same = same_then id (same_both id x before (λ i. int_eq i t) now (is ∙ ap (λ b. before id || b) (flip t id))) (same_unasked id (λ i. int_eq i t) (λ i. int_eq i t) refl it.alike.same);
      asking = λ wanted. it.alike.asking (and_parts (not (int_eq id t)) (stream.is_wanted id h) wanted).1;
    };
    carries = λ on. token_is id (Unasked now) x ∙ sym (token_is id (Unasked before) x) ∙ it.carries (and_parts (not (int_eq id t)) (stream.counts id h) on).1;
  }

  -- remove requests of an id that goes out again among more
  pub alike_again : (x : List Event) (h : Calls) (before now : Id → Bool) → (before id ≡ true → now id ≡ true) → AreAlike id (Unasked now ∷ x) h → AreAlike id (Unasked now ∷ Unasked before ∷ x) h
  alike_again x h before now again it = record {
    alike = record { same = same_then id (same_back id (same_both id x before now now (by (before id) (now id) again))) it.alike.same; asking = it.alike.asking };
    carries = λ on. token_is id (Unasked now) (Unasked before ∷ x) ∙ token_is id (Unasked before) x ∙ sym (token_is id (Unasked now) x) ∙ it.carries on;
  }
    where
      by : (b c : Bool) → (b ≡ true → c ≡ true) → c ≡ (b || c)
      by true c more = more refl
      by false c more = refl

  -- a message comes
  pub alike_came : (m : ListenResponse) (x : List Event) (h : Calls) → SayAlike id x h → SayAlike id (Heard (message_of m) ∷ x) (came m ∷ h)
  alike_came m x h it = record { same = same_heard id m it.same; asking = it.asking }

  -- the start that a message makes
  start_is : (m : ListenResponse) (x : List Event) (h : Calls) → SayAlike id x h → start id (Heard (message_of m)) x ≡ started_by (sort_of m id) (stream.counts id h)
  start_is m x h it = rw (heard_sorted is_add refl m id, heard_sorted is_reset refl m id, counting_is it) refl

  pub token_came : (m : ListenResponse) (x : List Event) (h : Calls) → AreAlike id x h → stream.counts id (came m ∷ h) ≡ true → token id (Heard (message_of m) ∷ x) ≡ stream.token_in id (came m ∷ h)
  token_came m x h it on =
      let here = came_token (sort_of m id) (stream.counts id h) (carried id x) (stream.token_in id h) it.carries (counted_step m id h on) in
      token_is id (Heard (message_of m)) x ∙ rw (own_same m id, start_is m x h it.alike, sorted is_reset refl m id)
      (ap (stream.or_else (calls.token_for m id)) here ∙ sym (last_since id (not (stream.counts id h) || is_reset (sort_of m id)) m (stream.lately id h)))

-- ---- points

-- a message that is no point has no time of a point
no_time : (kind : ChangeKind) (ids : List ℤ) (bytes : Token) (time : Option Timestamp) → ((length ids == 0) && is_some time) ≡ false → (point_time (Heard (Change kind ids bytes (tick_of time))) == 0) ≡ true
no_time kind (t ∷ ids) bytes time untaken = refl
no_time kind [] bytes None untaken = by (is_remove kind)
  where
    by : (b : Bool) → (cond b 0 0 == 0) ≡ true
    by true = refl
    by false = refl
no_time kind [] bytes (Some time) untaken = absurd (true≢false untaken)

untimed : (m : ListenResponse) → is_point m ≡ false → (point_time (Heard (message_of m)) == 0) ≡ true
untimed (sent.Target change) untaken = no_time change.kind change.target_ids change.resume_token change.read_time untaken
untimed (sent.Change change) untaken = refl
untimed (sent.Delete delete) untaken = refl
untimed (sent.Remove remove) untaken = refl
untimed (sent.Filter filter) untaken = refl

tick_some : (time : Timestamp) → (tick time == 0) ≡ false
unfolding tick
tick_some time = ne_eqb (tick time) 0 (λ e. absurd (omega (arith, e)))

-- A point leaves no token, but for a REMOVE of all, behind which no id counts.
none_left : (id : Id) (kind : ChangeKind) (ids : List ℤ) (bytes : Token) (time : Option Timestamp) (x : List Event) → ((length ids == 0) && is_some time) ≡ true
    → counts id (Heard (Change kind ids bytes (tick_of time)) ∷ x) ≡ true → carried id (Heard (Change kind ids bytes (tick_of time)) ∷ x) ≡ []
none_left id kind (t ∷ ids) bytes time x point on = absurd (false≢true (ap (λ b. b && is_some time) (sym (ne_eqb (suc (length ids)) 0 (λ e. absurd (omega (arith, e))))) ∙ point))
none_left id kind [] bytes None x point on = absurd (false≢true point)
none_left id kind [] bytes (Some time) x point on = by (is_remove kind) refl
  where
    by : (b : Bool) → is_remove kind ≡ b → carried id (Heard (Change kind [] bytes (tick time)) ∷ x) ≡ []
    by true is = absurd (false≢true (sym (counts_is id (Heard (Change kind [] bytes (tick time))) x ∙ rw is refl) ∙ on))
    by false is = rw (is, tick_some time) refl

none_carried : (id : Id) (m : ListenResponse) (x : List Event) → is_point m ≡ true → counts id (Heard (message_of m) ∷ x) ≡ true → carried id (Heard (message_of m) ∷ x) ≡ []
none_carried id (sent.Target change) x point on = none_left id change.kind change.target_ids change.resume_token change.read_time x point on
none_carried id (sent.Change change) x point on = absurd (false≢true point)
none_carried id (sent.Delete delete) x point on = absurd (false≢true point)
none_carried id (sent.Remove remove) x point on = absurd (false≢true point)
none_carried id (sent.Filter filter) x point on = absurd (false≢true point)

-- a message comes, and where it is a point it is taken
pub alike_passed : (id : Id) (m : ListenResponse) (commit : Option Commit) (x : List Event) (h : Calls) → AreAlike id x h → AreAlike id (Heard (message_of m) ∷ x) (passed (is_point m) commit (came m ∷ h))
alike_passed id m commit x h it = by (is_point m) refl commit
  where
    by : (b : Bool) → is_point m ≡ b → (made : Option Commit) → AreAlike id (Heard (message_of m) ∷ x) (passed b made (came m ∷ h))
    by false untaken made = record { alike = alike_came id m x h it.alike; carries = λ on. rw (untimed m untaken) (token_came id m x h it on) }
    by true point None = record {
      alike = record { same = (alike_came id m x h it.alike).same; asking = (alike_came id m x h it.alike).asking };
      carries = λ on. none_carried id m x point (counting_is id (alike_came id m x h it.alike) ∙ on);
    }
    by true point (Some made) = record {
      alike = record { same = (alike_came id m x h it.alike).same; asking = (alike_came id m x h it.alike).asking };
      carries = λ on. none_carried id m x point (counting_is id (alike_came id m x h it.alike) ∙ on);
    }

-- ---- what both say of every id

pub record Alike (x : List Event) (h : Calls) : Type 0 where
  pub opened : (id : Id) → open_count id x ≡ stream.open_count id h
  pub asks : (id : Id) → is_asked id x ≡ stream.is_asked_in id h
  pub counting : (id : Id) → counts id x ≡ stream.counts id h
  pub current : (id : Id) → stream.counts id h ≡ true → is_current id x ≡ stream.is_current_in id h
  pub tells : (id : Id) (key : Key) → stream.counts id h ≡ true → (told id x key ≡ true) ↔ Contains (told_keys id h) key
  pub requested : (id : Id) → stream.is_wanted id h ≡ true
      → (opening : Request) × (request id x ≡ Some opening) × (stream.document_of id h ≡ wanted_document opening.query)

told_alike : (id : Id) (x : List Event) (h : Calls) (key : Key) → SayAlike id x h → stream.counts id h ≡ true → (told id x key ≡ true) ↔ Contains (told_keys id h) key
told_alike id x h key it on =
    let here = told_same opening_of [] h id (starts_with h) on key in
    let listed = told_members id h on key in
    let same : told id x key ≡ told id (as_events h) key = λ i. told_by (it.same.newly key (counts_same opening_of [] id h ∙ on) i) (it.same.starts key i) in
    (λ yes. listed.1 (here.0 (sym same ∙ yes)), λ there. same ∙ here.1 (listed.0 there))

pub says : (x : List Event) (h : Calls) → ((id : Id) → SayAlike id x h) → Alike x h
says x h it = record {
  opened = λ id. (it id).same.opened ∙ open_same opening_of [] id h;
  asks = λ id. (it id).same.asks ∙ asked_same opening_of [] id h;
  counting = λ id. counting_is id (it id);
  current = λ id on. (it id).same.currently (counts_same opening_of [] id h ∙ on) ∙ current_same opening_of [] id h on;
  tells = λ id key on. told_alike id x h key (it id) on;
  requested = λ id. (it id).asking;
}
