-- The events of a stream tell an id what its calls tell it.
use Rattle.std.proofs.Common.{◌≡◌, ◌↔◌, ◌∙◌, ℕ, ℤ, Bool, true, false, cond, not, ◌&&◌, ◌||◌, List, [], ◌∷◌, Option, Some, None, refl, sym, ap, subst}
use Rattle.std.specs.Prelude.{if◌then◌else◌, IsTrue, MatchOption, is_none}
use Rattle.std.specs.List.{Contains, list_any, find}
use Rattle.std.specs.Ordering.{int_eq}
use Rattle.std.proofs.lemmas.Bool.{false≢true, and_parts}
use Rattle.value_model.specs.declared.message.ChangeKind.{ChangeKind}
use Rattle.value_model.specs.declared.message.ChangeKind.TheVariants.{NoChange, Add, Remove, Current, Reset}
use Rattle.value_model.specs.declared.message.ListenResponse.{ListenResponse}
use Rattle.value_model.specs.declared.message.ListenResponse.TheVariants as sent
use Rattle.listen_protocol.specs.Calls as calls
use Rattle.listen_protocol.specs.Calls.{Calls, asked, unasked, came, applied, skipped, lists, is_add, is_reset}
use Rattle.listen_protocol.specs.Transcript as stream
use Rattle.listen_protocol.proofs.Ids.{counts_live}
use Rattle.agreement.specs.Backend.{Key, is_key, Id}
use Rattle.agreement.specs.Transcript.{Request, Event, Heard, News, Silent, Out, Sent, is_current, request, start_keys, said, news, told_by, told}
use Rattle.agreement.specs.Streams.{message_of, events, StartWithKeys}
use Rattle.agreement.proofs.Events.{news_by}
use Rattle.agreement.proofs.Streams.{flip, sort_of, sorted, heard_sorted, started_by, start_same}

-- an id that counts after a message counted before, or the message adds it
pub counted_step : (m : ListenResponse) (id : Id) (h : Calls) → stream.counts id (came m ∷ h) ≡ true → (stream.counts id h || is_add (sort_of m id)) ≡ true
counted_step m id h counted =
    let p = and_parts (stream.is_live id (came m ∷ h)) (stream.counts id h || calls.changes calls.is_add m id) counted in
    subst (λ (b : Bool). (stream.counts id h || b) ≡ true) (sorted is_add refl m id) p.1

-- CURRENT
any_since : (test : ListenResponse → Bool) (b : Bool) (m : ListenResponse) (ms : List ListenResponse)
    → list_any test (if b then m ∷ [] else m ∷ ms) ≡ (test m || (if b then false else list_any test ms))
any_since test true m ms = refl
any_since test false m ms = refl

current_step : (k : ChangeKind) (c before here : Bool) → (c ≡ true → before ≡ here) → (c || is_add k) ≡ true
    → (is_none (started_by k c) && (calls.is_current k || before)) ≡ (calls.is_current k || (if not c || is_reset k then false else here))
current_step NoChange true before here same counted = same refl
current_step NoChange false before here same counted = absurd (false≢true counted)
current_step Add true before here same counted = same refl
current_step Add false before here same counted = refl
current_step Remove true before here same counted = same refl
current_step Remove false before here same counted = absurd (false≢true counted)
current_step Current true before here same counted = refl
current_step Current false before here same counted = absurd (false≢true counted)
current_step Reset true before here same counted = refl
current_step Reset false before here same counted = absurd (false≢true counted)

-- what a message says of a key
Says : News → Bool → Type 0
Says n true = (update : ℕ) × (n ≡ Sent update)
Says n false = n ≡ Out

IsSaid : Option News → (named puts : Bool) → Type 0
IsSaid o true puts = (n : News) × (o ≡ Some n) × Says n puts
IsSaid o false puts = o ≡ None

sent_said : (same puts takes : Bool) (update : ℕ) → IsSaid (cond (same && takes) (Some Out) (cond (same && puts) (Some (Sent update)) None)) (same && (puts || takes)) (puts && not takes)
unfolding Says IsSaid
sent_said false puts takes update = refl
sent_said true true true update = (Out, refl, refl)
sent_said true false true update = (Out, refl, refl)
sent_said true true false update = (Sent update, refl, (update, refl))
sent_said true false false update = refl

out_said : (named : Bool) → IsSaid (cond named (Some Out) None) named false
unfolding Says IsSaid
out_said true = (Out, refl, refl)
out_said false = refl

said_is : (m : ListenResponse) (id : Id) (key : Key) → IsSaid (said id key (Heard (message_of m))) (calls.names m id key) (calls.puts_in m id)
unfolding Says IsSaid
said_is (sent.Target change) id key = refl
said_is (sent.Change change) id key = sent_said (is_key change.key key) (lists change.target_ids id) (lists change.removed_target_ids id) _
said_is (sent.Delete delete) id key = out_said (is_key delete.key key && lists delete.removed_target_ids id)
said_is (sent.Remove remove) id key = out_said (is_key remove.key key && lists remove.removed_target_ids id)
said_is (sent.Filter filter) id key = refl

-- a message that names a key is no change of targets
named_sort : (m : ListenResponse) (id : Id) (key : Key) → calls.names m id key ≡ true → sort_of m id ≡ NoChange
named_sort (sent.Target change) id key named = absurd (false≢true named)
named_sort (sent.Change change) id key named = refl
named_sort (sent.Delete delete) id key named = refl
named_sort (sent.Remove remove) id key named = refl
named_sort (sent.Filter filter) id key named = refl

-- the news of a key are those of the last message that names it
NewsIs : Id → News → Option ListenResponse → (begins : Bool) → Type 0
NewsIs id n None begins = n ≡ (if begins then Silent else Out)
NewsIs id n (Some m) begins = Says n (calls.puts_in m id)

module _ (id : Id) (key : Key) (m : ListenResponse) (h : Calls) (before : News) where
  Old : Type 0
  Old = NewsIs id before (find (λ message. calls.names message id key) (stream.since id h)) (stream.starts_with_add id h)

  New : (k : ChangeKind) (c : Bool) (o : Option News) → Type 0
  New k c o = NewsIs id (news_by (started_by k c) o before)
      (find (λ message. calls.names message id key) (if not c || is_reset k then m ∷ [] else m ∷ stream.since id h))
      (if c then not (is_reset k) && stream.starts_with_add id h else true)

  quiet_step : (k : ChangeKind) (c : Bool) → (c ≡ true → Old) → (c || is_add k) ≡ true → calls.names m id key ≡ false → New k c None
  unfolding New Old NewsIs
  quiet_step NoChange true old counted quiet = rw quiet (old refl)
  quiet_step NoChange false old counted quiet = absurd (false≢true counted)
  quiet_step Add true old counted quiet = rw quiet (old refl)
  quiet_step Add false old counted quiet = rw quiet refl
  quiet_step Remove true old counted quiet = rw quiet (old refl)
  quiet_step Remove false old counted quiet = absurd (false≢true counted)
  quiet_step Current true old counted quiet = rw quiet (old refl)
  quiet_step Current false old counted quiet = absurd (false≢true counted)
  quiet_step Reset true old counted quiet = rw quiet refl
  quiet_step Reset false old counted quiet = absurd (false≢true counted)

  named_step : (c : Bool) (n : News) → (c || false) ≡ true → calls.names m id key ≡ true → Says n (calls.puts_in m id) → New NoChange c (Some n)
  unfolding New NewsIs
  named_step true n counted named says = rw named says
  named_step false n counted named says = absurd (false≢true counted)

  step : (b : Bool) → calls.names m id key ≡ b → (c : Bool) (o : Option News) → IsSaid o b (calls.puts_in m id) → (c ≡ true → Old) → (c || is_add (sort_of m id)) ≡ true → New (sort_of m id) c o
  unfolding IsSaid
  step false quiet c o is old counted = subst (New (sort_of m id) c) (sym is) (quiet_step (sort_of m id) c old counted quiet)
  step true named c o is old counted =
      let none = named_sort m id key named in
      subst (λ (k : ChangeKind). New k c o) (sym none) (subst (New NoChange c) (sym is.1) (named_step c is.0 (subst (λ (k : ChangeKind). (c || is_add k) ≡ true) none counted) named is.2))

module _ (opening : Calls → Request) (older : List Event) (id : Id) where
  pub current_same : (h : Calls) → stream.counts id h ≡ true → is_current id (events opening older h) ≡ stream.is_current_in id h
  current_same [] counted = absurd (false≢true counted)
  current_same (asked i keys document ∷ h) counted = current_same h (and_parts (not (int_eq id i)) (stream.counts id h) counted).1
  current_same (unasked i ∷ h) counted = current_same h (and_parts (not (int_eq id i)) (stream.counts id h) counted).1
  current_same (came m ∷ h) counted =
      let goal = current_step (sort_of m id) (stream.counts id h) (is_current id (events opening older h)) (stream.is_current_in id h) (current_same h) (counted_step m id h counted) in
      rw (start_same opening older id m h, heard_sorted calls.is_current refl m id, sorted is_reset refl m id)
      (goal ∙ sym (any_since (λ message. calls.changes calls.is_current message id) (not (stream.counts id h) || is_reset (sort_of m id)) m (stream.since id h)
      ∙ ap (λ (b : Bool). b || (if not (stream.counts id h) || is_reset (sort_of m id) then false else stream.is_current_in id h)) (sorted calls.is_current refl m id)))
  current_same (applied ∷ h) counted = current_same h counted
  current_same (skipped ∷ h) counted = current_same h counted

  news_same : (key : Key) (h : Calls) → stream.counts id h ≡ true
      → NewsIs id (news id key (events opening older h)) (find (λ message. calls.names message id key) (stream.since id h)) (stream.starts_with_add id h)
  unfolding Old New
  news_same key [] counted = absurd (false≢true counted)
  news_same key (asked i keys document ∷ h) counted = news_same key h (and_parts (not (int_eq id i)) (stream.counts id h) counted).1
  news_same key (unasked i ∷ h) counted = news_same key h (and_parts (not (int_eq id i)) (stream.counts id h) counted).1
  news_same key (came m ∷ h) counted =
      rw (start_same opening older id m h, sorted is_reset refl m id) (step id key m h (news id key (events opening older h)) (calls.names m id key) refl
      (stream.counts id h) (said id key (Heard (message_of m))) (said_is m id key) (news_same key h) (counted_step m id h counted))
  news_same key (applied ∷ h) counted = news_same key h counted
  news_same key (skipped ∷ h) counted = news_same key h counted

  -- what the newest add request asked
  request_asked : (b : Bool) (i : ℤ) (keys here : List Key) (opened : Request) (before : Option Request) → ((key : Key) → (start_keys (Some opened) key ≡ true) ↔ Contains keys key)
      → (b ≡ false → (op : Request) × (before ≡ Some op) × ((key : Key) → (start_keys (Some op) key ≡ true) ↔ Contains here key))
      → (op : Request) × (cond b (Some opened) before ≡ Some op) × ((key : Key) → (start_keys (Some op) key ≡ true) ↔ Contains (if b then keys else here) key)
  request_asked true i keys here opened before starts old = (opened, refl, starts)
  request_asked false i keys here opened before starts old = old refl

  wanted_before : (b w : Bool) → (b || w) ≡ true → b ≡ false → w ≡ true
  wanted_before true w h other = absurd (false≢true (sym other))
  wanted_before false w h other = h

  request_same : (h : Calls) → StartWithKeys opening h → stream.is_wanted id h ≡ true
      → (op : Request) × (request id (events opening older h) ≡ Some op) × ((key : Key) → (start_keys (Some op) key ≡ true) ↔ Contains (stream.starting id h) key)
  request_same [] starts wanted = absurd (false≢true wanted)
  request_same (asked i keys document ∷ h) starts wanted =
      rw (flip i id) (request_asked (int_eq id i) i keys (stream.starting id h) (opening (asked i keys document ∷ h)) (request id (events opening older h)) starts.0
      (λ other. request_same h starts.1 (wanted_before (int_eq id i) (stream.is_wanted id h) wanted other)))
  request_same (unasked i ∷ h) starts wanted = request_same h starts (and_parts (not (int_eq id i)) (stream.is_wanted id h) wanted).1
  request_same (came m ∷ h) starts wanted = request_same h starts wanted
  request_same (applied ∷ h) starts wanted = request_same h starts wanted
  request_same (skipped ∷ h) starts wanted = request_same h starts wanted

says_told : (n : News) (op : Request) (key : Key) (b : Bool) → Says n b → (told_by n (start_keys (Some op) key) ≡ true) ↔ (b ≡ true)
unfolding Says
says_told n op key true says = rw says.1 ((λ yes. refl), (λ yes. refl))
says_told n op key false says = rw says ((λ yes. absurd (false≢true yes)), (λ yes. absurd (false≢true yes)))

told_from : (id : Id) (key : Key) (keys : List Key) (op : Request) (n : News) (o : Option ListenResponse) (begins : Bool) → NewsIs id n o begins → ((start_keys (Some op) key ≡ true) ↔ Contains keys key)
    → (told_by n (start_keys (Some op) key) ≡ true) ↔ MatchOption o ((begins ≡ true) × Contains keys key) (λ m. IsTrue (calls.puts_in m id))
unfolding NewsIs
told_from id key keys op n None true is starts = rw is ((λ yes. (refl, starts.0 yes)), (λ there. starts.1 there.1))
told_from id key keys op n None false is starts = rw is ((λ yes. absurd (false≢true yes)), (λ there. absurd (false≢true there.0)))
told_from id key keys op n (Some m) begins is starts = says_told n op key (calls.puts_in m id) is

pub told_same : (opening : Calls → Request) (older : List Event) (h : Calls) (id : Id) → StartWithKeys opening h → stream.counts id h ≡ true
    → (key : Key) → (told id (events opening older h) key ≡ true) ↔ stream.IsTold id h key
told_same opening older h id starts counted key =
    let found = request_same opening older id h starts (counts_live id h counted).0 in
    rw found.1 (told_from id key (stream.starting id h) found.0 (news id key (events opening older h)) (find (λ message. calls.names message id key) (stream.since id h))
    (stream.starts_with_add id h) (news_same opening older id key h counted) (found.2 key))
