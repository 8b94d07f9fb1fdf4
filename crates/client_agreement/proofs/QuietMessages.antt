-- messages at which nothing durable changes, and points that are too old
use Rattle.std.proofs.Common.{◌≡◌, ◌≢◌, inl, inr, ℕ, ◌<◌, ℤ, suc, zero, Bool, true, false, not, ◌&&◌, ◌||◌, ◌==◌, nat_le, List, [], ◌∷◌, length, Option, Some, None, IfSome, if◌then◌else◌, refl, sym, ap, subst, ◌∙◌, arith}
use Rattle.std.specs.Prelude.{option_map}
use Rattle.std.specs.List.{IsDistinct}
use Rattle.std.specs.Ordering.{int_eq}
use Rattle.std.proofs.lemmas.Bool.{false≢true, true≢false, eqb-true, leb-true}
use Rattle.std.proofs.lemmas.Map.Made.{IsDistinct-from_AllPairs}
use Rattle.document_keys.proofs.Lawful.{ordered}
use Rattle.document_keys.specs.KeySet.{IsAscending}
use Rattle.document_keys.specs.Order.{PathBefore}
use Rattle.agreement.proofs.Counting.{is_key-decides, same_id-true}
use Rattle.agreement.proofs.Ticks.{ticks_ordered}
use Rattle.agreement.specs.Allowed.{IsAllowed, IsJudged, Numbers}
use Rattle.agreement.specs.Backend.{Id, Key, Keys, Setting, is_key, tick, tick_of}
use Rattle.agreement.specs.Client.{Client, Hears, Unasks, after as after_turn, heard, pointed}
use Rattle.agreement.specs.Entries as agreed
use Rattle.agreement.specs.MessageTurns.{has}
use Rattle.agreement.specs.Streams.{message_of}
use Rattle.agreement.specs.Transcript.{Change, Event, Heard, Unasked, point_time, told}
use Rattle.listen_protocol.specs.Buffer.{buffered, left_by, with_left}
use Rattle.listen_protocol.specs.Calls.{Calls, came, is_remove}
use Rattle.listen_protocol.specs.ToldKeys.{told_keys}
use Rattle.listen_protocol.specs.Transcript as stream
use Rattle.durable_state.specs.State.{State}
use Rattle.value_model.specs.Time.{IsMoment}
use Rattle.value_model.specs.Versions.{version_of}
use Rattle.value_model.specs.declared.message.ExistenceFilter.{ExistenceFilter}
use Rattle.value_model.specs.declared.message.ListenResponse.{ListenResponse}
use Rattle.value_model.specs.declared.message.ListenResponse.TheVariants as sent
use Rattle.value_model.specs.declared.timestamp.Timestamp.{Timestamp}
use Rattle.watch_aggregator.specs.Effects.{Gives, filter_effect}
use Rattle.watch_aggregator.specs.declared.effect.Effect.TheVariants as effect
use Rattle.client_turns.specs.Hearing.{IsOld}
use Rattle.client_turns.specs.Past.{Past}
use Rattle.client_turns.specs.Watching.{calls_of, current_keys, hears, is_mismatch, is_point, keys_at_point, passed, told_by}
use Rattle.client_agreement.proofs.Alike.{Alike}
use Rattle.client_agreement.proofs.GoingOut.{TakenBy}
use Rattle.client_agreement.proofs.Reaching.{Reaches, reach_one, reach_then}
use Rattle.client_agreement.proofs.Times.{earlier_less}
use Rattle.client_agreement.proofs.Waiting.{HasMomentsIn, waits_same}
use Rattle.client_agreement.specs.Standing.{StandsAs, seen_entry}
use Rattle.client_agreement.specs.Transcript.{transcript}

-- keys that ascend are apart
pub ascending_distinct : (keys : List Key) → IsAscending keys → IsDistinct is_key keys
ascending_distinct keys ascending = IsDistinct-from_AllPairs is_key-decides keys (λ i j d ahead inside same. strict_apart _ _ (ascending i j d ahead inside) same)
  where
    strict_apart : (a b : Key) → PathBefore a b → a ≢ b
    strict_apart a b before same = ordered.strict a (subst (PathBefore a) (sym same) before)

-- the told keys are as many as they are
pub told_numbers : {x : List Event} {h : Calls} → Alike x h → (id : Id) → stream.counts id h ≡ true → IsAscending (told_keys id h) → Numbers (told id x) (length (told_keys id h))
told_numbers {x} {h} alike id counting ascending = record {
  list = told_keys id h;
  distinct = ascending_distinct (told_keys id h) ascending;
  members = λ key. ((alike.tells id key counting).1, (alike.tells id key counting).0);
  length = refl;
}

-- ---- what a message is that changes nothing

-- it is no point
remove_pointless : (kind : _) (ids : List ℤ) (token : List ℕ) (time : ℕ) → is_remove kind ≡ true → point_time (Heard (Change kind ids token time)) ≡ 0
remove_pointless kind [] token time removes = ap (λ (b : Bool). if b then 0 else time) removes
remove_pointless kind (id ∷ ids) token time removes = refl

other_pointless : (kind : _) (ids : List ℤ) (token : List ℕ) (time : Option Timestamp) → is_remove kind ≡ false → ((at : Timestamp) → (ids ≡ []) → (time ≡ Some at) → ⊥) → point_time (Heard (Change kind ids token (tick_of time))) ≡ 0
other_pointless kind [] token None stays none = ap (λ (b : Bool). if b then 0 else 0) stays
other_pointless kind [] token (Some at) stays none = absurd (none at refl refl)
other_pointless kind (id ∷ ids) token time stays none = refl

pub nothing_pointless : (h : Calls) (m : ListenResponse) → Gives h m effect.Nothing → point_time (Heard (message_of m)) ≡ 0
nothing_pointless h (sent.Target change) (inl removes) = remove_pointless change.kind change.target_ids change.resume_token (tick_of change.read_time) removes.0
nothing_pointless h (sent.Target change) (inr stays) = other_pointless change.kind change.target_ids change.resume_token change.read_time stays.0 (λ at none time. stays.1 at (record { all = none; time = time }))
nothing_pointless h (sent.Change change) gives = refl
nothing_pointless h (sent.Delete delete) gives = refl
nothing_pointless h (sent.Remove remove) gives = refl
nothing_pointless h (sent.Filter filter) gives = refl

-- a filter whose verdict is that nothing happens
filter_agrees : (h : Calls) (f : ExistenceFilter) → effect.Nothing ≡ filter_effect h f → (stream.counts f.target_id h && not (length (told_keys f.target_id h) == f.count)) ≡ false
filter_agrees h f gives = by (stream.counts f.target_id h && not (length (told_keys f.target_id h) == f.count)) refl gives
  where
    by : (b : Bool) → (stream.counts f.target_id h && not (length (told_keys f.target_id h) == f.count)) ≡ b
        → effect.Nothing ≡ (if b then effect.Mismatch f.target_id (length (told_keys f.target_id h)) f.count else effect.Nothing) → b ≡ false
    by false is same = refl
    by true is same = absurd cc

pub nothing_mismatched : (h : Calls) (m : ListenResponse) → Gives h m effect.Nothing → (t : ℤ) → is_mismatch h m t ≡ false
nothing_mismatched h (sent.Target change) gives t = refl
nothing_mismatched h (sent.Change change) gives t = refl
nothing_mismatched h (sent.Delete delete) gives t = refl
nothing_mismatched h (sent.Remove remove) gives t = refl
nothing_mismatched h (sent.Filter f) gives t = by (int_eq f.target_id t) refl
  where
    by : (b : Bool) → int_eq f.target_id t ≡ b → (b && (stream.counts t h && not (length (told_keys t h) == f.count))) ≡ false
    by false is = refl
    by true is = subst (λ (x : ℤ). (stream.counts x h && not (length (told_keys x h) == f.count)) ≡ false) (same_id-true f.target_id t is) (filter_agrees h f gives)

count_same : (n k : ℕ) → not (n == k) ≡ false → k ≡ n
count_same n k same = by (n == k) refl same
  where
    by : (b : Bool) → (n == k) ≡ b → not b ≡ false → k ≡ n
    by true is same = sym (eqb-true n k is)
    by false is same = absurd (true≢false same)

-- it is judged right
pub nothing_judged : (s : Setting) {x : List Event} {h : Calls} → Alike x h → (m : ListenResponse) → Gives h m effect.Nothing → ((id : Id) → IsAscending (told_keys id h)) → IsJudged s x (message_of m)
nothing_judged s {x} {h} alike (sent.Target change) gives ascending = tt
nothing_judged s {x} {h} alike (sent.Change change) gives ascending = tt
nothing_judged s {x} {h} alike (sent.Delete delete) gives ascending = tt
nothing_judged s {x} {h} alike (sent.Remove remove) gives ascending = tt
nothing_judged s {x} {h} alike (sent.Filter f) gives ascending = λ own counting.
    let here : stream.counts f.target_id h ≡ true = sym (alike.counting f.target_id) ∙ counting in
    let agrees = sym (ap (λ (b : Bool). b && not (length (told_keys f.target_id h) == f.count)) here) ∙ filter_agrees h f gives in
    subst (Numbers (told f.target_id x)) (sym (count_same (length (told_keys f.target_id h)) f.count agrees)) (told_numbers alike f.target_id here (ascending f.target_id))

-- ---- the client behind it

abbrev none_missing : Keys
none_missing key = false

module _ (s : Setting) (c : Client) (state : State) (past : Past) (stands : StandsAs c state past) (m : ListenResponse)
    (before : Alike (transcript past) (calls_of past)) (moments : HasMomentsIn m)
    (waiting : (key : Key) → IfSome (buffered key (calls_of past)) (λ e. IsMoment (version_of e)))
    (wanted resets : Id → Bool) (unmatched : (t : ℤ) → is_mismatch (calls_of past) m t ≡ false) where
  abbrev h : Calls
  h = calls_of past

  abbrev behind : (Key → Option agreed.Entry) → Client
  behind buffer = record c { buffer = buffer; past = Unasked resets ∷ Heard (message_of m) ∷ c.past }

  told_still : (id : Id) → told_by id (hears m) None h (current_keys id past) ≡ current_keys id past
  told_still id = by (is_point m)
    where
      by : (b : Bool) → (if b && false then keys_at_point id (came m ∷ h) else if is_mismatch h m id || false then None else current_keys id past) ≡ current_keys id past
      by true = ap (λ (b : Bool). if b || false then None else current_keys id past) (unmatched id)
      by false = ap (λ (b : Bool). if b || false then None else current_keys id past) (unmatched id)

  passed_buffer : (key : Key) → buffered key (passed (is_point m) None (came m ∷ h)) ≡ buffered key (came m ∷ h)
  passed_buffer key = by (is_point m)
    where
      by : (b : Bool) → buffered key (passed b None (came m ∷ h)) ≡ buffered key (came m ∷ h)
      by true = refl
      by false = refl

  quiet_taken : (buffer : Key → Option agreed.Entry) → ((key : Key) → buffer key ≡ option_map seen_entry (buffered key (came m ∷ h))) → TakenBy (behind buffer) state wanted (hears m) None resets past
  quiet_taken buffer same = record {
    entry = stands.entry;
    read = stands.read;
    rows = record { row = stands.row; target = stands.target };
    current = λ id is. stands.current id ∙ ap (option_map has) (sym (told_still id));
    buffer = λ key. same key ∙ ap (option_map seen_entry) (sym (passed_buffer key));
    past = ap (λ x. Unasked resets ∷ Heard (message_of m) ∷ x) stands.past;
  }

  heard_buffer : (key : Key) → agreed.buffered (message_of m) c.past c.buffer key ≡ option_map seen_entry (buffered key (came m ∷ h))
  heard_buffer key =
      ap (λ x. agreed.buffered (message_of m) x c.buffer key) stands.past
      ∙ waits_same (transcript past) h before.counting key (buffered key h) (waiting key) m c.buffer (stands.buffer key) moments

  -- it hears the message, and what the message resets is removed
  hears_reaches : (missing : Keys) → IsAllowed s c (Hears (message_of m) missing) → (d : Client) → after_turn s (Hears (message_of m) missing) c ≡ d → Reaches s c (after_turn s (Unasks resets) d)
  hears_reaches missing allowed d is =
      reach_then s (subst (Reaches s c) is (reach_one s c (Hears (message_of m) missing) allowed)) (reach_one s d (Unasks resets) tt)

  pub nothing_reaches : Gives h m effect.Nothing → ((id : Id) → IsAscending (told_keys id h)) → (d : Client) × Reaches s c d × TakenBy d state wanted (hears m) None resets past
  nothing_reaches gives ascending =
      let judged : IsJudged s c.past (message_of m) = subst (λ (x : List Event). IsJudged s x (message_of m)) (sym stands.past) (nothing_judged s before m gives ascending) in (
        behind (agreed.buffered (message_of m) c.past c.buffer),
        hears_reaches none_missing (judged, λ key no. absurd (false≢true no)) (record c { buffer = agreed.buffered (message_of m) c.past c.buffer; past = Heard (message_of m) ∷ c.past })
            (ap (λ n. heard s (message_of m) none_missing n c) (nothing_pointless h m gives)),
        quiet_taken (agreed.buffered (message_of m) c.past c.buffer) heard_buffer,
      )

  -- a point that is too old
  pub old_reaches : (at : Timestamp) → point_time (Heard (message_of m)) ≡ tick at → left_by m h ≡ None → IsJudged s c.past (message_of m) → IsMoment at → IfSome state.last_read IsMoment → IsOld state.last_read at
      → (d : Client) × Reaches s c d × TakenBy d state wanted (hears m) None resets past
  old_reaches at time left judged moment last_moment old = (
    behind c.buffer,
    hears_reaches none_missing (judged, λ key no. absurd (false≢true no)) (record c { past = Heard (message_of m) ∷ c.past }) (ap (λ n. heard s (message_of m) none_missing n c) time ∙ ignored (tick at) refl),
    quiet_taken c.buffer (λ key. stands.buffer key ∙ ap (λ o. option_map seen_entry (with_left key o (buffered key h))) (sym left)),
  )
    where
      above : (last : Option Timestamp) → state.last_read ≡ last → IfSome last IsMoment → IsOld last at → tick at < c.read
      above None is none old = absurd old
      above (Some last) is last_moment old = subst (λ (n : ℕ). tick at < n) (sym (stands.read ∙ ap tick_of is)) (earlier_less at last moment last_moment old)

      ignored : (n : ℕ) → n ≡ tick at → heard s (message_of m) none_missing n c ≡ record c { past = Heard (message_of m) ∷ c.past }
      ignored zero is = let positive = ticks_ordered.positive at in absurd (omega (arith, is, positive))
      ignored (suc r) is = by (nat_le c.read (suc r)) refl
        where
          by : (b : Bool) → nat_le c.read (suc r) ≡ b → (if b then pointed s (suc r) none_missing (Heard (message_of m) ∷ c.past) c else record c { past = Heard (message_of m) ∷ c.past }) ≡ record c { past = Heard (message_of m) ∷ c.past }
          by false same = refl
          by true same = let le = leb-true c.read (suc r) same in let less = above state.last_read refl last_moment old in absurd (omega (arith, le, less, is))
