-- messages at which ids are reset: a filter that doesn't agree, and ends of targets
use Rattle.std.proofs.Common.{◌≡◌, ℕ, ◌-◌, ℤ, pos, Bool, true, false, not, ◌&&◌, ◌||◌, ◌==◌, List, [], ◌∷◌, length, Option, Some, None, if◌then◌else◌, refl, sym, ap, subst, ◌∙◌}
use Rattle.std.specs.Prelude.{is_some, nat_lt, option_map, option_and_then}
use Rattle.std.specs.List.{Contains, list_any}
use Rattle.std.specs.Ordering.{int_eq}
use Rattle.std.proofs.lemmas.Bool.{false≢true, true≢false, and_parts, eqb-true}
use Rattle.std.proofs.lemmas.Option.{none-some}
use Rattle.agreement.proofs.Counting.{same_id-refl, same_id-true}
use Rattle.agreement.specs.Allowed.{IsAllowed, IsReset}
use Rattle.agreement.specs.Backend.{Id, Key, Keys, Setting, tick_of}
use Rattle.agreement.specs.Client.{Client, Resets, after as after_turn}
use Rattle.agreement.specs.MessageTurns.{has}
use Rattle.agreement.specs.Streams.{message_of}
use Rattle.agreement.specs.Transcript.{Change, Event, Heard, Unasked, is_asked}
use Rattle.durable_state.specs.Rows.{blanked}
use Rattle.listen_protocol.specs.Buffer.{buffered}
use Rattle.listen_protocol.specs.Calls.{Calls, came, is_remove, lists}
use Rattle.listen_protocol.specs.Transcript as stream
use Rattle.durable_state.specs.State.{State, most_commits}
use Rattle.record_codec.specs.declared.commit.Commit.{Commit}
use Rattle.record_codec.specs.declared.commit.Commit.TheVariants.{Reset}
use Rattle.target_cache.specs.Cache.{IsRow, id_at}
use Rattle.target_cache.specs.declared.row.Held.{Held}
use Rattle.target_cache.specs.declared.row.Row.{Row}
use Rattle.value_model.specs.declared.message.ChangeKind.{ChangeKind}
use Rattle.value_model.specs.declared.message.ChangeKind.TheVariants as kind
use Rattle.value_model.specs.declared.message.ListenResponse.{ListenResponse}
use Rattle.value_model.specs.declared.message.ListenResponse.TheVariants as sent
use Rattle.value_model.specs.declared.message.TargetChange.{TargetChange}
use Rattle.watch_aggregator.specs.Effects.{IsEnded}
use Rattle.client_turns.specs.Hearing.{Blanks, HaveRows, IsAnyHeld, held, none_held}
use Rattle.client_turns.specs.Asking.{is_told_dropped}
use Rattle.client_turns.specs.Past.{Past, Turn}
use Rattle.client_turns.specs.Turns.{after, commits, refused}
use Rattle.client_turns.specs.declared.refusal.Refusal.TheVariants.{IdsSpent}
use Rattle.client_turns.specs.Watching.{calls_by, calls_of, current_keys, hears, is_dropped_by, told_by}
use Rattle.client_turns.proofs.Wanted.{any_at, first_among, later_among}
use Rattle.client_agreement.proofs.GoingOut.{TakenBy}
use Rattle.client_agreement.proofs.Reaching.{Reaches, reach_one}
use Rattle.client_agreement.specs.Durable.{entry_at, row_of, tuple_at, tuple_in, tuple_with}
use Rattle.client_agreement.specs.Standing.{StandsAs, seen_entry}
use Rattle.client_agreement.specs.Transcript.{transcript}

-- ---- ids in lists

pub lists_contains : (ids : List ℤ) (t : ℤ) → lists ids t ≡ true → Contains ids t
lists_contains [] t here = absurd (false≢true here)
lists_contains (id ∷ ids) t here = by (lists_contains ids t) (int_eq id t) refl here
  where
    by : (lists ids t ≡ true → Contains ids t) → (b : Bool) → int_eq id t ≡ b → (b || lists ids t) ≡ true → Contains (id ∷ ids) t
    by rest true is here = subst (λ (x : ℤ). Contains (id ∷ ids) x) (same_id-true id t is) (first_among id ids)
    by rest false is here = later_among id t ids (rest here)

pub contains_lists : (ids : List ℤ) (t : ℤ) → Contains ids t → lists ids t ≡ true
contains_lists ids t here = any_at (λ id. int_eq id t) ids t here (same_id-refl t)

numbers_contain : (those : List ℕ) (t : ℤ) → list_any (λ n. int_eq (pos n) t) those ≡ true → (n : ℕ) × Contains those n × (pos n ≡ t)
numbers_contain [] t here = absurd (false≢true here)
numbers_contain (n ∷ those) t here = by (numbers_contain those t) (int_eq (pos n) t) refl here
  where
    by : (list_any (λ k. int_eq (pos k) t) those ≡ true → (k : ℕ) × Contains those k × (pos k ≡ t)) → (b : Bool) → int_eq (pos n) t ≡ b → (b || list_any (λ k. int_eq (pos k) t) those) ≡ true → (k : ℕ) × Contains (n ∷ those) k × (pos k ≡ t)
    by rest true is here = (n, first_among n those, same_id-true (pos n) t is)
    by rest false is here = let it = rest here in (it.0, later_among n it.0 those it.1, it.2)

contain_numbers : (those : List ℕ) (n : ℕ) → Contains those n → list_any (λ k. int_eq (pos k) (pos n)) those ≡ true
contain_numbers those n here = any_at (λ k. int_eq (pos k) (pos n)) those n here (same_id-refl (pos n))

-- ---- what the calls say of an id that ended

pub ended_unasked : (h : Calls) (change : TargetChange) (t : ℤ) → is_remove change.kind ≡ true → IsEnded h change.target_ids t → stream.is_asked_in t (came (sent.Target change) ∷ h) ≡ false
ended_unasked h change t removes ended =
    let live = and_parts (stream.is_wanted t h) (stream.open_count t h == 1) ended.live in
    let one : stream.open_count t h ≡ 1 = eqb-true (stream.open_count t h) 1 live.1 in
    (λ i. stream.is_wanted t h && not ((if removes i && (((length change.target_ids == 0)) || ended.listed i) then one i - 1 else one i) == 0))
    ∙ (λ i. stream.is_wanted t h && not ((if or_true (length change.target_ids == 0) i then 0 else 1) == 0))
    ∙ off (stream.is_wanted t h)
  where
    or_true : (b : Bool) → (b || true) ≡ true
    or_true true = refl
    or_true false = refl

    off : (b : Bool) → (b && false) ≡ false
    off true = refl
    off false = refl

remove_is : (k : ChangeKind) → is_remove k ≡ true → k ≡ kind.Remove
remove_is kind.NoChange is = absurd (false≢true is)
remove_is kind.Add is = absurd (false≢true is)
remove_is kind.Remove is = refl
remove_is kind.Current is = absurd (false≢true is)
remove_is kind.Reset is = absurd (false≢true is)

-- a REMOVE may reset any ids
pub remove_resets : (s : Setting) (change : TargetChange) (ids : Id → Bool) → is_remove change.kind ≡ true → IsReset s (message_of (sent.Target change)) ids
remove_resets s change ids removes = subst (λ (k : ChangeKind). IsReset s (Change k change.target_ids change.resume_token (tick_of change.read_time)) ids) (sym (remove_is change.kind removes)) tt

-- ---- rows that are made blank

-- what a reset makes of the state, whether there is a commit or not
pub record IsBlanked (state : State) (ids : List ℤ) (commit : Option Commit) : Type 0 where
  pub row : (id : Id) → tuple_at (after state commit).rows id ≡ (if lists ids id then None else tuple_at state.rows id)
  pub entry : (key : Key) → entry_at (after state commit) key ≡ entry_at state key
  pub read : (after state commit).last_read ≡ state.last_read
  pub drops : (t : ℤ) → is_dropped_by commit t ≡ false
  pub told_drops : (past : Past) (t : ℤ) → is_told_dropped commit past t ≡ false

module _ (state : State)
    (row_there : (id : Id) (row : Row) → IsRow state.rows id row → row_of state.rows id ≡ Some row)
    (row_back : (id : Id) (row : Row) → row_of state.rows id ≡ Some row → IsRow state.rows id row)
    (blanked_tuple : (those : List ℕ) (id : Id) → tuple_at (blanked those state.rows) id ≡ (if list_any (λ n. int_eq (pos n) id) those then None else tuple_at state.rows id)) where
  -- a row that isn't made blank among these holds nothing
  pub rowless : (those : List ℕ) (id : Id) → ((row : Row) (n : ℕ) → id ≡ pos n → IsRow state.rows (pos n) row → Contains those n) → list_any (λ n. int_eq (pos n) id) those ≡ false → tuple_at state.rows id ≡ None
  rowless those id each off = by (row_of state.rows id) refl
    where
      by : (o : Option Row) → row_of state.rows id ≡ o → option_and_then tuple_in o ≡ None
      by None is = refl
      by (Some row) is =
          let there = row_back id row is in
          let n = id_at there.place in
          let here = each row n there.is (subst (λ (t : Id). IsRow state.rows t row) there.is there) in
          absurd (true≢false (sym (contain_numbers those n here) ∙ ap (λ (t : Id). list_any (λ k. int_eq (pos k) t) those) (sym there.is) ∙ off))

  blanks_rows : (ids : List ℤ) (those : List ℕ) → HaveRows state.rows ids those → (id : Id) → tuple_at (blanked those state.rows) id ≡ (if lists ids id then None else tuple_at state.rows id)
  blanks_rows ids those have id = blanked_tuple those id ∙ by (list_any (λ n. int_eq (pos n) id) those) (lists ids id) refl refl
    where
      by : (a b : Bool) → list_any (λ n. int_eq (pos n) id) those ≡ a → lists ids id ≡ b → (if a then None else tuple_at state.rows id) ≡ (if b then None else tuple_at state.rows id)
      by true true is same = refl
      by false false is same = refl
      by true false is same =
          let it = numbers_contain those id is in
          absurd (true≢false (sym (contains_lists ids id (subst (Contains ids) it.2 ((have.each it.0).0 it.1).0)) ∙ same))
      by false true is same = rowless those id (λ row n at there. (have.each n).1 (subst (Contains ids) at (lists_contains ids id same), (row, there))) is

  -- a row of these ids holds nothing, where none does
  unheld_rows : (ids : List ℤ) (those : List ℕ) → HaveRows state.rows ids those → ¬ (IsAnyHeld state.rows those) → (id : Id) → tuple_at state.rows id ≡ (if lists ids id then None else tuple_at state.rows id)
  unheld_rows ids those have none id = by (lists ids id) refl
    where
      by_row : lists ids id ≡ true → (o : Option Row) → row_of state.rows id ≡ o → option_and_then tuple_in o ≡ None
      by_row here None is = refl
      by_row here (Some row) is = by_held row.held refl
        where
          by_held : (o : Option Held) → row.held ≡ o → option_map (tuple_with row.target) o ≡ None
          by_held None off = refl
          by_held (Some it) holding =
              let there = row_back id row is in
              let n = id_at there.place in
              let at_place = subst (λ (t : Id). IsRow state.rows t row) there.is there in
              absurd (none (n, (have.each n).1 (subst (Contains ids) there.is (lists_contains ids id here), (row, at_place)), (row, at_place, ap is_some holding)))

      by : (b : Bool) → lists ids id ≡ b → tuple_at state.rows id ≡ (if b then None else tuple_at state.rows id)
      by false is = refl
      by true is = by_row is (row_of state.rows id) refl

  pub is_blanked : (ids : List ℤ) (those : List ℕ) (lines : List _) (t : Turn) → HaveRows state.rows ids those → Blanks state those lines t → t.refusal ≡ None → IsBlanked state ids t.commit
  is_blanked ids those lines t have (none_held none is) fine = subst (IsBlanked state ids) (sym (ap (λ (x : Turn). x.commit) is)) (record {
    row = unheld_rows ids those have none;
    entry = λ key. refl;
    read = refl;
    drops = λ x. refl;
    told_drops = λ past x. refl;
  })
  is_blanked ids those lines t have (held any is) fine = by (nat_lt state.number most_commits) is
    where
      by : (b : Bool) → t ≡ (if b then commits (Reset those) lines else refused IdsSpent) → IsBlanked state ids t.commit
      by false is = absurd (none-some _ (sym fine ∙ ap (λ (x : Turn). x.refusal) is))
      by true is = subst (IsBlanked state ids) (sym (ap (λ (x : Turn). x.commit) is)) (record {
        row = blanks_rows ids those have;
        entry = λ key. refl;
        read = refl;
        drops = λ x. refl;
        told_drops = λ past x. refl;
      })

-- ---- which ids are reset and asked

-- the ids that are reset by a message, and those that it ends
module _ (resets removed ended : Id → Bool) (x : List Event) (h : Calls) (m : ListenResponse)
    (asks : (t : Id) → is_asked t (Heard (message_of m) ∷ x) ≡ stream.is_asked_in t (came m ∷ h))
    (removes : (t : Id) → resets t ≡ true → removed t ≡ stream.is_asked_in t (came m ∷ h))
    (gone : (t : Id) → ended t ≡ true → stream.is_asked_in t (came m ∷ h) ≡ false) where
  pub reset_requests : ◌≡◌ {A = Id → Bool} (λ t. (resets t || ended t) && is_asked t (Heard (message_of m) ∷ x)) (λ t. resets t && removed t)
  reset_requests = λ i t. each t i
    where
      each : (t : Id) → ((resets t || ended t) && is_asked t (Heard (message_of m) ∷ x)) ≡ (resets t && removed t)
      each t = by (resets t) (ended t) refl refl
        where
          by : (a b : Bool) → resets t ≡ a → ended t ≡ b → ((a || b) && is_asked t (Heard (message_of m) ∷ x)) ≡ (a && removed t)
          by true b is same = asks t ∙ sym (removes t is)
          by false true is same = asks t ∙ gone t same
          by false false is same = refl

-- ---- the client behind such a message

module _ (s : Setting) (c : Client) (state : State) (past : Past) (stands : StandsAs c state past) (m : ListenResponse)
    (wanted resets removed ended : Id → Bool)
    (asks : (t : Id) → is_asked t (Heard (message_of m) ∷ transcript past) ≡ stream.is_asked_in t (came m ∷ calls_of past))
    (removes : (t : Id) → resets t ≡ true → removed t ≡ stream.is_asked_in t (came m ∷ calls_of past))
    (gone : (t : Id) → ended t ≡ true → stream.is_asked_in t (came m ∷ calls_of past) ≡ false)
    (keys : Keys) (commit : Option Commit) where
  abbrev ids : Id → Bool
  ids t = resets t || ended t

  abbrev later : State
  later = after state commit

  abbrev behind : Client
  behind = after_turn s (Resets (message_of m) keys ids) c

  cleared_has : (b : Bool) (o : Option (List Key)) → (if b then None else option_map has o) ≡ option_map has (if b then None else o)
  cleared_has true o = refl
  cleared_has false o = refl

  pub resets_reaches : IsAllowed s c (Resets (message_of m) keys ids)
      → ((key : Key) → entry_at later key ≡ (if keys key then None else entry_at state key))
      → later.last_read ≡ state.last_read
      → ((id : Id) → tuple_at later.rows id ≡ (if ids id then None else tuple_at state.rows id))
      → ((id : Id) (row : Row) → IsRow later.rows id row → (old : Row) × IsRow state.rows id old × (row.target ≡ old.target))
      → ((id : Id) → wanted id ≡ true → told_by id (hears m) commit (calls_of past) (current_keys id past) ≡ (if ids id then None else current_keys id past))
      → ((key : Key) → buffered key (calls_by (hears m) commit (calls_of past)) ≡ buffered key (calls_of past))
      → (d : Client) × Reaches s c d × TakenBy d later wanted (hears m) commit (λ t. resets t && removed t) past
  resets_reaches allowed entry_then read_then row_then row_back current_then waits = (
    behind,
    reach_one s c (Resets (message_of m) keys ids) allowed,
    record {
      entry = λ key. ap (λ o. if keys key then None else o) (stands.entry key) ∙ sym (entry_then key);
      read = stands.read ∙ ap tick_of (sym read_then);
      rows = record {
        row = λ id. ap (λ o. if ids id then None else o) (stands.row id) ∙ sym (row_then id);
        target = λ id row here. let old = row_back id row here in stands.target id old.0 old.1 ∙ sym old.2;
      };
      current = λ id wants. ap (λ o. if ids id then None else o) (stands.current id) ∙ cleared_has (ids id) (current_keys id past) ∙ ap (option_map has) (sym (current_then id wants));
      buffer = λ key. stands.buffer key ∙ ap (option_map seen_entry) (sym (waits key));
      past = (λ i. Unasked (λ t. ids t && is_asked t (Heard (message_of m) ∷ stands.past i)) ∷ Heard (message_of m) ∷ stands.past i)
          ∙ ap (λ f. Unasked f ∷ Heard (message_of m) ∷ transcript past) (reset_requests resets removed ended (transcript past) (calls_of past) m asks removes gone);
    },
  )
