-- a point that is committed
use Rattle.std.proofs.Common.{◌≡◌, ◌≢◌, ◌⊎◌, ⊎_elim, inl, inr, ℕ, ◌≤◌, ℤ, pos, suc, zero, Bool, true, false, not, ◌&&◌, ◌||◌, ◌==◌, nat_le, nat_lt, List, [], ◌∷◌, length, Option, Some, None, IfSome, if◌then◌else◌, refl, sym, ap, subst, ◌∙◌, arith}
use Rattle.std.specs.Prelude.{is_some, option_map}
use Rattle.std.specs.Option.{option_or}
use Rattle.std.specs.List.{Contains}
use Rattle.std.specs.Ordering.{int_eq}
use Rattle.std.proofs.lemmas.Bool.{false≢true, true≢false, and_parts, eqb-true, leb-false}
use Rattle.std.proofs.lemmas.Option.{none-some}
use Rattle.agreement.proofs.Counting.{is_key_equiv, is_key-true, same_id-refl, same_id-true}
use Rattle.agreement.proofs.Ticks.{ticks_ordered}
use Rattle.agreement.specs.Allowed.{IsAbsent, IsAllowed, IsJudged}
use Rattle.agreement.specs.Backend.{Id, Key, Keys, Setting, is_key, tick, tick_of}
use Rattle.agreement.specs.Client.{Client, Hears, Unasks, after as after_turn, heard, pointed}
use Rattle.agreement.specs.Entries as agreed
use Rattle.agreement.specs.Follows.{is_synced, tuple_for, tuple_of}
use Rattle.agreement.specs.MessageTurns.{has}
use Rattle.agreement.specs.Streams.{message_of}
use Rattle.agreement.specs.Transcript.{Change, Event, Heard, Request, Unasked, counts, is_current, point_time, request, told, token}
use Rattle.durable_state.specs.Rows.{held_at, told as told_rows}
use Rattle.durable_state.specs.State.{IsNotBelow, State, committed}
use Rattle.limbo_resolver.specs.Limbo.{is_odd}
use Rattle.listen_protocol.specs.Buffer.{buffered}
use Rattle.listen_protocol.specs.Calls.{Calls, came, is_remove}
use Rattle.listen_protocol.specs.ToldKeys.{told_keys}
use Rattle.listen_protocol.specs.Transcript as stream
use Rattle.outcome_codec.specs.declared.parts.KeyedEntry.{KeyedEntry}
use Rattle.outcome_codec.specs.declared.parts.PointRow.{PointRow}
use Rattle.queries.specs.declared.target.Target.{Target}
use Rattle.queries.specs.declared.target.Target.TheVariants.{Document, Collection}
use Rattle.record_codec.specs.declared.commit.Commit.TheVariants.{Point}
use Rattle.target_cache.specs.Cache.{IsRow, id_at}
use Rattle.target_cache.specs.declared.row.Row.{Row}
use Rattle.value_model.specs.Time.{IsMoment}
use Rattle.value_model.specs.declared.message.ListenResponse.{ListenResponse}
use Rattle.value_model.specs.declared.message.ListenResponse.TheVariants as sent
use Rattle.value_model.specs.declared.message.TargetChange.{TargetChange}
use Rattle.value_model.specs.declared.timestamp.Timestamp.{Timestamp}
use Rattle.watch_aggregator.specs.Effects.{Gives, IsPoint}
use Rattle.watch_aggregator.specs.declared.effect.Effect.TheVariants as effect
use Rattle.watch_points.specs.PointCommit.{IsPointCommit, IsPointRow, LacksDocument}
use Rattle.listen_protocol.proofs.Ids.{counts_live}
use Rattle.client_turns.proofs.Wanted.{cons_cases, first_among, later_among, same_truth}
use Rattle.client_turns.specs.Past.{Past}
use Rattle.client_turns.specs.Settling.{HasTargetRow}
use Rattle.client_turns.specs.Watching.{calls_of, current_keys, hears, is_mismatch, is_point, keys_at_point, passed, told_by, wanted_document}
use Rattle.client_agreement.proofs.Alike.{Alike}
use Rattle.client_agreement.proofs.GoingOut.{TakenBy}
use Rattle.client_agreement.proofs.Odd.{odd_unlistened}
use Rattle.client_agreement.proofs.Reaching.{Reaches, reach_one, reach_then}
use Rattle.client_agreement.proofs.Times.{not_earlier_le, tick_above}
use Rattle.client_agreement.specs.Durable.{entry_at, is_listener, row_of, tuple_at, tuple_with}
use Rattle.client_agreement.specs.Standing.{StandsAs, seen_entry}
use Rattle.client_agreement.specs.Transcript.{transcript}

-- ---- a message that is a point

pub record IsPointAt (m : ListenResponse) (at : Timestamp) : Type 0 where
  pub change : TargetChange
  pub is : m ≡ sent.Target change
  pub stays : is_remove change.kind ≡ false
  pub point : IsPoint change at

pub point_gives : (h : Calls) (m : ListenResponse) (at : Timestamp) → Gives h m (effect.Point at) → IsPointAt m at
point_gives h (sent.Target change) at (inl removes) = absurd removes.1
point_gives h (sent.Target change) at (inr stays) = record { change = change; is = refl; stays = stays.0; point = stays.1 }
point_gives h (sent.Change change) at gives = absurd cc
point_gives h (sent.Delete delete) at gives = absurd cc
point_gives h (sent.Remove remove) at gives = absurd cc
point_gives h (sent.Filter f) at gives = absurd (by _ gives)
  where
    by : (b : Bool) → effect.Point at ≡ (if b then effect.Mismatch f.target_id (length (told_keys f.target_id h)) f.count else effect.Nothing) → ⊥
    by true same = cc
    by false same = cc

time_at : (kind : _) (ids : List ℤ) (token : List ℕ) (time : Option Timestamp) (at : Timestamp) → is_remove kind ≡ false → ids ≡ [] → time ≡ Some at → point_time (Heard (Change kind ids token (tick_of time))) ≡ tick at
time_at kind [] token time at stays all is = ap (λ (b : Bool). if b then 0 else tick_of time) stays ∙ ap tick_of is
time_at kind (id ∷ ids) token time at stays all is = absurd cc

pub point_at : (m : ListenResponse) (at : Timestamp) → IsPointAt m at → point_time (Heard (message_of m)) ≡ tick at
point_at m at it = ap (λ x. point_time (Heard (message_of x))) it.is ∙ time_at it.change.kind it.change.target_ids it.change.resume_token it.change.read_time at it.stays it.point.all it.point.time

pub point_is : (m : ListenResponse) (at : Timestamp) → IsPointAt m at → is_point m ≡ true
point_is m at it = ap is_point it.is ∙ (λ i. (length (it.point.all i) == 0) && is_some (it.point.time i))

pub point_judged : (s : Setting) (x : List Event) (m : ListenResponse) (at : Timestamp) → IsPointAt m at → IsJudged s x (message_of m)
point_judged s x m at it = subst (λ (y : ListenResponse). IsJudged s x (message_of y)) (sym it.is) tt

-- ---- whether a list of rows has one of an id

data RowFor (points : List PointRow) (id : Id) : Type 0 where
  found : (p : PointRow) → Contains points p → pos p.id ≡ id → RowFor points id
  none : ((p : PointRow) → Contains points p → (pos p.id ≡ id → ⊥)) → RowFor points id

row_for : (points : List PointRow) (id : Id) → RowFor points id
row_for [] id = none (λ p here. let short = here.1 in absurd (omega (arith, short)))
row_for (p ∷ points) id = by (int_eq (pos p.id) id) refl (row_for points id)
  where
    by : (b : Bool) → int_eq (pos p.id) id ≡ b → RowFor points id → RowFor (p ∷ points) id
    by true is rest = found p (first_among p points) (same_id-true (pos p.id) id is)
    by false is (found q here same) = found q (later_among p q points here) same
    by false is (none others) = none (λ q here same. ⊎_elim
        (λ first. true≢false (sym (ap (λ (x : ℤ). int_eq x id) (ap (λ (r : PointRow). pos r.id) first ∙ same) ∙ same_id-refl id) ∙ is))
        (λ later. others q later same)
        (cons_cases p q points here))

-- the list has the key exactly where it is among its keys
has_first : (key k : Key) (keys : List Key) → is_key key k ≡ true → has (k ∷ keys) key ≡ true
has_first key k keys is = ap (λ (b : Bool). b || has keys key) is

pub has_contains : (keys : List Key) (key : Key) → has keys key ≡ true → Contains keys key
has_contains [] key here = absurd (false≢true here)
has_contains (k ∷ keys) key here = by (has_contains keys key) (is_key key k) refl here
  where
    by : (has keys key ≡ true → Contains keys key) → (b : Bool) → is_key key k ≡ b → (b || has keys key) ≡ true → Contains (k ∷ keys) key
    by rest true is here = subst (Contains (k ∷ keys)) (sym (is_key-true key k is)) (first_among k keys)
    by rest false is here = later_among k key keys (rest here)

pub contains_has : (keys : List Key) (key : Key) → Contains keys key → has keys key ≡ true
contains_has [] key here = let short = here.1 in absurd (omega (arith, short))
contains_has (k ∷ keys) key here = ⊎_elim
    (λ same. has_first key k keys (subst (λ (x : Key). is_key key x ≡ true) (sym same) (is_key_equiv.refl key)))
    (λ later. by (is_key key k) (contains_has keys key later))
    (cons_cases k key keys here)
  where
    by : (b : Bool) → has keys key ≡ true → (b || has keys key) ≡ true
    by true is = refl
    by false is = is

pub told_has : {x : List Event} {h : Calls} → Alike x h → (id : Id) → stream.counts id h ≡ true → told id x ≡ has (told_keys id h)
told_has {x} {h} alike id counting = λ i key. same_truth (told id x key) (has (told_keys id h) key)
    (λ yes. contains_has (told_keys id h) key ((alike.tells id key counting).0 yes))
    (λ yes. (alike.tells id key counting).1 (has_contains (told_keys id h) key yes)) i

document_query : (query : Target) (key : Key) → Some key ≡ wanted_document query → query ≡ Document key
document_query (Document wanted) key is = let same : key ≡ wanted = cc in ap Document (sym same)
document_query (Collection target) key is = absurd cc

-- a number above 0 isn't 0
pub suc_nonzero : (n : ℕ) → (suc n == 0) ≡ false
suc_nonzero n = by (suc n == 0) refl
  where
    by : (b : Bool) → (suc n == 0) ≡ b → b ≡ false
    by false is = refl
    by true is = let same = eqb-true (suc n) 0 is in absurd (omega (arith, same))

-- ---- the client behind the point

module _ (s : Setting) (listens : s.listens ≡ is_listener) (c : Client) (state : State) (past : Past) (stands : StandsAs c state past) (m : ListenResponse)
    (alike : Alike (Heard (message_of m) ∷ transcript past) (came m ∷ calls_of past))
    (same_token : (id : Id) → stream.counts id (came m ∷ calls_of past) ≡ true → token id (Heard (message_of m) ∷ transcript past) ≡ stream.token_in id (came m ∷ calls_of past))
    (asked_known : (t : Id) → stream.is_wanted t (came m ∷ calls_of past) ≡ true → HasTargetRow state.rows t ⊎ (is_odd t ≡ true))
    (asked_query : (id : Id) (opening : Request) (row : Row) → request id (transcript past) ≡ Some opening → IsRow state.rows id row → opening.query ≡ row.target)
    (row_there : (id : Id) (row : Row) → IsRow state.rows id row → row_of state.rows id ≡ Some row)
    (row_even : (id : Id) (row : Row) → IsRow state.rows id row → is_listener id ≡ true)
    (wanted resets : Id → Bool) (wanted_row : (t : Id) → wanted t ≡ true → HasTargetRow state.rows t)
    (at : Timestamp) (is : IsPointAt m at) (entries : List KeyedEntry) (rows : List PointRow)
    (commits : IsPointCommit state (came m ∷ calls_of past) at entries rows) where
  abbrev h : Calls
  h = came m ∷ calls_of past

  abbrev x : List Event
  x = Heard (message_of m) ∷ transcript past

  abbrev later : State
  later = committed state (Point at entries rows)

  waits_before : (key : Key) → buffered key h ≡ buffered key (calls_of past)
  waits_before key = ap (λ y. buffered key (came y ∷ calls_of past)) is.is

  wanted_counts : (id : Id) → stream.counts id h ≡ true → stream.is_wanted id h ≡ true
  wanted_counts id counting = (counts_live id h counting).0

  -- the tuple of an id with a row of the point
  tuple_same : (id : Id) (p : PointRow) (row : Row) → pos p.id ≡ id → IsRow state.rows id row → IsPointRow state h p → tuple_of s (tick at) x id ≡ Some (tuple_with row.target (held_at at p))
  tuple_same id p row same there it =
      conditions ∙ by (request id x) refl
    where
      counting : stream.counts id h ≡ true
      counting = subst (λ (t : Id). stream.counts t h ≡ true) same it.counting

      current : is_current id x ≡ true
      current = alike.current id counting ∙ subst (λ (t : Id). stream.is_current_in t h ≡ true) same it.current

      token_is : token id x ≡ p.token
      token_is = same_token id counting ∙ ap (λ (t : Id). stream.token_in t h) (sym same) ∙ sym it.token

      some_token : (bytes : List ℕ) → bytes ≢ [] → not (length bytes == 0) ≡ true
      some_token [] some = absurd (some refl)
      some_token (byte ∷ bytes) some = ap not (suc_nonzero (length bytes))

      own : s.listens id ≡ true
      own = ap (λ f. f id) listens ∙ row_even id row there

      synced : is_synced s x id ≡ true
      synced = (λ i. own i && (alike.counting id i && current i)) ∙ ap (λ (b : Bool). b && true) counting

      conditions : tuple_of s (tick at) x id ≡ option_map (tuple_for (tick at) x id) (request id x)
      conditions =
          (λ i. if tick_above at i && (synced i && not (length (token_is i) == 0)) then option_map (tuple_for (tick at) x id) (request id x) else None)
          ∙ ap (λ (b : Bool). if b then option_map (tuple_for (tick at) x id) (request id x) else None) (some_token p.token it.some)

      keys : told id x ≡ has p.keys
      keys = told_has alike id counting ∙ ap has (ap (λ (t : Id). told_keys t h) (sym same) ∙ sym it.told)

      by : (o : Option Request) → request id x ≡ o → option_map (tuple_for (tick at) x id) o ≡ Some (tuple_with row.target (held_at at p))
      by None off = let asking = alike.requested id (wanted_counts id counting) in absurd (none-some _ (sym off ∙ asking.1))
      by (Some opening) here =
          let query : opening.query ≡ row.target = asked_query id opening row here there in
          λ i. Some (record { token = token_is i; query = query i; version = tick at; keys = keys i })

  -- an id without a row of the point has no tuple
  tuple_none : (id : Id) → ((p : PointRow) → Contains rows p → (pos p.id ≡ id → ⊥)) → tuple_of s (tick at) x id ≡ None
  tuple_none id others = by (is_synced s x id && not (length (token id x) == 0)) refl
    where
      by_row : is_synced s x id ≡ true → not (length (token id x) == 0) ≡ true → HasTargetRow state.rows id ⊎ (is_odd id ≡ true) → ⊥
      by_row synced some (inr odd) =
          true≢false (sym (ap (λ f. f id) (sym listens) ∙ (and_parts (s.listens id) (counts id x && is_current id x) synced).0) ∙ odd_unlistened id odd)
      by_row synced some (inl there) =
          let parts = and_parts (counts id x) (is_current id x) (and_parts (s.listens id) (counts id x && is_current id x) synced).1 in
          let counting : stream.counts id h ≡ true = sym (alike.counting id) ∙ parts.0 in
          let at_place : id ≡ pos (id_at there.1.place) = there.1.is in
          let n = id_at there.1.place in
          let p : PointRow = record { id = n; token = stream.token_in id h; keys = told_keys id h } in
          others p ((commits.has p).1 (record {
            known = (there.0, subst (λ (t : Id). IsRow state.rows t there.0) at_place there.1);
            counting = subst (λ (t : Id). stream.counts t h ≡ true) at_place counting;
            current = subst (λ (t : Id). stream.is_current_in t h ≡ true) at_place (sym (alike.current id counting) ∙ parts.1);
            token = ap (λ (t : Id). stream.token_in t h) at_place;
            some = λ empty. true≢false (sym some ∙ ap (λ (bytes : List ℕ). not (length bytes == 0)) (same_token id counting ∙ empty));
            told = ap (λ (t : Id). told_keys t h) at_place;
          })) (sym at_place)

      by : (b : Bool) → (is_synced s x id && not (length (token id x) == 0)) ≡ b → tuple_of s (tick at) x id ≡ None
      by false off = ap (λ (b : Bool). if nat_lt 0 (tick at) && b then option_map (tuple_for (tick at) x id) (request id x) else None) off ∙ never (nat_lt 0 (tick at))
        where
          never : (b : Bool) → (if b && false then option_map (tuple_for (tick at) x id) (request id x) else None) ≡ None
          never true = refl
          never false = refl
      by true on =
          let parts = and_parts (is_synced s x id) (not (length (token id x) == 0)) on in
          let counting = (and_parts (counts id x) (is_current id x) (and_parts (s.listens id) (counts id x && is_current id x) parts.0).1).0 in
          absurd (by_row parts.0 parts.1 (asked_known id (wanted_counts id (sym (alike.counting id) ∙ counting))))

  module _ (told_tuple : (p : PointRow) → Contains rows p → (id : Id) → pos p.id ≡ id → (row : Row) → row_of state.rows id ≡ Some row → tuple_at (told_rows at rows state.rows) id ≡ Some (tuple_with row.target (held_at at p)))
      (untold_tuple : (id : Id) → ((p : PointRow) → Contains rows p → (pos p.id ≡ id → ⊥)) → tuple_at (told_rows at rows state.rows) id ≡ tuple_at state.rows id)
      (row_stays : (id : Id) (row : Row) → IsRow later.rows id row → (old : Row) × IsRow state.rows id old × (row.target ≡ old.target))
      (missing : Keys) (lacks : (key : Key) → missing key ≡ true → (t : ℤ) × LacksDocument h key t)
      (entry_then : (key : Key) → entry_at later key ≡ agreed.with_missing (missing key) (tick at) (agreed.settled (entry_at state key) (option_map seen_entry (buffered key h))))
      (below : IsNotBelow state.last_read at) (moment : IsMoment at) (last_moment : IfSome state.last_read IsMoment) where
    row_then : (id : Id) → option_or (tuple_of s (tick at) x id) (tuple_at state.rows id) ≡ tuple_at later.rows id
    row_then id = by (row_for rows id)
      where
        by : RowFor rows id → option_or (tuple_of s (tick at) x id) (tuple_at state.rows id) ≡ tuple_at later.rows id
        by (found p here same) =
            let it = (commits.has p).0 here in
            let row = it.known.0 in
            let there : IsRow state.rows id row = subst (λ (t : Id). IsRow state.rows t row) same it.known.1 in
            ap (λ o. option_or o (tuple_at state.rows id)) (tuple_same id p row same there it) ∙ sym (told_tuple p here id same row (row_there id row there))
        by (none others) = ap (λ o. option_or o (tuple_at state.rows id)) (tuple_none id others) ∙ sym (untold_tuple id others)

    current_then : (id : Id) → wanted id ≡ true → (if is_synced s x id then Some (told id x) else None) ≡ option_map has (keys_at_point id h)
    current_then id wants =
        let there = wanted_row id wants in
        let own : s.listens id ≡ true = ap (λ f. f id) listens ∙ row_even id there.0 there.1 in
        (λ i. if own i && (alike.counting id i && is_current id x) then Some (told id x) else None) ∙ by (stream.counts id h) refl
      where
        by : (b : Bool) → stream.counts id h ≡ b → (if b && is_current id x then Some (told id x) else None) ≡ option_map has (if b && stream.is_current_in id h then Some (told_keys id h) else None)
        by false off = refl
        by true on = (λ i. if alike.current id on i then Some (told_has alike id on i) else None) ∙ go (stream.is_current_in id h)
          where
            go : (b : Bool) → (if b then Some (has (told_keys id h)) else None) ≡ option_map has (if b then Some (told_keys id h) else None)
            go true = refl
            go false = refl

    le_read : nat_le c.read (tick at) ≡ true
    le_read = ap (λ n. nat_le n (tick at)) stands.read ∙ by state.last_read below last_moment
      where
        le_true : (n : ℕ) → n ≤ tick at → nat_le n (tick at) ≡ true
        le_true n le = go (nat_le n (tick at)) refl
          where
            go : (b : Bool) → nat_le n (tick at) ≡ b → nat_le n (tick at) ≡ true
            go true same = same
            go false same = let less = leb-false n (tick at) same in absurd (omega (arith, less, le))

        by : (last : Option Timestamp) → IsNotBelow last at → IfSome last IsMoment → nat_le (tick_of last) (tick at) ≡ true
        by None below moments = le_true 0 (omega arith)
        by (Some last) below moments = le_true (tick last) (not_earlier_le at last moment moments below)

    abbrev there : Client
    there = pointed s (tick at) missing (Heard (message_of m) ∷ c.past) c

    hears_point : after_turn s (Hears (message_of m) missing) c ≡ there
    hears_point = ap (λ n. heard s (message_of m) missing n c) (point_at m at is) ∙ go (tick at) refl
      where
        go : (n : ℕ) → n ≡ tick at → heard s (message_of m) missing n c ≡ there
        go zero same = let positive = ticks_ordered.positive at in absurd (omega (arith, same, positive))
        go (suc r) same = ap (λ (b : Bool). if b then pointed s (suc r) missing (Heard (message_of m) ∷ c.past) c else record c { past = Heard (message_of m) ∷ c.past }) (ap (nat_le c.read) same ∙ le_read)
            ∙ ap (λ n. pointed s n missing (Heard (message_of m) ∷ c.past) c) same

    absent : (key : Key) → missing key ≡ true → (id : Id) × IsAbsent (Heard (message_of m) ∷ c.past) key id
    absent key gone =
        let it = lacks key gone in
        let found = alike.requested it.0 (wanted_counts it.0 it.1.counting) in (
          it.0,
          subst (λ (y : List Event). IsAbsent (Heard (message_of m) ∷ y) key it.0) (sym stands.past) (record {
            opening = found.0;
            requested = found.1;
            document = document_query found.0.query key (sym it.1.document ∙ found.2);
            counting = alike.counting it.0 ∙ it.1.counting;
            current = alike.current it.0 it.1.counting ∙ it.1.current;
            untold = untold it.0 (told it.0 x key) refl it.1.counting it.1.untold;
          }),
        )
      where
        untold : (t : Id) (b : Bool) → told t x key ≡ b → stream.counts t h ≡ true → ¬ (Contains (told_keys t h) key) → told t x key ≡ false
        untold t false off counting not = off
        untold t true on counting not = absurd (not ((alike.tells t key counting).0 on))

    allowed : IsAllowed s c (Hears (message_of m) missing)
    allowed = (point_judged s c.past m at is, absent)

    abbrev behind : Client
    behind = after_turn s (Unasks resets) there

    pub point_reaches : (d : Client) × Reaches s c d × TakenBy d later wanted (hears m) (Some (Point at entries rows)) resets past
    point_reaches = (
      behind,
      reach_then s (subst (Reaches s c) hears_point (reach_one s c (Hears (message_of m) missing) allowed)) (reach_one s there (Unasks resets) tt),
      record {
        entry = λ key.
            (λ i. agreed.with_missing (missing key) (tick at) (agreed.settled (stands.entry key i) (stands.buffer key i)))
            ∙ ap (λ o. agreed.with_missing (missing key) (tick at) (agreed.settled (entry_at state key) (option_map seen_entry o))) (sym (waits_before key))
            ∙ sym (entry_then key);
        read = refl;
        rows = record {
          row = λ id. (λ i. option_or (tuple_of s (tick at) (Heard (message_of m) ∷ stands.past i) id) (stands.row id i)) ∙ row_then id;
          target = λ id row here. let old = row_stays id row here in stands.target id old.0 old.1 ∙ sym old.2;
        };
        current = λ id wants.
            (λ i. if is_synced s (Heard (message_of m) ∷ stands.past i) id then Some (told id (Heard (message_of m) ∷ stands.past i)) else None)
            ∙ current_then id wants ∙ ap (option_map has) (sym (told_at id));
        buffer = λ key. sym (ap (option_map seen_entry) (passed_none key));
        past = ap (λ y. Unasked resets ∷ Heard (message_of m) ∷ y) stands.past;
      },
    )
      where
        told_at : (id : Id) → told_by id (hears m) (Some (Point at entries rows)) (calls_of past) (current_keys id past) ≡ keys_at_point id h
        told_at id = ap (λ (b : Bool). if b && true then keys_at_point id h else if is_mismatch (calls_of past) m id || false then None else current_keys id past) (point_is m at is)

        passed_none : (key : Key) → buffered key (passed (is_point m) (Some (Point at entries rows)) h) ≡ None
        passed_none key = ap (λ (b : Bool). buffered key (passed b (Some (Point at entries rows)) h)) (point_is m at is)
