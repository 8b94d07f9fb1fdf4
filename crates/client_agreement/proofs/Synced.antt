-- A snapshot that isn't from the cache is one of the theorem of agreement.
use Rattle.std.proofs.Common.{◌≡◌, ◌∙◌, ◌⊎◌, ⊎_elim, inl, inr, ℕ, ◌<◌, ℤ, Bool, true, false, List, [], ◌∷◌, ◌++◌, map as each, Option, Some, None, IfSome, option_map, if◌then◌else◌, refl, sym, ap, subst, arith}
use Rattle.std.specs.List.{AllPairs, Contains}
use Rattle.std.specs.Option.{option_and_then}
use Rattle.std.proofs.lemmas.Bool.{false≢true, true≢false}
use Rattle.std.proofs.lemmas.List.Elements.{All-contains, Contains-append_cases}
use Rattle.std.proofs.lemmas.Option.{none-some, same_Some}
use Rattle.agreement.specs.Agrees.{Agrees, IsSynced, IsTouched}
use Rattle.agreement.specs.Backend.{DocumentsStand, Id, Key, Setting}
use Rattle.agreement.specs.Client.{Client}
use Rattle.agreement.proofs.Agreement.{agreement}
use Rattle.agreement.specs.Entries as agreed
use Rattle.agreement.specs.MessageTurns.{has}
use Rattle.agreement.specs.Sound.{Live, Sound}
use Rattle.agreement.specs.Transcript as transcript
use Rattle.client_events.specs.declared.event.Event.{Event}
use Rattle.document_keys.specs.KeySet.{is_key}
use Rattle.document_keys.specs.Names.{Root}
use Rattle.durable_state.proofs.Laid.{among_in, in_among}
use Rattle.durable_state.specs.Documents.{documents_of, is_among, is_named, touched_keys_of}
use Rattle.durable_state.specs.State.{State}
use Rattle.mutation_queue.proofs.Tables.{same_itself}
use Rattle.queries.proofs.Counting.{pairs_tail}
use Rattle.queries.specs.Answer.{IsAnswer}
use Rattle.queries.specs.Checked.{IsChecked}
use Rattle.queries.specs.declared.target.Target.{Target}
use Rattle.target_cache.specs.Cache.{HasTarget}
use Rattle.value_model.specs.Documents.{DocumentMap}
use Rattle.value_model.specs.declared.document.RpcStatus.{RpcStatus}
use Rattle.value_model.specs.declared.timestamp.Timestamp.{Timestamp}
use Rattle.views.specs.Limbo.{IsInLimbo}
use Rattle.views.specs.Picks.{Picks, none, takes, leaves}
use Rattle.views.specs.Refresh as showing
use Rattle.views.specs.Row.{Prints}
use Rattle.views.specs.Viewed.{Viewed}
use Rattle.views.specs.declared.raised.Raised.{Raised}
use Rattle.views.specs.declared.standing.Standing.{Standing}
use Rattle.client_turns.specs.Lines.{Line, Told, add, document, error, listening, rejected, remove, result, send, snapshot, unlistened, wrote}
use Rattle.client_turns.specs.Order.{AreHeard, now}
use Rattle.client_turns.specs.Past.{Entry, Past, Turn, asked, is_refused_in, listener, raised_in, told, unless_refused}
use Rattle.client_turns.specs.Settling.{IsBelow, Shows, ShowsAt, Stance, current_with, stance_of, standing_or, told_to}
use Rattle.client_turns.specs.Turn.{answered_next, is_heard, snapshot_line}
use Rattle.client_turns.specs.Turns.{after}
use Rattle.client_turns.specs.Watching.{begun_by, current_keys, listened, listened_by}
use Rattle.client_turns.proofs.Ones.{head_below, told_first, told_later}
use Rattle.client_turns.proofs.Reading.{current_behind}
use Rattle.client_turns.proofs.Wanted.{any_at, cons_cases, first_among, later_among}
use Rattle.client_agreement.specs.Durable.{client_of}
use Rattle.client_agreement.specs.Laws.{SnapshotAgrees}
use Rattle.client_agreement.specs.Standing.{AreSpelled, HasMoments, StandsAs}
use Rattle.client_agreement.proofs.Listening.{Every, IsAnswered, IsBehind, IsPlain, IsRequest, Moves, answer_behind, answer_commit, answer_lines, answer_listened, answer_refusal, answer_refused, answered_turn, begins, every_weaker, fold_every, listened_plain, listener_row, moves_of, passes, refuses, stops}
use Rattle.client_agreement.proofs.Touched.{agrees_moves, local_documents, touched_is, touched_moves}

-- ---- a snapshot among lines

-- no snapshot
abbrev IsOther : Line → Type 0
IsOther (snapshot number read_time told) = ⊥
IsOther _ = Unit {0}

plain_other : (line : Line) → IsPlain line → IsOther line
plain_other (wrote b c) is = tt
plain_other (listening i t c) is = tt
plain_other (unlistened i c) is = tt
plain_other (document k d w) is = tt
plain_other (result b c t) is = tt
plain_other (rejected b c t) is = tt
plain_other (error i t) is = tt
plain_other (snapshot c r t) is = is
plain_other (add t row) is = tt
plain_other (remove t) is = tt
plain_other (send r) is = tt

errors_other : (status : RpcStatus) (listeners : List ℕ) → Every IsOther (each (λ l. error l status) listeners)
errors_other status [] = tt
errors_other status (l ∷ listeners) = (tt, errors_other status listeners)

-- an answer has no snapshot
moves_other : (s : State) (e : Event) (t : Turn) → Moves s e t → Every IsOther t.lines
moves_other s e t (begins id query target number is has lines) = subst (Every IsOther) (sym lines) (tt, tt)
moves_other s e t (stops id number is lines) = subst (Every IsOther) (sym lines) (tt, tt)
moves_other s e t (refuses status listeners response is lines) = subst (Every IsOther) (sym lines) (errors_other status listeners)
moves_other s e t (passes still plain) = every_weaker IsPlain IsOther plain_other t.lines plain

every_contains : (P : Line → Type 0) (lines : List Line) (line : Line) → Every P lines → Contains lines line → P line
every_contains P [] line all there = absurd (omega (arith, there.1))
every_contains P (x ∷ lines) line all there = ⊎_elim (λ (same : x ≡ line). subst P same all.0) (λ later. every_contains P lines line all.1 later) (cons_cases x line lines there)

same_snapshot : (n m : ℕ) (r q : Option Timestamp) (t u : Told) → snapshot n r t ≡ snapshot m q u → (t ≡ u) × (r ≡ q)
same_snapshot n m r q t u same = (cc, cc)

snapshot_among : (s : State) (ts : List Told) (number : ℕ) (read_time : Option Timestamp) (t : Told) → Contains (each (snapshot_line s) ts) (snapshot number read_time t) → Contains ts t × (read_time ≡ s.last_read)
snapshot_among s [] number read_time t there = absurd (omega (arith, there.1))
snapshot_among s (u ∷ ts) number read_time t there = ⊎_elim
    (λ here. let both = same_snapshot s.number number s.last_read read_time u t here in (subst (Contains (u ∷ ts)) both.0 (first_among u ts), sym both.1))
    (λ later. let it = snapshot_among s ts number read_time t later in (later_among u t ts it.0, it.1))
    (cons_cases (snapshot_line s u) (snapshot number read_time t) (each (snapshot_line s) ts) there)

-- the snapshot of a listener is the one that is told to it
told_among : (ts : List Told) (t : Told) → AllPairs IsBelow ts → Contains ts t → told_to t.id ts ≡ Some t.raised
told_among [] t pairs there = absurd (omega (arith, there.1))
told_among (u ∷ ts) t pairs there = ⊎_elim
    (λ (same : u ≡ t). subst (λ (x : Told). told_to x.id (u ∷ ts) ≡ Some x.raised) same (told_first u ts))
    (λ later. told_later t.id u ts (λ same. below same (All-contains (λ (x : Told). u.id < x.id) ts t (head_below u ts pairs) later)) ∙ told_among ts t (pairs_tail IsBelow u ts pairs) later)
    (cons_cases u t ts there)
  where
    below : u.id ≡ t.id → u.id < t.id → ⊥
    below same less = omega (arith, same, less)

-- ---- what a listener shows that isn't from the cache

shows_at : (root : Root) (s : State) (stance : Stance) (view : Option Viewed) (raised : Raised) → ShowsAt root s stance view (Some raised) → (v : Viewed) × (view ≡ Some v) × Shows root s stance v (Some raised)
shows_at root s stance None raised is = absurd (none-some raised (sym is))
shows_at root s stance (Some v) raised it = (v, refl, it)

told_target : (raised : Option Raised) (o : Option Viewed) (a : Viewed) → told raised o ≡ Some a → (w : Viewed) × (o ≡ Some w) × (w.target ≡ a.target)
told_target None o a is = (a, is, refl)
told_target (Some raised) None a is = absurd (none-some a is)
told_target (Some raised) (Some w) a is = (w, refl, ap (λ (x : Viewed). x.target) (same_Some (record { target = w.target; raised = Some raised }) a is))

-- a listener asks for the same before and after its snapshot
same_target : (one two : Option Raised) (o : Option Viewed) (a b : Viewed) → told one o ≡ Some a → told two o ≡ Some b → a.target ≡ b.target
same_target one two o a b first second =
    let left = told_target one o a first in
    let right = told_target two o b second in
    sym left.2 ∙ ap (λ (x : Viewed). x.target) (same_Some left.0 right.0 (sym left.1 ∙ right.1)) ∙ right.2

picks_none : {X : Type 0} (P : X → Type 0) (xs ys : List X) → Picks P xs ys → ys ≡ [] → (x : X) → Contains xs x → P x → ⊥
picks_none P _ _ none empty x there holds = absurd (omega (arith, there.1))
picks_none P _ _ (takes y xs ys first rest) empty x there holds = cc
picks_none P _ _ (leaves y xs ys never rest) empty x there holds = ⊎_elim
    (λ (same : y ≡ x). never (subst P (sym same) holds))
    (λ later. picks_none P xs ys rest empty x later holds)
    (cons_cases y x xs there)

-- What is shown that isn't from the cache: the rows are those of an answer, the target is current, and no key of the answer is
-- in limbo.
record IsFresh (root : Root) (documents : DocumentMap) (touched : List Key) (standing : Standing) (query : Target) (raised : Raised) : Type 0 where
  answer : List Key
  is_answer : IsAnswer query root documents answer
  rows : Prints documents answer raised.rows
  current : standing.current ≡ true
  unlimboed : (key : Key) → Contains answer key → IsInLimbo standing touched key → ⊥

fresh_of : (root : Root) (s : State) (stance : Stance) (view : Viewed) (raised : Raised) → Shows root s stance view (Some raised) → raised.from_cache ≡ false → IsFresh root (documents_of s) (touched_keys_of s) stance.standing view.target raised
fresh_of root s stance view raised it flag = record {
  answer = it.refreshes.answer;
  is_answer = it.refreshes.is_answer;
  rows = shown.rows;
  current = both.0;
  unlimboed = picks_none (IsInLimbo stance.standing (touched_keys_of s)) it.refreshes.answer it.refresh.limbo.items it.refreshes.limbo both.1;
}
  where
    is_raised : (b : Bool) → Some raised ≡ (if b then it.new.raised else None) → it.new.raised ≡ Some raised
    is_raised true is = sym is
    is_raised false is = absurd (none-some raised (sym is))

    shown : showing.Shows (documents_of s) it.refreshes.answer it.refreshes.from_cache raised
    shown = subst (λ (o : Option Raised). IfSome o (showing.Shows (documents_of s) it.refreshes.answer it.refreshes.from_cache)) (is_raised it.refresh.raised it.is) it.refreshes.shows

    both : (stance.standing.current ≡ true) × (it.refresh.limbo.items ≡ [])
    both = it.refreshes.flag.0 (sym shown.flag ∙ flag)

-- a target that stands as current is so with the keys that it stands with
stands_with : (o : Option (List Key)) → (standing_or (option_map current_with o)).current ≡ true → (keys : List Key) × (o ≡ Some keys) × ((standing_or (option_map current_with o)).keys ≡ keys)
stands_with None is = absurd (false≢true is)
stands_with (Some keys) is = (keys, refl, refl)

stands_current : (link : Option ℤ) (f : ℤ → Option (List Key)) (t : ℤ) → link ≡ Some t → (standing_or (option_and_then (λ x. option_map current_with (f x)) link)).current ≡ true
    → (keys : List Key) × (f t ≡ Some keys) × ((standing_or (option_and_then (λ x. option_map current_with (f x)) link)).keys ≡ keys)
stands_current None f t is so = absurd (none-some t is)
stands_current (Some x) f t is so =
    let same = same_Some x t is in
    let it = stands_with (f x) so in
    (it.0, subst (λ (y : ℤ). f y ≡ Some it.0) same it.1, it.2)

-- ---- the theorem's snapshot

-- A snapshot that isn't from the cache has the read time of the state, and the rows of an answer that is synced for the
-- theorem's client, under the id of the target.
pub record IsSyncedRaised (s : Setting) (state : State) (c : Client) (query : Target) (read_time : Option Timestamp) (raised : Raised) : Type 0 where
  pub read : read_time ≡ state.last_read
  pub id : Id
  pub answer : List Key
  pub same : c.target id ≡ query
  pub rows : Prints (documents_of state) answer raised.rows
  pub synced : IsSynced s (is_named state) c (documents_of state) id answer

module _ (root : Root) (state : State) (next : Past) (s : Setting) (c : Client) (at_root : s.root ≡ root) (moments : HasMoments state) (stands : StandsAs c state next) where
  touched_for : (key : Key) → Contains (touched_keys_of state) key → IsTouched (is_named state) c key
  touched_for key there = touched_moves (is_named state) (client_of state) c (λ i k. sym (stands.entry k) i) (sym stands.read) key ((touched_is state moments key).0 there)

  -- a key that isn't in limbo is among the current ones, or touched
  settled_key : (standing : Standing) (keys : List Key) → standing.current ≡ true → standing.keys ≡ keys → (key : Key) → (IsInLimbo standing (touched_keys_of state) key → ⊥) → (has keys key ≡ true) ⊎ IsTouched (is_named state) c key
  settled_key standing keys current same key never = by (has keys key) refl (is_among (touched_keys_of state) key) refl
    where
      by : (a : Bool) → has keys key ≡ a → (b : Bool) → is_among (touched_keys_of state) key ≡ b → (has keys key ≡ true) ⊎ IsTouched (is_named state) c key
      by true told b touched = inl told
      by false told true touched = inr (touched_for key (among_in key (touched_keys_of state) touched))
      by false told false touched = absurd (never (record {
        current = current;
        not_told = λ there. true≢false (sym (any_at (is_key key) keys key (subst (λ (ks : List Key). Contains ks key) same there) (same_itself key)) ∙ told);
        not_touched = λ there. true≢false (sym (in_among key (touched_keys_of state) there) ∙ touched);
      }))

  synced_of : (told : Told) (view : Viewed) (was : Past) (old : Viewed) (read_time : Option Timestamp) → read_time ≡ state.last_read → Shows root state (stance_of was told.id) old (Some told.raised) → told.raised.from_cache ≡ false → old.target ≡ view.target
      → listened told.id next ≡ listened told.id was → ((x : ℤ) → current_keys x next ≡ current_keys x was)
      → (t : ℤ) × (listened told.id next ≡ Some t) × HasTarget state.rows view.target t × IsChecked view.target → IsSyncedRaised s state c view.target read_time told.raised
  synced_of told view was old read_time read shows flag target links currents row = record {
    read = read;
    id = row.0;
    answer = fresh.answer;
    same = same;
    rows = fresh.rows;
    synced = record {
      checked = subst IsChecked (sym same) row.3;
      answer = subst (λ (q : Target). IsAnswer q s.root (documents_of state) fresh.answer) (target ∙ sym same) (subst (λ (r : Root). IsAnswer old.target r (documents_of state) fresh.answer) (sym at_root) fresh.is_answer);
      keys = has held.0;
      current = stands.current row.0 ∙ ap (option_map has) (currents row.0 ∙ held.1);
      no_limbo = λ key there. settled_key (stance_of was told.id).standing held.0 fresh.current held.2 key (fresh.unlimboed key there);
    };
  }
    where
      fresh : IsFresh root (documents_of state) (touched_keys_of state) (stance_of was told.id).standing old.target told.raised
      fresh = fresh_of root state (stance_of was told.id) old told.raised shows flag

      same : c.target row.0 ≡ view.target
      same = stands.target row.0 row.2.row row.2.of_id ∙ row.2.same

      held : (keys : List Key) × (current_keys row.0 was ≡ Some keys) × ((stance_of was told.id).standing.keys ≡ keys)
      held = stands_current (listened told.id was) (λ x. current_keys x was) row.0 (sym links ∙ row.1) fresh.current

-- ---- of what was heard

begun_plain : (ids : List ℕ) (line : Line) → IsBehind line → begun_by ids line ≡ ids
begun_plain ids (wrote b c) is = refl
begun_plain ids (listening i t c) is = absurd is
begun_plain ids (unlistened i c) is = refl
begun_plain ids (document k d w) is = refl
begun_plain ids (result b c t) is = refl
begun_plain ids (rejected b c t) is = refl
begun_plain ids (error i t) is = refl
begun_plain ids (snapshot c r t) is = refl
begun_plain ids (add t row) is = refl
begun_plain ids (remove t) is = refl
begun_plain ids (send r) is = refl

module _ (root : Root) (e : Entry) (past : Past) (a : IsAnswered root e.state past e.event e.turn) where
  abbrev more : List Line
  more = each (snapshot_line (after e.state a.answer.commit)) a.snapshots ++ a.requested

  -- the past with the event as it was answered
  abbrev was : Past
  was = answered_next e.state past e.event a.answer

  current_answered : (x : ℤ) → current_keys x (e ∷ past) ≡ current_keys x was
  current_answered x = ap (λ (u : Turn). current_keys x (answered_next e.state past e.event u)) a.is
      ∙ current_behind past e.state e.event a.answer more
      (λ id link. fold_every IsBehind (listened_by id) (listened_plain id) more link (answer_behind a))
      (λ ids. fold_every IsBehind begun_by begun_plain more ids (answer_behind a)) x

  raised_among : is_heard a.answer.refusal ≡ true → (number : ℕ) (read_time : Option Timestamp) (t : Told) → Contains e.turn.lines (snapshot number read_time t) → Contains a.snapshots t × (read_time ≡ (after e.state a.answer.commit).last_read)
  raised_among heard number read_time t there = ⊎_elim
      (λ before. absurd (every_contains IsOther a.answer.lines (snapshot number read_time t) (moves_other e.state e.event a.answer (moves_of e.state past e.event a.answer a.answers heard)) before))
      (λ behind. ⊎_elim (snapshot_among (after e.state a.answer.commit) a.snapshots number read_time t)
      (λ requested. absurd (every_contains IsRequest a.requested (snapshot number read_time t) a.are_requests requested))
      (Contains-append_cases (each (snapshot_line (after e.state a.answer.commit)) a.snapshots) a.requested (snapshot number read_time t) behind))
      (Contains-append_cases a.answer.lines more (snapshot number read_time t) (subst (λ (ls : List Line). Contains ls (snapshot number read_time t)) (answer_lines a) there))

  -- what a listener asks for is as it was
  target_answered : (id : ℕ) (view old : Viewed) → listener id (e ∷ past) ≡ Some view → listener id was ≡ Some old → old.target ≡ view.target
  target_answered id view old is before =
      sym (same_target (raised_in id e.turn.lines) (raised_in id a.answer.lines) (unless_refused (is_refused_in id a.answer.lines) (asked id e.event (listener id past))) view old
      (ap (λ b. told (raised_in id e.turn.lines) (unless_refused b (asked id e.event (listener id past)))) (sym (answer_refused a id)) ∙ is) before)

-- what is known of a snapshot line of the newest event: the listener was shown it by the event as it was answered
record IsShownBefore (root : Root) (e : Entry) (past : Past) (a : IsAnswered root e.state past e.event e.turn) (read_time : Option Timestamp) (t : Told) : Type 0 where
  read : read_time ≡ (after e.state a.answer.commit).last_read
  view : Viewed
  listens : listener t.id (was root e past a) ≡ Some view
  shows : Shows root (after e.state a.answer.commit) (stance_of (was root e past a) t.id) view (Some t.raised)

shown_before : (root : Root) (e : Entry) (past : Past) (a : IsAnswered root e.state past e.event e.turn) → is_heard e.turn.refusal ≡ true → (number : ℕ) (read_time : Option Timestamp) (t : Told)
    → Contains e.turn.lines (snapshot number read_time t) → IsShownBefore root e past a read_time t
shown_before root e past a heard number read_time t there = record { read = among.1; view = shown.0; listens = shown.1; shows = shown.2 }
  where
    answer_heard : is_heard a.answer.refusal ≡ true
    answer_heard = sym (ap is_heard (answer_refusal a)) ∙ heard

    among : Contains a.snapshots t × (read_time ≡ (after e.state a.answer.commit).last_read)
    among = raised_among root e past a answer_heard number read_time t there

    shown : (v : Viewed) × (listener t.id (was root e past a) ≡ Some v) × Shows root (after e.state a.answer.commit) (stance_of (was root e past a) t.id) v (Some t.raised)
    shown = shows_at root (after e.state a.answer.commit) (stance_of (was root e past a) t.id) (listener t.id (was root e past a)) t.raised
        (subst (ShowsAt root (after e.state a.answer.commit) (stance_of (was root e past a) t.id) (listener t.id (was root e past a))) (told_among a.snapshots t (a.settles answer_heard).ascending among.0) ((a.settles answer_heard).each t.id))

still_listens : (one other : Option Raised) (x : Option Viewed) (view : Viewed) → told one x ≡ Some view → (later : Viewed) × (told other x ≡ Some later)
still_listens None None None view is = absurd (none-some _ is)
still_listens None (Some raised) None view is = absurd (none-some _ is)
still_listens (Some raised) None None view is = absurd (none-some _ is)
still_listens (Some raised) (Some again) None view is = absurd (none-some _ is)
still_listens one None (Some x) view is = (x, refl)
still_listens one (Some raised) (Some x) view is = (record { target = x.target; raised = Some raised }, refl)

-- A snapshot line is that of a listener.
pub raised_listens : (root : Root) (first : State) (e : Entry) (past : Past) → AreHeard root first (e ∷ past) → (number : ℕ) (read_time : Option Timestamp) (t : Told) → Contains e.turn.lines (snapshot number read_time t)
    → (view : Viewed) × (listener t.id (e ∷ past) ≡ Some view)
raised_listens root first e past heard number read_time t there =
    let a = answered_turn root e.state past e.event e.turn heard.1.turn in
    let shown = shown_before root e past a heard.1.heard number read_time t there in
    let later = still_listens (raised_in t.id a.answer.lines) (raised_in t.id e.turn.lines) (unless_refused (is_refused_in t.id a.answer.lines) (asked t.id e.event (listener t.id past))) shown.view shown.listens in
    (later.0, ap (λ b. told (raised_in t.id e.turn.lines) (unless_refused b (asked t.id e.event (listener t.id past)))) (answer_refused a t.id) ∙ later.1)

-- A snapshot that isn't from the cache, among the lines of the newest event, is synced for a client that stands for what was
-- heard.
pub raised_synced : (root : Root) (first : State) (e : Entry) (past : Past) → AreHeard root first (e ∷ past) → AreSpelled (e ∷ past) → HasMoments (now first (e ∷ past)) → (s : Setting) → s.root ≡ root
    → (c : Client) → StandsAs c (now first (e ∷ past)) (e ∷ past) → (number : ℕ) (read_time : Option Timestamp) (t : Told) (view : Viewed) → Contains e.turn.lines (snapshot number read_time t) → t.raised.from_cache ≡ false
    → listener t.id (e ∷ past) ≡ Some view → IsSyncedRaised s (now first (e ∷ past)) c view.target read_time t.raised
raised_synced root first e past heard spelled moments s at_root c stands number read_time t view there flag is =
    synced_of root (now first (e ∷ past)) (e ∷ past) s c at_root moments stands t view (was root e past a) shown.view read_time
    (shown.read ∙ ap (λ (x : State). x.last_read) same_state)
    (subst (λ (x : State). Shows root x (stance_of (was root e past a) t.id) shown.view (Some t.raised)) same_state shown.shows)
    flag (target_answered root e past a t.id view shown.view is shown.listens) (answer_listened a t.id (listened t.id past)) (current_answered root e past a)
    (listener_row root first (e ∷ past) heard spelled t.id view is)
  where
    a : IsAnswered root e.state past e.event e.turn
    a = answered_turn root e.state past e.event e.turn heard.1.turn

    shown : IsShownBefore root e past a read_time t
    shown = shown_before root e past a heard.1.heard number read_time t there

    same_state : after e.state a.answer.commit ≡ now first (e ∷ past)
    same_state = ap (after e.state) (sym (answer_commit a))

-- ---- and so it agrees

-- A synced snapshot agrees with the backend's documents, where what the theorem's client keeps is sound.
pub snapshot_agrees : (s : Setting) (version : List transcript.Event → ℕ) (state : State) (past : Past) (c : Client) (query : Target) (read_time : Option Timestamp) (raised : Raised) → DocumentsStand s → Sound s c → Live s version c → StandsAs c state past
    → IsSyncedRaised s state c query read_time raised → SnapshotAgrees s state query raised
snapshot_agrees s version state past c query read_time raised documents_stand sound live stands it = record {
  answer = it.answer;
  is_answer = subst (λ (q : Target). IsAnswer q s.root (documents_of state) it.answer) it.same it.synced.answer;
  rows = it.rows;
  agrees = agrees_moves s (is_named state) c (client_of state) (documents_of state) query it.answer (λ i key. stands.entry key i) stands.read
      (subst (λ (q : Target). Agrees s (is_named state) c (documents_of state) q it.answer) it.same
      (agreement s version (is_named state) c (documents_of state) it.id it.answer documents_stand sound live
      (λ key unnamed. local_documents state key unnamed ∙ ap agreed.document_of (sym (stands.entry key))) it.synced));
}
