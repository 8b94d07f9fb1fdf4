-- the turns of writes and of listeners that begin
use Rattle.std.proofs.Common.{◌≡◌, ◌⊎◌, ⊎_elim, inl, inr, ℕ, ◌+◌, ◌<◌, ◌≤◌, ℤ, pos, Bool, true, false, nat_eq, List, [], ◌∷◌, ◌++◌, length, Option, Some, None, option_map, unwrap_or, IfSome, if◌then◌else◌, Vec, Global, refl, sym, ap, subst, ◌∙◌, arith}
use Rattle.std.specs.List.{AllZip, Contains, slice_get}
use Rattle.std.specs.Map.{lookup}
use Rattle.std.proofs.lemmas.Bool.{eqb-true, eqb-false, lt-ltb, le-ltb}
use Rattle.std.proofs.lemmas.Option.{none-some}
use Rattle.std.proofs.lemmas.List.Elements.{Contains-append_cases, Contains-append_right, Contains-append_left, Contains-push, Contains-push_cases}
use Rattle.host_api.specs.Host.{View}
use Rattle.document_keys.specs.Names.{Root}
use Rattle.client_events.specs.declared.event.Event.{Event}
use Rattle.client_events.specs.declared.event.Event.TheVariants as event
use Rattle.record_codec.specs.declared.commit.Commit.{Commit}
use Rattle.limbo_listens.specs.Listens.{Listens, limbo_at}
use Rattle.limbo_resolver.specs.Limbo.{Key}
use Rattle.listeners.proofs.Tabled.{no_target}
use Rattle.listeners.specs.Table.{Changes, ChangesTarget, Listening as Link, Table, fresh, is_id, target_of, viewed}
use Rattle.local_store.specs.Documents.{document_of, standing_of}
use Rattle.listen_protocol.specs.Calls.{Calls}
use Rattle.local_store.specs.Files.{Moves}
use Rattle.local_store.specs.State.{State, committed, most_commits}
use Rattle.mutations.specs.declared.batch.Batch.{Batch}
use Rattle.mutations.specs.declared.write.Write.{Write}
use Rattle.queries.specs.declared.target.Target.{Target}
use Rattle.record_codec.specs.declared.commit.Commit.TheVariants.{Enqueue, Allocate}
use Rattle.target_cache.specs.Cache.{TellsId, blank, id_at}
use Rattle.value_model.specs.declared.timestamp.Timestamp.{Timestamp}
use Rattle.views.specs.Viewed.{Viewed}
use Rattle.client_turns.specs.Answers.{Answers, Begins, are_left, ends, enqueued, listens}
use Rattle.client_turns.specs.Turns.{after, answered, commits, refused}
use Rattle.sync_engine.specs.Concerned.{AreConcerned}
use Rattle.client_turns.specs.Lines.{Line, document, listening, wrote}
use Rattle.write_pipeline.specs.Order.{Steps, outstanding}
use Rattle.client_turns.specs.Past.{Turn, Past, asked, is_refused_in, listener, raised_in, sent_in, steps_of, told, unless_refused}
use Rattle.client_turns.specs.Settling.{Stance, stance_by, stance_of, HasTargetRow}
use Rattle.sync_engine.specs.Stream.{resets_of}
use Rattle.client_turns.specs.Turn.{answered_next, is_heard}
use Rattle.client_turns.specs.Watching.{is_wanted, listened, listened_in, passes, requested_in, step_by}
use Rattle.client_turns.specs.LimboListens.{limbo_of}
use Rattle.sync_engine.specs.Standing.{IsQuiet, Kept, StandsFor, StandsOn, Watches, limbo_in, stance_in, standing_in}
use Rattle.sync_engine.specs.declared.watch_stream.Due.TheVariants.{Nothing, One}
use Rattle.sync_engine.specs.declared.watch_stream.WatchStream.{WatchStream}
use Rattle.sync_engine.specs.declared.write_stream.WriteStream.{WriteStream}
use Rattle.sync_engine.specs.Targets.{GivesTarget, HasBegun, MakesRow, MovesForTarget, given_id, given_state}
use Rattle.sync_engine.specs.Telling.{HandsSettled, IsQuietOrAmong, IsShown, KeepsListeners, KeepsRest, MakesOne, MovesBy, Raises}
use Rattle.sync_engine.specs.declared.out.Out.{Out}
use Rattle.sync_engine.specs.declared.out.Out.TheVariants.{Document, Listening, Wrote}
use Rattle.sync_engine.specs.declared.out.Outcome.TheVariants.{Done}
use Rattle.client_turns.specs.declared.refusal.Refusal.TheVariants.{IdsSpent, ListenerTaken}
use Rattle.sync_engine.proofs.Committed.{makes_by, moves_by}
use Rattle.sync_engine.proofs.Following.{Follows, are_quiet, follows_plain, quiet_as, quiet_kept}
use Rattle.sync_engine.proofs.Handing.{as_done, handed, keeps_all, no_reset, raises_none, same_id}
use Rattle.sync_engine.proofs.Passing.{watches_began}
use Rattle.sync_engine.proofs.Quiet.{quiet_allocated, quiet_enqueued}
use Rattle.client_turns.proofs.Lists.{slice_get_more}
use Rattle.client_turns.proofs.Steps.{few_by}
use Rattle.client_turns.proofs.Wanted.{has_wanted, same_truth, wanted_has}

pub stays_on : {old new : WriteStream} {h : Steps} → old ≡ new → StandsOn old h → StandsOn new h
stays_on {old} {new} {h} same stands = subst (λ (w : WriteStream). StandsOn w h) same stands

pub among_or_not : (ids : List ℕ) (id : ℕ) → Contains ids id ⊎ (Contains ids id → ⊥)
among_or_not [] id = inr (λ it. absurd (omega (arith, it.1)))
among_or_not (x ∷ ids) id = go (nat_eq x id) refl (among_or_not ids id)
  where
    go : (b : Bool) → nat_eq x id ≡ b → Contains ids id ⊎ (Contains ids id → ⊥) → Contains (x ∷ ids) id ⊎ (Contains (x ∷ ids) id → ⊥)
    go true is rest = inl (subst (Contains (x ∷ ids)) (eqb-true x id is) (Contains-append_left (x ∷ []) ids x (Contains-push [] x)))
    go false is (inl among) = inl (Contains-append_right (x ∷ []) ids id among)
    go false is (inr never) = inr (λ it. ⊎_elim
        (λ here. ⊎_elim (λ none. absurd (omega (arith, none.1))) (λ same. eqb-false x id is same) (Contains-push_cases [] x id here))
        (λ there. never there)
        (Contains-append_cases (x ∷ []) ids id it))

-- ---- writes

abbrev batch_of : State → Timestamp → List Write → Batch
batch_of s at writes = record { id = s.next_batch; at = at; writes = writes }

pub enqueued_is : (s : State) (at : Timestamp) (writes : List Write) → s.number < most_commits → enqueued s at writes ≡ commits (Enqueue (record { id = s.next_batch; at = at; writes = writes })) (wrote s.next_batch (s.number + 1) ∷ [])
enqueued_is s at writes few = ap (λ b. if b then commits (Enqueue (record { id = s.next_batch; at = at; writes = writes })) (wrote s.next_batch (s.number + 1) ∷ []) else refused IdsSpent) (lt-ltb s.number most_commits few)

pub enqueued_not : (s : State) (at : Timestamp) (writes : List Write) → most_commits ≤ s.number → enqueued s at writes ≡ refused IdsSpent
enqueued_not s at writes many = ap (λ b. if b then commits (Enqueue (record { id = s.next_batch; at = at; writes = writes })) (wrote s.next_batch (s.number + 1) ∷ []) else refused IdsSpent) (le-ltb s.number most_commits many)

-- the listeners that no write concerns are quiet after the commit of a batch
quiet_or_written : {old : Kept} (mid : Kept) {past : Past} (at : Timestamp) (writes : List Write) (ids : List ℕ) → StandsFor old old.store.state past → AreConcerned old.listeners writes ids → mid.root ≡ old.root → mid.listeners ≡ old.listeners → mid.limbo ≡ old.limbo → mid.watch ≡ old.watch
    → mid.store.state ≡ committed old.store.state (Enqueue (record { id = old.store.state.next_batch; at = at; writes = writes })) → IsQuietOrAmong ids mid
quiet_or_written {old} mid at writes ids stands concerned root listeners limbo watch state id view there = ⊎_elim inl (λ never. inr (quiet never)) (among_or_not ids id)
  where
    was : viewed old.listeners id ≡ Some view
    was = ap (λ (t : Table). viewed t id) (sym listeners) ∙ there

    quiet : (Contains ids id → ⊥) → IsQuiet mid.root mid.store.state (stance_in mid id) (limbo_in mid id) view
    quiet never =
        quiet_kept old mid (committed old.store.state (Enqueue (record { id = old.store.state.next_batch; at = at; writes = writes }))) id view root state listeners limbo watch
        (quiet_enqueued old.root old.store.state (stance_in old id) (record { id = old.store.state.next_batch; at = at; writes = writes }) (limbo_in old id) view
        (λ write one concerns. never (concerned.each id (record { write = write; one = one; concerned = record { view = view; there = was; concerns = concerns } })))
        (are_quiet stands id view was))

pub hands_written : {old new : Kept} (mid : Kept) {past : Past} {before : List Out} {vec : Vec Out Global} (at : Timestamp) (writes : List Write) (ids : List ℕ) → old.watch.due ≡ Nothing → StandsFor old old.store.state past → AreConcerned old.listeners writes ids
    → old.store.state.number < most_commits → mid.root ≡ old.root → mid.listeners ≡ old.listeners → mid.limbo ≡ old.limbo → mid.watch ≡ old.watch → mid.writes ≡ old.writes → mid.store.state ≡ committed old.store.state (Enqueue (record { id = old.store.state.next_batch; at = at; writes = writes }))
    → KeepsRest mid new → (IsQuietOrAmong ids mid → Raises mid new before vec.items) → before ≡ Wrote old.store.state.next_batch (old.store.state.number + 1) ∷ []
    → HandsSettled old.store.state past (event.Write at writes) (Done vec) new
hands_written {old} {new} mid {past} {before} {vec} at writes ids idle stands concerned few root listeners limbo watch kept state rest raises first =
    let answer = commits (Enqueue (record { id = old.store.state.next_batch; at = at; writes = writes })) (wrote old.store.state.next_batch (old.store.state.number + 1) ∷ []) in
    let answers : Answers old.store.state past (event.Write at writes) answer = sym (enqueued_is old.store.state at writes few) in
    as_done refl (no_reset past (event.Write at writes) answer.commit new (λ t. refl) (ap resets_of (ap (λ (w : WatchStream). w.due) (rest.watch ∙ watch) ∙ idle)))
    (handed old.store.state past (event.Write at writes) answer mid new before vec.items answers refl
    (follows_plain mid (event.Write at writes) answer stands (record { step = refl; plain = λ id. refl; targets = λ id. refl; began = refl; unrequested = λ h. refl; unraised = λ id. refl }) state listeners limbo watch refl (stays_on (sym kept) stands.writes) (few_by old.store.state past (event.Write at writes) answer answers stands.pending))
    rest (raises (quiet_or_written mid at writes ids stands concerned root listeners limbo watch state)) (λ id. refl)
    (subst (λ (os : List Out). AllZip (IsShown new) os (wrote old.store.state.next_batch (old.store.state.number + 1) ∷ [])) (sym first) (refl, tt)))

-- the document of a key as it stands
pub hands_got : {client : Kept} {s : State} {past : Past} {vec : Vec Out Global} (key : List (List ℕ)) → client.watch.due ≡ Nothing → StandsFor client s past → vec.items ≡ Document key ∷ [] → HandsSettled s past (event.Get key) (Done vec) client
hands_got {client} {s} {past} {vec} key idle stands is =
    let line = document key (document_of s key) (standing_of s key) in
    as_done refl (no_reset past (event.Get key) None client (λ t. refl) (ap resets_of idle))
    (handed s past (event.Get key) (answered (line ∷ [])) client client vec.items vec.items refl refl
    (follows_plain client (event.Get key) (answered (line ∷ [])) stands (record { step = refl; plain = λ id. refl; targets = λ id. refl; began = refl; unrequested = λ h. refl; unraised = λ id. refl }) stands.state refl refl refl refl stands.writes stands.pending)
    keeps_all (raises_none vec.items (are_quiet stands)) (λ id. refl)
    (subst (λ (os : List Out). AllZip (IsShown client) os (line ∷ [])) (sym is) ((λ i. document key (document_of (sym stands.state i) key) (standing_of (sym stands.state i) key)), tt)))

pub some_is : (a b : ℤ) → Some a ≡ Some b → a ≡ b
some_is a b so = cc

-- who has a view has a target
pub viewed_linked : (table : Table) (id : ℕ) (view : Viewed) → viewed table id ≡ Some view → target_of table id ≡ None → ⊥
viewed_linked table id view there none = by (lookup (is_id id) table) refl
  where
    by : (found : Option Link) → lookup (is_id id) table ≡ found → ⊥
    by None is = none-some view (sym (ap (option_map (λ l. l.view)) is) ∙ there)
    by (Some l) is = none-some l.target_id (sym none ∙ ap (option_map (λ x. x.target_id)) is)

-- ---- a listener that begins

-- the answer of one whose target has this id, in this state
record Begun (s : State) (id : ℕ) (query : Target) (found : Option ℤ) (target : ℤ) : Type 0 where
  answer : Turn
  is : answer ≡ listens s id query found
  none : answer.refusal ≡ None
  state : given_state s query found ≡ after s answer.commit
  lines : answer.lines ≡ listening id target (given_state s query found).number ∷ []

begun : (s : State) (id : ℕ) (query : Target) (found : Option ℤ) (target : ℤ) → given_id s found ≡ Some target → Begun s id query found target
begun s id query (Some at) target given = record {
  answer = answered (listening id at s.number ∷ []);
  is = refl;
  none = refl;
  state = refl;
  lines = ap (λ (o : Option ℤ). listening id (unwrap_or o at) s.number ∷ []) given;
}
begun s id query None target given = by (are_left s) refl given
  where
    by : (left : Bool) → are_left s ≡ left → (if left then Some (pos (id_at (length s.rows))) else None) ≡ Some target → Begun s id query None target
    by true left is = record {
      answer = commits (Allocate (id_at (length s.rows)) query) (listening id (pos (id_at (length s.rows))) (s.number + 1) ∷ []);
      is = sym (ap (λ b. if b then commits (Allocate (id_at (length s.rows)) query) (listening id (pos (id_at (length s.rows))) (s.number + 1) ∷ []) else refused IdsSpent) left);
      none = refl;
      state = ap (λ b. if b then committed s (Allocate (id_at (length s.rows)) query) else s) left;
      lines = ap (λ (o : Option ℤ). listening id (unwrap_or o (pos (id_at (length s.rows)))) (s.number + 1) ∷ []) is
          ∙ ap (λ b. listening id target (if b then committed s (Allocate (id_at (length s.rows)) query) else s).number ∷ []) (sym left);
    }
    by false left is = absurd (none-some target is)

-- a quiet listener stays so where the target gets its id
quiet_given : (root : Root) (s : State) (stance : Stance) (query : Target) (found : Option ℤ) (limbo : List Key) (view : Viewed) → IsQuiet root s stance limbo view → IsQuiet root (given_state s query found) stance limbo view
quiet_given root s stance query (Some at) limbo view quiet = quiet
quiet_given root s stance query None limbo view quiet = by (are_left s)
  where
    by : (left : Bool) → IsQuiet root (if left then committed s (Allocate (id_at (length s.rows)) query) else s) stance limbo view
    by true = quiet_allocated root s stance (id_at (length s.rows)) query limbo view quiet
    by false = quiet

-- the rows that were there are there
row_given : (s : State) (query : Target) (found : Option ℤ) (t : ℤ) → HasTargetRow s.rows t → HasTargetRow (given_state s query found).rows t
row_given s query (Some at) t has = has
row_given s query None t has = by (are_left s)
  where
    by : (left : Bool) → HasTargetRow (if left then committed s (Allocate (id_at (length s.rows)) query) else s).rows t
    by true = (has.0, record { place = has.1.place; is = has.1.is; there = slice_get_more s.rows (blank query) has.0 has.1.place has.1.there })
    by false = has

-- what is put behind stands there
last_there : {X : Type 0} (xs : List X) (x : X) → slice_get (xs ++ x ∷ []) (length xs) ≡ Some x
last_there [] x = refl
last_there (y ∷ xs) x = last_there xs x

-- the target that was given has a row
given_row : (s : State) (query : Target) (found : Option ℤ) (t : ℤ) → TellsId s.rows query found → given_id s found ≡ Some t → HasTargetRow (given_state s query found).rows t
given_row s query (Some at) t tells is =
    let one : at ≡ t = cc in
    let has = (tells at).1 refl in
    subst (HasTargetRow s.rows) one (has.row, has.of_id)
given_row s query None t tells is = by (are_left s) refl is
  where
    by : (left : Bool) → are_left s ≡ left → (if left then Some (pos (id_at (length s.rows))) else None) ≡ Some t → HasTargetRow (if left then committed s (Allocate (id_at (length s.rows)) query) else s).rows t
    by true left same =
        let one : pos (id_at (length s.rows)) ≡ t = cc in
        subst (HasTargetRow (s.rows ++ blank query ∷ [])) one (blank query, record { place = length s.rows; is = refl; there = last_there s.rows (blank query) })
    by false left same = absurd (none-some t same)

module _ (old mid new : Kept) (past : Past) (id : ℕ) (query : Target) (given : Option ℤ) (target : ℤ)
    (stands : StandsFor old old.store.state past) (free : viewed old.listeners id ≡ None) (idle : old.watch.due ≡ Nothing)
    (gives : GivesTarget old.store.state query given mid.store.state) (is : given ≡ Some target)
    (root : mid.root ≡ old.root) (held : mid.limbo ≡ old.limbo) (kept : mid.writes ≡ old.writes) (watched : mid.watch ≡ record old.watch { due = One target })
    (changes : Changes id (Some (fresh query)) old.listeners mid.listeners) (links : ChangesTarget id (Some target) old.listeners mid.listeners) where
  first : Begun old.store.state id query gives.found target
  first = begun old.store.state id query gives.found target (sym gives.id ∙ is)

  abbrev e : Event
  e = event.Listen id query

  abbrev next : Past
  next = answered_next old.store.state past e first.answer

  answers : Answers old.store.state past e first.answer
  answers = subst (λ (v : Option Viewed). Begins old.store.state id query v first.answer) (sym free ∙ stands.listeners id) (gives.found, gives.tells, first.is)

  listener_is : (q : ℕ) → listener q next ≡ asked q e (listener q past)
  listener_is q = ap (λ (ls : List Line). told (raised_in q ls) (unless_refused (is_refused_in q ls) (asked q e (listener q past)))) first.lines

  listened_is : (q : ℕ) → listened q next ≡ (if nat_eq id q then Some target else listened q past)
  listened_is q = ap (λ (ls : List Line). listened_in q ls (listened q past)) first.lines

  listeners : (q : ℕ) → viewed mid.listeners q ≡ listener q next
  listeners q = changes q ∙ ap (λ b. if b then Some (fresh query) else viewed old.listeners q) (same_id id q) ∙ ap (λ v. if nat_eq id q then Some (fresh query) else v) (stands.listeners q) ∙ sym (listener_is q)

  targets : (q : ℕ) → target_of mid.listeners q ≡ listened q next
  targets q = links q ∙ ap (λ b. if b then Some target else target_of old.listeners q) (same_id id q) ∙ ap (λ v. if nat_eq id q then Some target else v) (stands.targets q) ∙ sym (listened_is q)

  -- who listened listens still, and to the same target
  still : (q : ℕ) (x : ℤ) → listened q past ≡ Some x → listened q next ≡ Some x
  still q x was = by (nat_eq id q) refl
    where
      by : (b : Bool) → nat_eq id q ≡ b → listened q next ≡ Some x
      by true same = absurd (none-some x (sym (gone (no_target old.listeners id free)) ∙ ap (λ n. listened n past) (eqb-true id q same) ∙ was))
        where
          gone : target_of old.listeners id ≡ None → listened id past ≡ None
          gone none = sym (stands.targets id) ∙ none
      by false other = listened_is q ∙ ap (λ b. if b then Some target else listened q past) other ∙ was

  wanted_more : (x : ℤ) → is_wanted x past ≡ true → is_wanted x next ≡ true
  wanted_more x was = let it = wanted_has x past was in has_wanted x next (it.0, still it.0 x it.1)

  wanted_others : (x : ℤ) → (x ≡ target → ⊥) → is_wanted x next ≡ is_wanted x past
  wanted_others x apart = same_truth (is_wanted x next) (is_wanted x past) down (wanted_more x)
    where
      down : is_wanted x next ≡ true → is_wanted x past ≡ true
      down now =
          let it = wanted_has x next now in
          has_wanted x past (it.0, by it.0 (nat_eq id it.0) (sym (listened_is it.0) ∙ it.1))
        where
          by : (q : ℕ) (b : Bool) → (if b then Some target else listened q past) ≡ Some x → listened q past ≡ Some x
          by q true so = absurd (apart (sym (some_is target x so)))
          by q false so = so

  rows : (q : ℕ) → IfSome (listened q next) (HasTargetRow mid.store.state.rows)
  rows q = subst (λ (o : Option ℤ). IfSome o (HasTargetRow mid.store.state.rows)) (sym (listened_is q)) (by (nat_eq id q))
    where
      was : (o : Option ℤ) → IfSome o (HasTargetRow old.store.state.rows) → IfSome o (HasTargetRow mid.store.state.rows)
      was None has = tt
      was (Some t) has = subst (λ (x : State). HasTargetRow x.rows t) (sym gives.state) (row_given old.store.state query gives.found t has)

      by : (b : Bool) → IfSome (if b then Some target else listened q past) (HasTargetRow mid.store.state.rows)
      by true = subst (λ (x : State). HasTargetRow x.rows target) (sym gives.state) (given_row old.store.state query gives.found target gives.tells (sym gives.id ∙ is))
      by false = was (listened q past) (stands.rows q)

  unrequested : (h : Calls) → requested_in first.answer.lines h ≡ h
  unrequested h = ap (λ (ls : List Line). requested_in ls h) first.lines

  step : step_by e first.answer.refusal ≡ passes
  step = refl

  -- who is no listener wasn't one
  none_before : (q : ℕ) → listener q next ≡ None → listener q past ≡ None
  none_before q none = by (nat_eq id q) (sym (listener_is q) ∙ none)
    where
      by : (b : Bool) → (if b then Some (fresh query) else listener q past) ≡ None → listener q past ≡ None
      by true is = absurd (none-some (fresh query) (sym is))
      by false is = is

  follows_begun : Follows mid (after old.store.state first.answer.commit) next (limbo_of past)
  follows_begun = record {
    state = gives.state ∙ first.state;
    listeners = listeners;
    targets = targets;
    rows = λ q. subst (λ (x : State). IfSome (listened q next) (HasTargetRow x.rows)) (gives.state ∙ first.state) (rows q);
    unshown = λ q none. ap (λ (l : Listens). limbo_at l q) held ∙ stands.unshown q (none_before q none);
    limbo_is = ap (λ (l : Listens). l.limbo) held ∙ stands.limbo_is;
    sound = stands.sound;
    watch = watches_began old.store.state past e first.answer step old.watch mid.watch (limbo_of past) target unrequested wanted_others wanted_more idle watched stands.watch;
    writes = subst (StandsOn mid.writes) (sym (ap (λ (ls : List Line). sent_in ls (steps_of past)) first.lines)) (stays_on (sym kept) stands.writes);
    pending = subst (λ (h : Steps). outstanding h ≤ length (after old.store.state first.answer.commit).batches) (sym (ap (λ (ls : List Line). sent_in ls (steps_of past)) first.lines)) (few_by old.store.state past e first.answer answers stands.pending);
  }

  -- the target of another listener stands as before
  stance_other : (q : ℕ) → nat_eq id q ≡ false → stance_in mid q ≡ stance_in old q
  stance_other q other = λ i. stance_by (link i) (standing_in (watched i).current.targets.items) (watched i).online
    where
      link : target_of mid.listeners q ≡ target_of old.listeners q
      link = links q ∙ ap (λ b. if b then Some target else target_of old.listeners q) (same_id id q ∙ other)

  quiet_or_new : IsQuietOrAmong (id ∷ []) mid
  quiet_or_new q view there = by (nat_eq id q) refl
    where
      by : (b : Bool) → nat_eq id q ≡ b → Contains (id ∷ []) q ⊎ IsQuiet mid.root mid.store.state (stance_in mid q) (limbo_in mid q) view
      by true same = inl (subst (Contains (id ∷ [])) (eqb-true id q same) (Contains-push [] id))
      by false other =
          let was : viewed old.listeners q ≡ Some view = sym (changes q ∙ ap (λ b. if b then Some (fresh query) else viewed old.listeners q) (same_id id q ∙ other)) ∙ there in
          inr (quiet_as old mid (given_state old.store.state query gives.found) q view root gives.state (stance_other q other) (ap (λ (l : Listens). limbo_at l q) held)
          (quiet_given old.root old.store.state (stance_in old q) query gives.found (limbo_in old q) view (are_quiet stands q view was)))

  pub hands_begun : {before : List Out} {vec : Vec Out Global} → KeepsRest mid new → (IsQuietOrAmong (id ∷ []) mid → Raises mid new before vec.items) → before ≡ Listening id target mid.store.state.number ∷ []
      → HandsSettled old.store.state past e (Done vec) new
  hands_begun {before} {vec} rest raises begins =
      as_done first.none (no_reset past e first.answer.commit new (λ t. refl) (ap resets_of (ap (λ (w : WatchStream). w.due) (rest.watch ∙ watched))))
      (handed old.store.state past e first.answer mid new before vec.items answers (ap is_heard first.none) follows_begun rest (raises quiet_or_new) (λ q. ap (raised_in q) first.lines)
      (subst (λ (os : List Out). AllZip (IsShown new) os first.answer.lines) (sym begins)
      (subst (AllZip (IsShown new) (Listening id target mid.store.state.number ∷ [])) (sym first.lines)
      (sym (ap (λ (t : State). listening id target t.number) gives.state), tt))))

-- a listener began, whose ids are handed out first
pub has_begun : {old mid new : Kept} {id : ℕ} {query : Target} {target : ℤ} {before outs : List Out} → mid.root ≡ old.root → mid.store ≡ old.store → mid.limbo ≡ old.limbo → mid.writes ≡ old.writes → mid.watch ≡ record old.watch { due = One target }
    → Changes id (Some (fresh query)) old.listeners mid.listeners → ChangesTarget id (Some target) old.listeners mid.listeners
    → KeepsRest mid new → (IsQuietOrAmong (id ∷ []) mid → Raises mid new before outs) → before ≡ Listening id target mid.store.state.number ∷ [] → HasBegun id query target old new outs
has_begun {mid = mid} {new} {outs = outs} root store limbo writes watch listeners targets rest raises begins = record {
  mid = mid;
  root = root;
  store = store;
  limbo = limbo;
  writes = writes;
  watch = watch;
  listeners = listeners;
  targets = targets;
  rest = rest;
  raises = λ quiet. subst (λ (before : List Out). Raises mid new before outs) begins (raises quiet);
}

pub taken_answers : {old : Kept} {past : Past} (id : ℕ) (query : Target) (view : Viewed) → StandsFor old old.store.state past → viewed old.listeners id ≡ Some view → Answers old.store.state past (event.Listen id query) (refused (ListenerTaken id))
taken_answers {old} {past} id query view stands there = subst (λ (v : Option Viewed). Begins old.store.state id query v (refused (ListenerTaken id))) (sym there ∙ stands.listeners id) refl

pub spent_answers : {old : Kept} {past : Past} {after_it : State} (id : ℕ) (query : Target) (given : Option ℤ) → StandsFor old old.store.state past → viewed old.listeners id ≡ None → GivesTarget old.store.state query given after_it → given ≡ None
    → Answers old.store.state past (event.Listen id query) (refused IdsSpent)
spent_answers {old} {past} id query given stands free gives none = subst (λ (v : Option Viewed). Begins old.store.state id query v (refused IdsSpent)) (sym free ∙ stands.listeners id) (gives.found, gives.tells, spent gives.found (sym gives.id ∙ none))
  where
    spent : (found : Option ℤ) → given_id old.store.state found ≡ None → refused IdsSpent ≡ listens old.store.state id query found
    spent (Some at) is = absurd (none-some at (sym is))
    spent None is = by (are_left old.store.state) refl is
      where
        by : (left : Bool) → are_left old.store.state ≡ left → (if left then Some (pos (id_at (length old.store.state.rows))) else None) ≡ None → refused IdsSpent ≡ listens old.store.state id query None
        by true left is = absurd (none-some (pos (id_at (length old.store.state.rows))) (sym is))
        by false left is = sym (ap (λ b. if b then commits (Allocate (id_at (length old.store.state.rows)) query) (listening id (pos (id_at (length old.store.state.rows))) (old.store.state.number + 1) ∷ []) else refused IdsSpent) left)

-- a crash finds the state in which the target has an id, or the one before
pub moves_begun : {old : Kept} {past : Past} {before now : View} (id : ℕ) (query : Target) → StandsFor old old.store.state past → viewed old.listeners id ≡ None → MovesForTarget old.store.state query before now → MovesBy old.store.state past (event.Listen id query) before now
moves_begun {old} {past} {before} {now} id query stands free it =
    moves_by (listens old.store.state id query it.found) (subst (λ (v : Option Viewed). Begins old.store.state id query v (listens old.store.state id query it.found)) (sym free ∙ stands.listeners id) (it.found, it.tells, refl))
    (subst (λ (t : State). Moves old.store.state t before now) (given_is it.found) it.moves)
  where
    given_is : (found : Option ℤ) → given_state old.store.state query found ≡ after old.store.state (listens old.store.state id query found).commit
    given_is (Some at) = refl
    given_is None = by (are_left old.store.state)
      where
        by : (left : Bool) → (if left then committed old.store.state (Allocate (id_at (length old.store.state.rows)) query) else old.store.state)
            ≡ after old.store.state (if left then commits (Allocate (id_at (length old.store.state.rows)) query) (listening id (pos (id_at (length old.store.state.rows))) (old.store.state.number + 1) ∷ []) else refused IdsSpent).commit
        by true = refl
        by false = refl

-- the target has no row and gets one, which the event commits
pub makes_begun : {old : Kept} {past : Past} (id : ℕ) (query : Target) → StandsFor old old.store.state past → viewed old.listeners id ≡ None → MakesRow old.store.state query → MakesOne old.store.state past (event.Listen id query)
makes_begun {old} {past} id query stands free it =
    let made = Allocate (id_at (length old.store.state.rows)) query in
    makes_by (listens old.store.state id query None) made (subst (λ (v : Option Viewed). Begins old.store.state id query v (listens old.store.state id query None)) (sym free ∙ stands.listeners id) (None, it.tells, refl))
    (ap (λ b. (if b then commits made (listening id (pos (id_at (length old.store.state.rows))) (old.store.state.number + 1) ∷ []) else refused IdsSpent).commit) it.left)

-- ---- what a crash finds

pub makes_written : {s : State} {past : Past} (at : Timestamp) (writes : List Write) → s.number < most_commits → MakesOne s past (event.Write at writes)
makes_written {s} at writes few =
    let made = Enqueue (record { id = s.next_batch; at = at; writes = writes }) in
    makes_by (commits made (wrote s.next_batch (s.number + 1) ∷ [])) made (sym (enqueued_is s at writes few)) refl

pub moves_written : {s : State} {past : Past} {before now : View} (id : ℕ) (at : Timestamp) (writes : List Write) → id ≡ s.next_batch → s.number < most_commits → Moves s (committed s (Enqueue (record { id = id; at = at; writes = writes }))) before now → MovesBy s past (event.Write at writes) before now
moves_written {s} {past} {before} {now} id at writes same few moves =
    moves_by (commits (Enqueue (record { id = s.next_batch; at = at; writes = writes })) (wrote s.next_batch (s.number + 1) ∷ [])) (sym (enqueued_is s at writes few))
    (subst (λ (n : ℕ). Moves s (committed s (Enqueue (record { id = n; at = at; writes = writes }))) before now) same moves)

pub moves_none : {s : State} {past : Past} {before now : View} (e : Event) (answer : Turn) → Answers s past e answer → answer.commit ≡ None → Moves s s before now → MovesBy s past e before now
moves_none {s} {past} {before} {now} e answer answers none moves = moves_by answer answers (subst (λ (c : Option Commit). Moves s (after s c) before now) (sym none) moves)

-- ---- where no id was left

given_none : (s : State) (query : Target) (found : Option ℤ) → given_id s found ≡ None → given_state s query found ≡ s
given_none s query (Some at) is = absurd (none-some at (sym is))
given_none s query None is = by (are_left s) is
  where
    by : (left : Bool) → (if left then Some (pos (id_at (length s.rows))) else None) ≡ None → (if left then committed s (Allocate (id_at (length s.rows)) query) else s) ≡ s
    by true is = absurd (none-some (pos (id_at (length s.rows))) (sym is))
    by false is = refl

pub spent_stands : {old new : Kept} {past : Past} (query : Target) (given : Option ℤ) → StandsFor old old.store.state past → GivesTarget old.store.state query given new.store.state → given ≡ None → KeepsListeners old new → StandsFor new old.store.state past
spent_stands {old} {new} {past} query given stands gives none rest = record {
  state = gives.state ∙ given_none old.store.state query gives.found (sym gives.id ∙ none);
  listeners = λ id. ap (λ (t : Table). viewed t id) rest.listeners ∙ stands.listeners id;
  targets = λ id. ap (λ (t : Table). target_of t id) rest.listeners ∙ stands.targets id;
  rows = stands.rows;
  quiet = λ id.
      subst (λ (r : Root). IfSome (listener id past) (IsQuiet r old.store.state (stance_of past id) (limbo_in new id))) (sym rest.root)
      (subst (λ (l : Listens). IfSome (listener id past) (IsQuiet old.root old.store.state (stance_of past id) (limbo_at l id))) (sym rest.limbo) (stands.quiet id));
  unshown = λ id none. ap (λ (l : Listens). limbo_at l id) rest.limbo ∙ stands.unshown id none;
  limbo_is = ap (λ (l : Listens). l.limbo) rest.limbo ∙ stands.limbo_is;
  sound = stands.sound;
  watch = subst (λ (w : WatchStream). Watches w past (limbo_of past)) (sym rest.watch) stands.watch;
  writes = stays_on (sym rest.writes) stands.writes;
  pending = stands.pending;
}

pub ends_none : (s : State) (id : ℕ) (view : Option Viewed) → (ends s id view).commit ≡ None
ends_none s id None = refl
ends_none s id (Some view) = refl
