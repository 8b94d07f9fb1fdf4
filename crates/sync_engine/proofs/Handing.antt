-- what is handed out for an event
use Rattle.std.proofs.Common.{◌≡◌, ℕ, ◌≤◌, ℤ, Bool, true, false, not, ◌||◌, nat_eq, List, [], ◌∷◌, ◌++◌, map as each, length, Option, Some, None, option_map, is_some, IfSome, if◌then◌else◌, Vec, Global, refl, sym, ap, subst, ◌∙◌, arith, append-nil}
use Rattle.std.specs.List.{All, AllZip, Contains}
use Rattle.std.proofs.lemmas.Bool.{eqb-true, eqb-false, true≢false}
use Rattle.std.proofs.lemmas.Option.{none-some}
use Rattle.std.proofs.lemmas.List.Elements.{All-head, All-tail}
use Rattle.document_keys.specs.Names.{Root}
use Rattle.client_events.specs.declared.event.Event.{Event}
use Rattle.listeners.proofs.Ids.{one_id, other_ids}
use Rattle.listeners.specs.Table.{is_id, viewed}
use Rattle.limbo_resolver.specs.Limbo.{Limbo}
use Rattle.local_store.specs.State.{State}
use Rattle.record_codec.specs.declared.commit.Commit.{Commit}
use Rattle.views.specs.declared.raised.Raised.{Raised}
use Rattle.local_store.specs.Store.{Store}
use Rattle.views.specs.Viewed.{Viewed}
use Rattle.client_turns.specs.Answers.{Answers}
use Rattle.client_turns.specs.Turns.{after, refused}
use Rattle.client_turns.specs.Lines.{Line, Told, wrote, listening, unlistened, document, result, rejected, error, snapshot, add, remove, send}
use Rattle.write_pipeline.specs.Order.{Steps, outstanding}
use Rattle.client_turns.specs.Past.{Turn, Past, asked, is_refused_in, listener, raised_in, sent_in, steps_by, steps_of, told, unless_refused, Entry}
use Rattle.client_turns.specs.Settling.{Settles, ShowsAt, Stance, stance_of, told_to, HasTargetRow}
use Rattle.client_turns.specs.LimboListens.{going_on, limbo_of}
use Rattle.sync_engine.specs.Standing.{IsQuiet, Kept, StandsAfter, StandsFor, StandsOn, StandsWith, Watches, limbo_in, stance_in}
use Rattle.sync_engine.specs.Telling.{HandsOut, HandsSettled, IsOutcome, IsRaised, IsShown, KeepsRest, Raises, ResetsAsDue}
use Rattle.client_turns.specs.Asking.{resets_by}
use Rattle.sync_engine.specs.Stream.{resets_of}
use Rattle.client_turns.specs.Turn.{IsSettled, SettlesAfter, answered_next, is_heard, snapshot_line, with_snapshots}
use Rattle.client_turns.specs.Watching.{begun_by, begun_in, calls_of, listened, listened_by, listened_in, requested_by, step_by}
use Rattle.sync_engine.specs.declared.out.Out.{Out}
use Rattle.sync_engine.specs.declared.out.Out.TheVariants.{Document, Listening, Unlistened, Wrote, Result, Rejected, Error, Raised as RaisedBy, AddLimboTarget, AddTarget, RemoveTarget, SendHandshake, SendBatch}
use Rattle.sync_engine.specs.declared.out.Outcome.{Outcome}
use Rattle.sync_engine.specs.declared.out.Outcome.TheVariants.{Done, Refused}
use Rattle.client_turns.specs.declared.refusal.Refusal.{Refusal}
use Rattle.sync_engine.proofs.Quiet.{settles_none}
use Rattle.sync_engine.proofs.Following.{AreQuiet, Follows, stance_same}
use Rattle.client_turns.proofs.Reading.{fold_told, stance_behind, targets_behind}
use Rattle.sync_engine.proofs.Passing.{watches_behind}
use Rattle.client_turns.proofs.Steps.{sent_behind, sent_told}
use Rattle.sync_engine.specs.declared.watch_stream.Due.TheVariants.{Nothing}
use Rattle.sync_engine.specs.declared.watch_stream.WatchStream.{WatchStream}
use Rattle.sync_engine.specs.declared.write_stream.WriteStream.{WriteStream}
use Rattle.client_turns.proofs.Ones.{all_told}

-- ---- the snapshots among the lines

pub raised_behind : (id : ℕ) (xs ys : List Line) → raised_in id xs ≡ None → raised_in id (xs ++ ys) ≡ raised_in id ys
raised_behind id [] ys none = refl
raised_behind id (wrote b c ∷ xs) ys none = raised_behind id xs ys none
raised_behind id (listening i t c ∷ xs) ys none = raised_behind id xs ys none
raised_behind id (unlistened i c ∷ xs) ys none = raised_behind id xs ys none
raised_behind id (document k d h ∷ xs) ys none = raised_behind id xs ys none
raised_behind id (result b c t ∷ xs) ys none = raised_behind id xs ys none
raised_behind id (rejected b c t ∷ xs) ys none = raised_behind id xs ys none
raised_behind id (error i t ∷ xs) ys none = raised_behind id xs ys none
raised_behind id (add t r ∷ xs) ys none = raised_behind id xs ys none
raised_behind id (remove t ∷ xs) ys none = raised_behind id xs ys none
raised_behind id (send r ∷ xs) ys none = raised_behind id xs ys none
raised_behind id (snapshot c r t ∷ xs) ys none = go (raised_behind id xs ys) (nat_eq t.id id) none
  where
    go : (raised_in id xs ≡ None → raised_in id (xs ++ ys) ≡ raised_in id ys) → (b : Bool) → (if b then Some t.raised else raised_in id xs) ≡ None → (if b then Some t.raised else raised_in id (xs ++ ys)) ≡ raised_in id ys
    go rest true is = absurd (none-some t.raised (sym is))
    go rest false is = rest is

-- a listener is refused by what stands in either part
pub refused_behind : (id : ℕ) (xs ys : List Line) → is_refused_in id ys ≡ false → is_refused_in id (xs ++ ys) ≡ is_refused_in id xs
refused_behind id [] ys none = none
refused_behind id (wrote b c ∷ xs) ys none = refused_behind id xs ys none
refused_behind id (listening i t c ∷ xs) ys none = refused_behind id xs ys none
refused_behind id (unlistened i c ∷ xs) ys none = refused_behind id xs ys none
refused_behind id (document k d h ∷ xs) ys none = refused_behind id xs ys none
refused_behind id (result b c t ∷ xs) ys none = refused_behind id xs ys none
refused_behind id (rejected b c t ∷ xs) ys none = refused_behind id xs ys none
refused_behind id (error i t ∷ xs) ys none = ap (λ b. nat_eq i id || b) (refused_behind id xs ys none)
refused_behind id (snapshot c r t ∷ xs) ys none = refused_behind id xs ys none
refused_behind id (add t r ∷ xs) ys none = refused_behind id xs ys none
refused_behind id (remove t ∷ xs) ys none = refused_behind id xs ys none
refused_behind id (send r ∷ xs) ys none = refused_behind id xs ys none

pub refused_told : (id : ℕ) (s : State) (ts : List Told) → is_refused_in id (each (snapshot_line s) ts) ≡ false
refused_told id s [] = refl
refused_told id s (t ∷ ts) = refused_told id s ts

pub raised_told : (id : ℕ) (s : State) (ts : List Told) → raised_in id (each (snapshot_line s) ts) ≡ told_to id ts
raised_told id s [] = refl
raised_told id s (t ∷ ts) = ap (λ o. if nat_eq t.id id then Some t.raised else o) (raised_told id s ts)

pub zip_append : {X Y : Type 0} (R : X → Y → Type 0) (xs : List X) (ys : List Y) (us : List X) (vs : List Y) → AllZip R xs ys → AllZip R us vs → AllZip R (xs ++ us) (ys ++ vs)
zip_append R [] [] us vs first second = second
zip_append R [] (y ∷ ys) us vs first second = absurd first
zip_append R (x ∷ xs) [] us vs first second = absurd first
zip_append R (x ∷ xs) (y ∷ ys) us vs first second = (first.0, zip_append R xs ys us vs first.1 second)

-- ---- where the listeners were settled

-- what an event comes to and what is handed out, but for the requests that go out
pub record Handed (s : State) (past : Past) (e : Event) (answer : Turn) (outs : List Out) (client : Kept) : Type 0 where
  pub turn : Turn
  pub is_settled : IsSettled client.root s past e turn
  pub stands : StandsWith client (after s turn.commit) (record { state = s; event = e; turn = turn } ∷ past) (going_on (calls_of past) (step_by e turn.refusal) (limbo_of past))
  pub shown : AllZip (IsShown client) outs turn.lines
  pub refusal : turn.refusal ≡ answer.refusal
  pub commit : turn.commit ≡ answer.commit

module _ (s : State) (past : Past) (e : Event) (answer : Turn) (mid new : Kept) (before after_them : List Out)
    (answers : Answers s past e answer) (heard : is_heard answer.refusal ≡ true)
    (it : Follows mid (after s answer.commit) (answered_next s past e answer) (going_on (calls_of past) (step_by e answer.refusal) (limbo_of past)))
    (rest : KeepsRest mid new) (raises : Raises mid new before after_them)
    (unraised : (id : ℕ) → raised_in id answer.lines ≡ None) where
  abbrev later : State
  later = after s answer.commit

  abbrev next : Past
  next = answered_next s past e answer

  abbrev limbo : Limbo
  limbo = going_on (calls_of past) (step_by e answer.refusal) (limbo_of past)

  abbrev ts : List Told
  ts = raises.told

  abbrev snaps : List Line
  snaps = each (snapshot_line later) ts

  abbrev turn : Turn
  turn = with_snapshots later answer ts

  abbrev behind : Past
  behind = answered_next s past e turn

  new_state : new.store.state ≡ later
  new_state = ap (λ (x : Store). x.state) rest.store ∙ it.state

  settles : Settles new.root later (stance_of next) (λ id. listener id next) ts
  settles = record {
    ascending = raises.settles.ascending;
    each = λ id.
        subst (λ (root : Root). ShowsAt root later (stance_of next id) (listener id next) (told_to id ts)) (sym rest.root)
        (subst (λ (k : Stance). ShowsAt mid.root later k (listener id next) (told_to id ts)) (stance_same it id)
        (subst (λ (v : Option Viewed). ShowsAt mid.root later (stance_in mid id) v (told_to id ts)) (it.listeners id)
        (subst (λ (x : State). ShowsAt mid.root x (stance_in mid id) (viewed mid.listeners id) (told_to id ts)) it.state (raises.settles.each id))));
  }

  -- the listener of an id after the event, and after its snapshots
  abbrev held : ℕ → Option Viewed
  held id = unless_refused (is_refused_in id answer.lines) (asked id e (listener id past))

  held_is : (id : ℕ) → listener id next ≡ held id
  held_is id = ap (λ r. told r (held id)) (unraised id)

  behind_is : (id : ℕ) → listener id behind ≡ told (told_to id ts) (listener id next)
  behind_is id =
      ap (λ r. told r (unless_refused (is_refused_in id (answer.lines ++ snaps)) (asked id e (listener id past)))) (raised_behind id answer.lines snaps (unraised id) ∙ raised_told id later ts)
      ∙ ap (λ b. told (told_to id ts) (unless_refused b (asked id e (listener id past)))) (refused_behind id answer.lines snaps (refused_told id later ts))
      ∙ ap (told (told_to id ts)) (sym (held_is id))

  heard_then_is : (id : ℕ) → viewed new.listeners id ≡ listener id behind
  heard_then_is id = raises.listeners id ∙ ap (told (told_to id ts)) (it.listeners id) ∙ sym (behind_is id)

  silent : (h : Steps) → sent_in turn.lines h ≡ sent_in answer.lines h
  silent h = sent_behind answer.lines snaps h ∙ sent_told later ts (sent_in answer.lines h)

  steps_same : steps_of behind ≡ steps_of next
  steps_same = silent (steps_by e answer.refusal (steps_of past))

  no_target : (id : ℕ) (was : Option ℤ) → listened_in id snaps was ≡ was
  no_target id was = fold_told (listened_by id) (λ b r t. refl) later ts was

  no_begin : (ids : List ℕ) → begun_in snaps ids ≡ ids
  no_begin ids = fold_told begun_by (λ b r t. refl) later ts ids

  targets_are : (id : ℕ) → listened id behind ≡ listened id next
  targets_are id = targets_behind past s e answer snaps no_target no_begin id

  stances_are : (id : ℕ) → stance_of behind id ≡ stance_of next id
  stances_are id = stance_behind past s e answer snaps no_target no_begin id

  watch_is : Watches new.watch behind limbo
  watch_is =
      subst (λ (w : WatchStream). Watches w behind limbo) (sym rest.watch)
      (watches_behind past s e answer snaps no_target no_begin (λ h. fold_told requested_by (λ b r t. refl) later ts h) it.watch)

  unshown : (id : ℕ) → listener id behind ≡ None → limbo_in new id ≡ []
  unshown id none =
      let never : listener id next ≡ None = untold (told_to id ts) (listener id next) (sym (behind_is id) ∙ none) in
      raises.unshown id (it.listeners id ∙ never) ∙ it.unshown id never
    where
      untold : (r : Option Raised) (v : Option Viewed) → told r v ≡ None → v ≡ None
      untold None v is = is
      untold (Some raised) None is = refl
      untold (Some raised) (Some view) is = absurd (none-some (record { target = view.target; raised = Some raised }) (sym is))

  stands : StandsWith new later behind limbo
  stands = record {
    state = new_state;
    listeners = heard_then_is;
    targets = λ id. rest.targets id ∙ it.targets id ∙ sym (targets_are id);
    rows = λ id. subst (λ (o : Option ℤ). IfSome o (HasTargetRow later.rows)) (sym (targets_are id)) (it.rows id);
    quiet = λ id.
        subst (λ (k : Stance). IfSome (listener id behind) (IsQuiet new.root later k (limbo_in new id))) (stance_same it id ∙ sym (stances_are id))
        (subst (λ (v : Option Viewed). IfSome v (IsQuiet new.root later (stance_in mid id) (limbo_in new id))) (heard_then_is id)
        (subst (λ (root : Root). IfSome (viewed new.listeners id) (IsQuiet root later (stance_in mid id) (limbo_in new id))) (sym rest.root)
        (subst (λ (x : State). IfSome (viewed new.listeners id) (IsQuiet mid.root x (stance_in mid id) (limbo_in new id))) it.state (raises.quiet id))));
    unshown = unshown;
    limbo_is = rest.limbo ∙ it.limbo_is;
    sound = it.sound;
    watch = watch_is;
    writes = subst (λ (h : Steps). StandsOn new.writes h) (sym steps_same) (subst (λ (w : WriteStream). StandsOn w (steps_of next)) (sym rest.writes) it.writes);
    pending = subst (λ (h : Steps). outstanding h ≤ length later.batches) (sym steps_same) it.pending;
  }

  -- who raised a snapshot is a listener
  is_raised : (t : Told) → told_to t.id ts ≡ Some t.raised → IsRaised new t.id (snapshot_line later t)
  is_raised t is = go (viewed mid.listeners t.id) refl (subst (ShowsAt mid.root mid.store.state (stance_in mid t.id) (viewed mid.listeners t.id)) is (raises.settles.each t.id))
    where
      go : (v : Option Viewed) → viewed mid.listeners t.id ≡ v → ShowsAt mid.root mid.store.state (stance_in mid t.id) (viewed mid.listeners t.id) (Some t.raised) → IsRaised new t.id (snapshot_line later t)
      go None there shows = absurd (none-some t.raised (sym (subst (λ (v : Option Viewed). ShowsAt mid.root mid.store.state (stance_in mid t.id) v (Some t.raised)) there shows)))
      go (Some view) there shows = record {
        view = record { target = view.target; raised = Some t.raised };
        there = raises.listeners t.id ∙ ap (λ r. told r (viewed mid.listeners t.id)) is ∙ ap (told (Some t.raised)) there;
        raised = t.raised;
        last = refl;
        is = λ i. snapshot (sym new_state i).number (sym new_state i).last_read t;
      }

  shown : (us : List Told) → All (λ (t : Told). told_to t.id ts ≡ Some t.raised) us → AllZip (IsShown new) (each (λ (t : Told). RaisedBy t.id) us) (each (snapshot_line later) us)
  shown [] all = tt
  shown (u ∷ us) all = (is_raised u (All-head (λ (t : Told). told_to t.id ts ≡ Some t.raised) u us all), shown us (All-tail (λ (t : Told). told_to t.id ts ≡ Some t.raised) u us all))

  pub handed : AllZip (IsShown new) before answer.lines → Handed s past e answer after_them new
  handed first = record {
    turn = turn;
    is_settled = record {
      answer = answer;
      answers = answers;
      settles = subst (λ (b : Bool). SettlesAfter new.root s past e answer b turn) (sym heard) (record { told = ts; settles = settles; is = refl });
    };
    stands = stands;
    shown = subst (λ (os : List Out). AllZip (IsShown new) os turn.lines) (sym raises.outs)
        (zip_append (IsShown new) before answer.lines (each (λ (t : Told). RaisedBy t.id) ts) snaps first (shown ts (all_told ts raises.settles.ascending)));
    refusal = refl;
    commit = refl;
  }

-- ---- the outcome

pub as_done : {s : State} {past : Past} {e : Event} {answer : Turn} {client : Kept} {vec : Vec Out Global} → answer.refusal ≡ None → ResetsAsDue past e answer.commit client → Handed s past e answer vec.items client → HandsSettled s past e (Done vec) client
as_done {s} {past} {e} {answer} {client} {vec} none resets it = record {
  turn = it.turn;
  is_settled = it.is_settled;
  stands = subst (StandsAfter client (after s it.turn.commit) (record { state = s; event = e; turn = it.turn }) past) (sym (ap is_heard (it.refusal ∙ none))) it.stands;
  outcome = (it.refusal ∙ none, it.shown);
  idle = tt;
  resets = subst (λ (made : Option Commit). ResetsAsDue past e made client) (sym it.commit) resets;
}

-- an event that resets no target
pub no_reset : (past : Past) (e : Event) (commit : Option Commit) (client : Kept) → ((t : ℤ) → resets_by e commit past t ≡ false) → resets_of client.watch.due ≡ [] → ResetsAsDue past e commit client
no_reset past e commit client never none t = (λ is. absurd (true≢false (sym is ∙ never t)), λ is. absurd (let inside = (subst (λ (l : List ℤ). Contains l t) none is).1 in omega (arith, inside)))

pub as_refused : {s : State} {past : Past} {e : Event} {answer : Turn} {client : Kept} {vec : Vec Out Global} (refusal : Refusal) → answer.refusal ≡ Some refusal → is_heard (Some refusal) ≡ true → client.watch.due ≡ Nothing → Handed s past e answer vec.items client
    → HandsSettled s past e (Refused refusal vec) client
as_refused {s} {past} {e} {answer} {client} {vec} refusal is heard idle it = record {
  turn = it.turn;
  is_settled = it.is_settled;
  stands = subst (StandsAfter client (after s it.turn.commit) (record { state = s; event = e; turn = it.turn }) past) (sym (ap is_heard (it.refusal ∙ is) ∙ heard)) it.stands;
  outcome = (it.refusal ∙ is, it.shown);
  idle = idle;
  resets = tt;
}

-- ---- where no listener raises anything

-- where every listener is quiet, nothing is raised
pub raises_none : {client : Kept} (outs : List Out) → AreQuiet client → Raises client client outs outs
raises_none {client} outs quiet = record {
  told = [];
  settles = settles_none client.root client.store.state (stance_in client) (limbo_in client) (viewed client.listeners) all;
  outs = sym (append-nil outs);
  listeners = λ id. refl;
  quiet = all;
  unshown = λ id none. refl;
}
  where
    by : (id : ℕ) (v : Option Viewed) → viewed client.listeners id ≡ v → IfSome v (IsQuiet client.root client.store.state (stance_in client id) (limbo_in client id))
    by id None there = tt
    by id (Some view) there = quiet id view there

    all : (id : ℕ) → IfSome (viewed client.listeners id) (IsQuiet client.root client.store.state (stance_in client id) (limbo_in client id))
    all id = by id (viewed client.listeners id) refl

pub keeps_all : {client : Kept} → KeepsRest client client
keeps_all = record { root = refl; store = refl; targets = λ id. refl; limbo = refl; watch = refl; writes = refl; spent = refl }

-- ---- refusals that are not heard

pub hands_refused : {client : Kept} {s : State} {past : Past} {e : Event} {vec : Vec Out Global} (refusal : Refusal) → is_heard (Some refusal) ≡ false → client.watch.due ≡ Nothing → StandsFor client s past → Answers s past e (refused refusal) → vec.items ≡ []
    → HandsSettled s past e (Refused refusal vec) client
hands_refused {client} {s} {past} {e} {vec} refusal unheard idle stands answers none =
    let entry : Entry = record { state = s; event = e; turn = refused refusal } in
    record {
      turn = refused refusal;
      is_settled = record { answer = refused refusal; answers = answers; settles = subst (λ (b : Bool). SettlesAfter client.root s past e (refused refusal) b (refused refusal)) (sym unheard) refl };
      stands = subst (StandsAfter client s entry past) (sym unheard) stands;
      outcome = (refl, subst (λ (os : List Out). AllZip (IsShown client) os []) (sym none) tt);
      idle = idle;
      resets = tt;
    }

-- a listener stays, or another
pub same_id : (id q : ℕ) → is_id id q ≡ nat_eq id q
same_id id q = by (is_id id q) refl (nat_eq id q) refl
  where
    by : (a : Bool) → is_id id q ≡ a → (b : Bool) → nat_eq id q ≡ b → is_id id q ≡ nat_eq id q
    by true one true two = one ∙ sym two
    by true one false two = absurd (eqb-false id q two (one_id id q one))
    by false one true two = absurd (other_ids id q one (sym (eqb-true id q two)))
    by false one false two = one ∙ sym two

-- ---- whether there is a listener

pub none_viewed : {A B : Type 0} (f : A → B) (r : Option A) (v : Option B) (b : Bool) → option_map f r ≡ v → is_some r ≡ not b → b ≡ true → v ≡ None
none_viewed f None v b maps is so = sym maps
none_viewed f (Some x) v b maps is so = absurd (true≢false (is ∙ ap not so))

pub some_viewed : {A B : Type 0} (f : A → B) (r : Option A) (v : Option B) (b : Bool) → option_map f r ≡ v → is_some r ≡ not b → b ≡ false → (x : B) × (v ≡ Some x)
some_viewed f None v b maps is so = absurd (true≢false (sym (is ∙ ap not so)))
some_viewed f (Some x) v b maps is so = (f x, sym maps)

-- ---- whether it is spent says nothing of what it stands for

abbrev as_spent : Kept → Bool → Kept
as_spent k b = record { root = k.root; store = k.store; listeners = k.listeners; limbo = k.limbo; watch = k.watch; writes = k.writes; spent = b }

pub stands_still : {k : Kept} {s : State} {past : Past} (b : Bool) → StandsFor k s past → StandsFor (as_spent k b) s past
stands_still b stands = record { state = stands.state; listeners = stands.listeners; targets = stands.targets; rows = stands.rows; quiet = stands.quiet; unshown = stands.unshown; limbo_is = stands.limbo_is; sound = stands.sound; watch = stands.watch; writes = stands.writes; pending = stands.pending }

shown_still : (k : Kept) (b : Bool) (out : Out) (line : Line) → IsShown k out line → IsShown (as_spent k b) out line
shown_still k b (Wrote batch commit) line is = is
shown_still k b (Listening id target commit) line is = is
shown_still k b (Unlistened id commit) line is = is
shown_still k b (Document key) line is = is
shown_still k b (Result batch commit time) line is = is
shown_still k b (Rejected batch commit status) line is = is
shown_still k b (Error id status) line is = is
shown_still k b (AddTarget t) line is = record { row = is.row; of_id = is.of_id; is = is.is }
shown_still k b (AddLimboTarget t) line is = record { key = is.key; of_id = is.of_id; is = is.is }
shown_still k b (RemoveTarget t) line is = is
shown_still k b SendHandshake line is = is
shown_still k b (SendBatch place) line is = record { steps = is.steps; stands = is.stands; batch = is.batch; there = is.there; is = is.is }
shown_still k b (RaisedBy id) line is = record { view = is.view; there = is.there; raised = is.raised; last = is.last; is = is.is }

all_still : (k : Kept) (b : Bool) (outs : List Out) (lines : List Line) → AllZip (IsShown k) outs lines → AllZip (IsShown (as_spent k b)) outs lines
all_still k b [] [] all = tt
all_still k b [] (line ∷ lines) all = absurd all
all_still k b (out ∷ outs) [] all = absurd all
all_still k b (out ∷ outs) (line ∷ lines) all = (shown_still k b out line all.0, all_still k b outs lines all.1)

outcome_still : (k : Kept) (b : Bool) (handed : Outcome) (t : Turn) → IsOutcome handed k t → IsOutcome handed (as_spent k b) t
outcome_still k b (Done outs) t is = (is.0, all_still k b outs.items t.lines is.1)
outcome_still k b (Refused refusal outs) t is = (is.0, all_still k b outs.items t.lines is.1)

pub hands_still : {k : Kept} {s : State} {past : Past} {e : Event} {handed : Outcome} (b : Bool) → HandsOut s past e handed k → HandsOut s past e handed (as_spent k b)
hands_still {k} {s} {past} {e} {handed} b it = record { turn = it.turn; is_turn = it.is_turn; stands = stands_still b it.stands; outcome = outcome_still k b handed it.turn it.outcome }
