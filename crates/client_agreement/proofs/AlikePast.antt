-- The events of a client's past say of each id what the calls on its stream say.
use Rattle.std.proofs.Common.{◌≡◌, ◌∙◌, ℤ, Bool, true, false, ◌&&◌, ◌||◌, List, [], ◌∷◌, ◌++◌, map as each, Option, Some, None, refl, sym, ap, subst, append_assoc}
use Rattle.std.specs.List.{AllZip, list_any}
use Rattle.std.specs.Ordering.{int_eq}
use Rattle.std.proofs.lemmas.Bool.{and_parts}
use Rattle.std.proofs.lemmas.List.Sums.{fold-append}
use Rattle.client_events.specs.declared.event.Event.{Event as Happening}
use Rattle.document_keys.specs.Names.{Root}
use Rattle.listen_protocol.specs.Calls.{Calls, asked, unasked, came}
use Rattle.listen_protocol.specs.Transcript as stream
use Rattle.durable_state.specs.State.{State}
use Rattle.mutations.specs.declared.batch.Batch.{Batch}
use Rattle.record_codec.specs.declared.commit.Commit.{Commit}
use Rattle.value_model.specs.declared.message.ListenResponse.{ListenResponse}
use Rattle.agreement.specs.Backend.{Id}
use Rattle.agreement.specs.Streams.{message_of}
use Rattle.agreement.specs.Transcript.{Event, Asked, Cut, Heard, Unasked, token, told}
use Rattle.client_turns.specs.Asking.{AsksIf, resets_by}
use Rattle.client_turns.specs.LimboListens.{limbo_of}
use Rattle.client_turns.specs.Lines.{Line, add, document, error, listening, rejected, remove, result, send, snapshot, unlistened, wrote}
use Rattle.client_turns.specs.Order.{AreHeard}
use Rattle.client_turns.specs.Past.{Past, Turn, steps_by, steps_of}
use Rattle.client_turns.specs.Turn.{IsTurn, answered_next, batches_behind, is_heard, unless_refused, with_limbo}
use Rattle.client_turns.specs.Turns.{after}
use Rattle.client_turns.specs.Watching.{WatchStep, calls_by, calls_of, closes, held_keys, hears, is_watched, opens, passes, requested_by, requested_in, rings, step_of, wanted_document}
use Rattle.client_turns.specs.Writing.{request_of as batch_request, requests, to_send}
use Rattle.client_turns.specs.declared.refusal.Refusal.{Refusal}
use Rattle.client_turns.proofs.Requested.{IsAdd, all_adds}
use Rattle.client_turns.proofs.Requests.{AddsNone, settled_plain}
use Rattle.write_pipeline.specs.Order.{latest_token}
use Rattle.client_agreement.specs.Transcript.{asked_by, asked_in, came_by, is_removed_in, removes, request_of, transcript}
use Rattle.client_agreement.proofs.Alike.{Alike, AreAlike, alike_again, alike_asked, alike_came, alike_cut, alike_first, alike_none, alike_passed, alike_unasked, says, token_came}

-- ---- lines that request nothing, or only adds or only removes

abbrev pub IsNoRemove : Line → Type 0
IsNoRemove (remove t) = ⊥
IsNoRemove _ = Unit {0}

-- none of these lines is a remove request
abbrev pub RemovesNone : List Line → Type 0
RemovesNone [] = Unit {0}
RemovesNone (line ∷ lines) = IsNoRemove line × RemovesNone lines

removes_none : (t : ℤ) (lines : List Line) → RemovesNone lines → is_removed_in lines t ≡ false
removes_none t [] none = refl
removes_none t (wrote b c ∷ lines) none = removes_none t lines none.1
removes_none t (listening i x c ∷ lines) none = removes_none t lines none.1
removes_none t (unlistened i c ∷ lines) none = removes_none t lines none.1
removes_none t (document k d w ∷ lines) none = removes_none t lines none.1
removes_none t (result b c at ∷ lines) none = removes_none t lines none.1
removes_none t (rejected b c why ∷ lines) none = removes_none t lines none.1
removes_none t (error i why ∷ lines) none = removes_none t lines none.1
removes_none t (snapshot c at told ∷ lines) none = removes_none t lines none.1
removes_none t (add x row ∷ lines) none = removes_none t lines none.1
removes_none t (remove x ∷ lines) none = absurd none.0
removes_none t (send w ∷ lines) none = removes_none t lines none.1

adds_none : (lines : List Line) → AddsNone lines → (x : List Event) → asked_in lines x ≡ x
adds_none [] none x = refl
adds_none (wrote b c ∷ lines) none x = adds_none lines none.1 x
adds_none (listening i t c ∷ lines) none x = adds_none lines none.1 x
adds_none (unlistened i c ∷ lines) none x = adds_none lines none.1 x
adds_none (document k d w ∷ lines) none x = adds_none lines none.1 x
adds_none (result b c at ∷ lines) none x = adds_none lines none.1 x
adds_none (rejected b c why ∷ lines) none x = adds_none lines none.1 x
adds_none (error i why ∷ lines) none x = adds_none lines none.1 x
adds_none (snapshot c at told ∷ lines) none x = adds_none lines none.1 x
adds_none (add t row ∷ lines) none x = absurd none.0
adds_none (remove t ∷ lines) none x = adds_none lines none.1 x
adds_none (send w ∷ lines) none x = adds_none lines none.1 x

any_behind : {A : Type 0} (test : A → Bool) (xs ys : List A) → list_any test (xs ++ ys) ≡ (list_any test xs || list_any test ys)
any_behind test [] ys = refl
any_behind test (x ∷ xs) ys = ap (λ b. test x || b) (any_behind test xs ys) ∙ shift (test x) (list_any test xs) (list_any test ys)
  where
    shift : (a b c : Bool) → (a || (b || c)) ≡ ((a || b) || c)
    shift true b c = refl
    shift false b c = refl

-- ---- what requests do

module _ (id : Id) where
  -- add requests
  alike_adds : (lines : List Line) → RemovesNone lines → (x : List Event) (h : Calls) → AreAlike id x h → AreAlike id (asked_in lines x) (requested_in lines h)
  alike_adds [] none x h it = it
  alike_adds (wrote b c ∷ lines) none x h it = alike_adds lines none.1 x h it
  alike_adds (listening i t c ∷ lines) none x h it = alike_adds lines none.1 x h it
  alike_adds (unlistened i c ∷ lines) none x h it = alike_adds lines none.1 x h it
  alike_adds (document k d w ∷ lines) none x h it = alike_adds lines none.1 x h it
  alike_adds (result b c at ∷ lines) none x h it = alike_adds lines none.1 x h it
  alike_adds (rejected b c why ∷ lines) none x h it = alike_adds lines none.1 x h it
  alike_adds (error i why ∷ lines) none x h it = alike_adds lines none.1 x h it
  alike_adds (snapshot c at told ∷ lines) none x h it = alike_adds lines none.1 x h it
  alike_adds (add t row ∷ lines) none x h it = alike_adds lines none.1 (Asked t (request_of row) ∷ x) (asked t (held_keys row.held) (wanted_document row.target) ∷ h) (alike_asked id t row x h it)
  alike_adds (remove t ∷ lines) none x h it = absurd none.0
  alike_adds (send w ∷ lines) none x h it = alike_adds lines none.1 x h it

  -- behind remove requests, of which the id is one or not
  abbrev BehindRemoves : List Event → Bool → Calls → Type 0
  BehindRemoves x removed h = (ids : Id → Bool) → ids id ≡ removed → AreAlike id (Unasked ids ∷ x) h

  or_false : (b : Bool) → (b || false) ≡ b
  or_false true = refl
  or_false false = refl

  shift : (a b c : Bool) → (a || (b || c)) ≡ ((a || b) || c)
  shift true b c = refl
  shift false b c = refl

  alike_removes : (lines : List Line) → AddsNone lines → (x : List Event) (b : Bool) (h : Calls) → BehindRemoves x b h → BehindRemoves x (b || is_removed_in lines id) (requested_in lines h)
  alike_removes [] none x b h it = λ ids is. it ids (is ∙ or_false b)
  alike_removes (wrote i c ∷ lines) none x b h it = alike_removes lines none.1 x b h it
  alike_removes (listening i t c ∷ lines) none x b h it = alike_removes lines none.1 x b h it
  alike_removes (unlistened i c ∷ lines) none x b h it = alike_removes lines none.1 x b h it
  alike_removes (document k d w ∷ lines) none x b h it = alike_removes lines none.1 x b h it
  alike_removes (result i c at ∷ lines) none x b h it = alike_removes lines none.1 x b h it
  alike_removes (rejected i c why ∷ lines) none x b h it = alike_removes lines none.1 x b h it
  alike_removes (error i why ∷ lines) none x b h it = alike_removes lines none.1 x b h it
  alike_removes (snapshot c at told ∷ lines) none x b h it = alike_removes lines none.1 x b h it
  alike_removes (add t row ∷ lines) none x b h it = absurd none.0
  alike_removes (remove t ∷ lines) none x b h it = λ ids is.
      alike_removes lines none.1 x (b || int_eq t id) (unasked t ∷ h) (λ these at. alike_unasked id t x h (λ i. b) these at (it (λ i. b) refl)) ids (is ∙ shift b (int_eq t id) (is_removed_in lines id))
  alike_removes (send w ∷ lines) none x b h it = alike_removes lines none.1 x b h it

-- lines of which all removes come before all adds
pub record AreOrdered (lines : List Line) : Type 0 where
  pub first : List Line
  pub second : List Line
  pub adds : AddsNone first
  pub removes : RemovesNone second
  pub are : lines ≡ first ++ second

-- Behind the removes of the lines, and then their adds; `y` has `x` before it, and perhaps requests that remove some of the same.
alike_lines : (id : Id) (lines : List Line) → AreOrdered lines → (x y : List Event) (h : Calls) → AreAlike id x h
    → ((h : Calls) → AreAlike id (Unasked (is_removed_in lines) ∷ x) h → AreAlike id (Unasked (is_removed_in lines) ∷ y) h)
    → AreAlike id (asked_in lines (Unasked (is_removed_in lines) ∷ y)) (requested_in lines h)
alike_lines id lines it x y h alike more = subst (λ (x : List Event). AreAlike id x (requested_in lines h)) (sym asks) (subst (AreAlike id (asked_in it.second (Unasked (is_removed_in lines) ∷ y))) (sym requests_are) behind)
  where
    asks : asked_in lines (Unasked (is_removed_in lines) ∷ y) ≡ asked_in it.second (Unasked (is_removed_in lines) ∷ y)
    asks = ap (λ (ls : List Line). asked_in ls (Unasked (is_removed_in lines) ∷ y)) it.are ∙ fold-append asked_by (Unasked (is_removed_in lines) ∷ y) it.first it.second ∙ ap (asked_in it.second) (adds_none it.first it.adds (Unasked (is_removed_in lines) ∷ y))

    requests_are : requested_in lines h ≡ requested_in it.second (requested_in it.first h)
    requests_are = ap (λ (ls : List Line). requested_in ls h) it.are ∙ fold-append requested_by h it.first it.second

    removed : is_removed_in lines id ≡ (false || is_removed_in it.first id)
    removed = ap (λ (ls : List Line). is_removed_in ls id) it.are ∙ any_behind (removes id) it.first it.second ∙ ap (λ b. is_removed_in it.first id || b) (removes_none id it.second it.removes) ∙ or_false id (is_removed_in it.first id)

    behind : AreAlike id (asked_in it.second (Unasked (is_removed_in lines) ∷ y)) (requested_in it.second (requested_in it.first h))
    behind = alike_adds id it.second it.removes (Unasked (is_removed_in lines) ∷ y) (requested_in it.first h)
        (more (requested_in it.first h) (alike_removes id it.first it.adds x false h (λ ids is. alike_none id x h ids is alike) (is_removed_in lines) removed))

-- ---- the lines of a turn

removes_adds : (ids : List ℤ) (lines : List Line) → AllZip IsAdd ids lines → RemovesNone lines
removes_adds [] [] all = tt
removes_adds [] (line ∷ lines) all = absurd all
removes_adds (t ∷ ids) [] all = absurd all
removes_adds (t ∷ ids) (line ∷ lines) all = (subst IsNoRemove (sym all.0.1) tt, removes_adds ids lines all.1)

adds_removes : (ids : List ℤ) → AddsNone (each remove ids)
adds_removes [] = tt
adds_removes (t ∷ ids) = (tt, adds_removes ids)

removes_sent : (bytes : List _) (bs : List Batch) → RemovesNone (each (batch_request bytes) bs)
removes_sent bytes [] = tt
removes_sent bytes (b ∷ bs) = (tt, removes_sent bytes bs)

removes_batches : (s : State) (past : Past) (e : Happening) (t : Turn) → RemovesNone (batches_behind s past e t)
removes_batches s past e t = by t.refusal
  where
    by : (refusal : Option Refusal) → RemovesNone (unless_refused refusal (requests (steps_by e t.refusal (steps_of past)) (after s t.commit).batches))
    by None = removes_sent (latest_token (steps_by e t.refusal (steps_of past))) (to_send (steps_by e t.refusal (steps_of past)) (after s t.commit).batches)
    by (Some refusal) = tt

adds_behind : (xs ys : List Line) → AddsNone xs → AddsNone ys → AddsNone (xs ++ ys)
adds_behind [] ys none more = more
adds_behind (x ∷ xs) ys none more = (none.0, adds_behind xs ys none.1 more)

removes_behind : (xs ys : List Line) → RemovesNone xs → RemovesNone ys → RemovesNone (xs ++ ys)
removes_behind [] ys none more = more
removes_behind (x ∷ xs) ys none more = (none.0, removes_behind xs ys none.1 more)

-- what is asked has its removes first
asked_ordered : (goes : Bool) (s : State) (next : Past) (reset : ℤ → Bool) (lines : List Line) → AsksIf goes s next reset lines → AreOrdered lines
asked_ordered true s next reset lines it = record {
  first = each remove it.removed;
  second = it.adds ++ it.listen_adds;
  adds = adds_removes it.removed;
  removes = removes_adds (it.added ++ it.listens) (it.adds ++ it.listen_adds) (all_adds s (limbo_of next) it.added it.listens it.adds it.listen_adds it.rows it.keys);
  are = it.is ∙ append_assoc (each remove it.removed) it.adds it.listen_adds;
}
asked_ordered false s next reset lines it = record { first = []; second = []; adds = tt; removes = tt; are = it }

pub turn_ordered : (root : Root) (s : State) (past : Past) (e : Happening) (t : Turn) → IsTurn root s past e t → AreOrdered t.lines
turn_ordered root s past e t it = by (asked_ordered (is_heard it.settled.refusal && is_watched (answered_next s past e (with_limbo it.settled it.limbo))) (after s it.settled.commit) (answered_next s past e (with_limbo it.settled it.limbo)) (resets_by e it.settled.commit past) it.asked it.asks)
  where
    by : AreOrdered it.asked → AreOrdered t.lines
    by asks = record {
      first = it.settled.lines ++ asks.first;
      second = asks.second ++ batches_behind s past e it.settled;
      adds = adds_behind it.settled.lines asks.first (settled_plain root s past e it.settled it.is_settled) asks.adds;
      removes = removes_behind asks.second (batches_behind s past e it.settled) asks.removes (removes_batches s past e it.settled);
      are = ap (λ (x : Turn). x.lines) it.is ∙ ap (λ (ls : List Line). it.settled.lines ++ (ls ++ batches_behind s past e it.settled)) asks.are
          ∙ ap (λ (ls : List Line). it.settled.lines ++ ls) (append_assoc asks.first asks.second (batches_behind s past e it.settled))
          ∙ sym (append_assoc it.settled.lines asks.first (asks.second ++ batches_behind s past e it.settled));
    }

-- ---- a past

alike_entry : (id : Id) (step : WatchStep) (commit : Option Commit) (lines : List Line) (reset : Id → Bool) (x : List Event) (h : Calls) → AreOrdered lines → (reset id ≡ true → is_removed_in lines id ≡ true) → AreAlike id x h
    → AreAlike id (asked_in lines (Unasked (is_removed_in lines) ∷ came_by step reset x)) (requested_in lines (calls_by step commit h))
alike_entry id opens commit lines reset x h ordered within it = alike_lines id lines ordered (Cut ∷ x) (Cut ∷ x) [] (alike_cut id x) (λ g so. so)
alike_entry id closes commit lines reset x h ordered within it = alike_lines id lines ordered (Cut ∷ x) (Cut ∷ x) [] (alike_cut id x) (λ g so. so)
alike_entry id (hears m) commit lines reset x h ordered within it =
    alike_lines id lines ordered (Heard (message_of m) ∷ x) (Unasked reset ∷ Heard (message_of m) ∷ x) (calls_by (hears m) commit h) (alike_passed id m commit x h it)
    (λ g so. alike_again id (Heard (message_of m) ∷ x) g reset (is_removed_in lines) within so)
alike_entry id rings commit lines reset x h ordered within it = alike_lines id lines ordered x x h it (λ g so. so)
alike_entry id passes commit lines reset x h ordered within it = alike_lines id lines ordered x x h it (λ g so. so)

pub alike_past : (root : Root) (first : State) (past : Past) → AreHeard root first past → (id : Id) → AreAlike id (transcript past) (calls_of past)
alike_past root first [] heard id = alike_first id
alike_past root first (e ∷ past) heard id =
    alike_entry id (step_of e) e.turn.commit e.turn.lines (λ t. resets_by e.event e.turn.commit past t && is_removed_in e.turn.lines t) (transcript past) (calls_of past)
    (turn_ordered root e.state past e.event e.turn heard.1.turn) (λ is. (and_parts (resets_by e.event e.turn.commit past id) (is_removed_in e.turn.lines id) is).1) (alike_past root first past heard.0 id)

-- the events of a past say of every id what its calls say
pub alike_transcript : (root : Root) (first : State) (past : Past) → AreHeard root first past → Alike (transcript past) (calls_of past)
alike_transcript root first past heard = says (transcript past) (calls_of past) (λ id. (alike_past root first past heard id).alike)

-- and behind one more message
pub alike_heard : (root : Root) (first : State) (past : Past) → AreHeard root first past → (m : ListenResponse) → Alike (Heard (message_of m) ∷ transcript past) (came m ∷ calls_of past)
alike_heard root first past heard m = says (Heard (message_of m) ∷ transcript past) (came m ∷ calls_of past) (λ id. alike_came id m (transcript past) (calls_of past) (alike_past root first past heard id).alike)

pub token_heard : (root : Root) (first : State) (past : Past) → AreHeard root first past → (m : ListenResponse) (id : Id) → stream.counts id (came m ∷ calls_of past) ≡ true
    → token id (Heard (message_of m) ∷ transcript past) ≡ stream.token_in id (came m ∷ calls_of past)
token_heard root first past heard m id on = token_came id m (transcript past) (calls_of past) (alike_past root first past heard id) on
