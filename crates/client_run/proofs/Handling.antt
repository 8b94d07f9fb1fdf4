-- What one line does to the files, call by call.
use Rattle.std.proofs.Common.{◌≡◌, ◌≢◌, ◌==◌, ℕ, ◌⊎◌, inl, inr, Bool, false, true, IsTrue, List, [], ◌∷◌, ◌++◌, length, Option, Some, None, IfSome, option_map, refl, arith, append-nil, sym, ap, subst, ◌∙◌}
use Rattle.std.proofs.lemmas.Bool.{eqb-true, true≢false}
use Rattle.host_api.specs.Host.{Files, View, IsPart, Emits}
use Rattle.host_api.proofs.Spans.{spans_then, spans_weaker}
use Rattle.document_keys.specs.Names.{Root}
use Rattle.line_reader.specs.declared.reading.Reading.{Reading}
use Rattle.line_reader.specs.declared.reading.Reading.TheVariants.{Line as an_event, Refused}
use Rattle.line_reader.specs.declared.refusal.Refusal.{Refusal as Unread}
use Rattle.local_store.specs.Files.{FindsState, Moves}
use Rattle.local_store.specs.State.{State}
use Rattle.local_store.specs.Store.{IsSpent as IsStoreSpent, IsStored}
use Rattle.client_events.specs.declared.event.Event.{Event}
use Rattle.client_turns.specs.Turns.{after}
use Rattle.client_turns.specs.Past.{Turn, Past}
use Rattle.sync_engine.specs.Standing.{IsStanding, Kept, StandsFor}
use Rattle.sync_engine.specs.Telling.{HandsOut, Makes, MakesOne, MovesBy}
use Rattle.client_turns.specs.Turn.{SettlesAfter, heard_then, is_heard}
use Rattle.client_turns.specs.declared.refusal.Refusal.{Refusal}
use Rattle.sync_engine.specs.declared.out.Outcome.{Outcome}
use Rattle.client_run.specs.Printed.{printed}
use Rattle.record_codec.specs.declared.commit.Commit.{Commit}
use Rattle.sync_engine.proofs.Committed.{stored_finds}
use Rattle.client_run.specs.Taken.{IsTaken, MovesLine}
use Rattle.client_run.specs.Turn.{LineTurn, IsLineTurn, CommitsNext, CommitsOne, and_heard, of_event, refusal_in, unheard, unread_turn}
use Rattle.client_run.specs.Turned.{Coming, FindsCommit, HasTurn, InTurn, IsHandled, Turned, WrotePart, coming, text_of_turn}
use Rattle.client_run.specs.declared.taken.Taken.{Taken}
use Rattle.client_run.specs.declared.taken.Taken.TheVariants.{Unread as NoEvent, Heard}

-- ---- the commit of a turn

settled_commits : (root : Root) (s : State) (past : Past) (e : Event) (answer : Turn) (heard : Bool) (t : Turn) → SettlesAfter root s past e answer heard t → t.commit ≡ answer.commit
settled_commits root s past e answer true t is = ap (λ (x : Turn). x.commit) is.is
settled_commits root s past e answer false t is = ap (λ (x : Turn). x.commit) is

pub turn_commits : (root : Root) (s : State) (past : Past) (reading : Reading) (t : LineTurn) → IsLineTurn root s past reading t → CommitsNext s past reading t.commit
turn_commits root s past (Refused refusal) t is = ap (λ (x : LineTurn). x.commit) is
turn_commits root s past (an_event e) t is =
    let settled = is.is_turn.is_settled in
    (settled.answer, settled.answers, ap (λ (x : LineTurn). x.commit) is.is ∙ ap (λ (x : Turn). x.commit) is.is_turn.is ∙ settled_commits root s past e settled.answer (is_heard settled.answer.refusal) is.is_turn.settled settled.settles)

-- ---- taking a line

-- what is heard of an event, by its turn as that of its line
pub refusal_back : (r : Option Refusal) → refusal_in (option_map unheard r) ≡ r
refusal_back None = refl
refusal_back (Some refusal) = refl

heard_as : (s : State) (e : Event) (t : Turn) (past : Past) → heard_then (record { state = s; event = e; turn = t }) past ≡ and_heard s (an_event e) (of_event t) past
heard_as s e t past = λ i. heard_then (record { state = s; event = e; turn = record { refusal = sym (refusal_back t.refusal) i; commit = t.commit; lines = t.lines; limbo = t.limbo } }) past

pub event_taken : {s : State} {past : Past} {e : Event} {outcome : Outcome} {client : Kept} → HandsOut s past e outcome client → IsTaken s past (an_event e) (Heard outcome) client
event_taken {s} {past} {e} {outcome} {client} it = record {
  turn = of_event it.turn;
  is_turn = record { turn = it.turn; is_turn = it.is_turn; is = refl };
  stands = subst (StandsFor client (after s it.turn.commit)) (heard_as s e it.turn past) it.stands;
  tells = record { turn = it.turn; is = refl; outcome = it.outcome };
}

pub unread_taken : {s : State} {past : Past} {client : Kept} (refusal : Unread) → StandsFor client s past → IsTaken s past (Refused refusal) (NoEvent refusal) client
unread_taken {s} {past} {client} refusal stands = record { turn = unread_turn refusal; is_turn = refl; stands = stands; tells = refl }

pub event_moves : {s : State} {past : Past} {e : Event} {old new : View} → MovesBy s past e old new → MovesLine s past (an_event e) old new
event_moves {s} {past} {e} it = record { commit = it.commit; commits = by it.commit it.makes; moves = it.moves }
  where
    by : (made : Option Commit) → IfSome made (Makes s past e) → IfSome made (λ made. CommitsNext s past (an_event e) (Some made))
    by None makes = tt
    by (Some made) makes = (makes.0, makes.1, sym makes.2)

pub event_commits : {s : State} {past : Past} {e : Event} → MakesOne s past e → CommitsOne s past (an_event e)
event_commits it = record { made = it.made; commits = (it.makes.0, it.makes.1, sym it.makes.2) }

pub nothing_moves_line : {s : State} {past : Past} {old new : View} (refusal : Unread) → Moves s s old new → MovesLine s past (Refused refusal) old new
nothing_moves_line refusal moves = record { commit = None; commits = tt; moves = moves }

-- ---- and printing it

module _ (line : Coming) where
  moved : {old new : View} → (it : MovesLine line.state line.past line.reading old new) → (c : Files) → FindsState c line.state ⊎ FindsState c (after line.state it.commit) → FindsState c line.state ⊎ FindsCommit line c
  moved it c (inl early) = inl early
  moved it c (inr late) = by it.commit it.commits late
    where
      by : (made : Option Commit) → IfSome made (λ made. CommitsNext line.state line.past line.reading (Some made)) → FindsState c (after line.state made) → FindsState c line.state ⊎ FindsCommit line c
      by None commits finds = inl finds
      by (Some made) commits finds = inr (record { commit = Some made; commits = commits; finds = finds })

  -- a commit alone
  pub turned_moved : {old new : View} → MovesLine line.state line.past line.reading old new → Turned line old new
  turned_moved {old} {new} it = record {
    crash = λ c left. moved it c (it.moves.crash c left);
    time = spans_weaker (InTurn line old.out) it.moves.time (λ o c h. inl (h.0, moved it c h.1));
  }

  -- a commit, and then its lines or a part of them
  pub turned_emitted : {old mid new : View} {text : List ℕ} (t : LineTurn) → HasTurn line t → text ≡ text_of_turn line t → mid.out ≡ old.out → MovesLine line.state line.past line.reading old mid
      → ((c : Files) → mid.may_leave c → FindsState c (after line.state t.commit)) → Emits text mid new → Turned line old new
  turned_emitted {old} {mid} {new} {text} t is written same it finds emits = record {
    crash = λ c left. inr (record { commit = t.commit; commits = turn_commits line.root line.state line.past line.reading t is; finds = finds c (emits.crash c left) });
    time = spans_then (InTurn line old.out) (spans_weaker (InTurn line old.out) it.moves.time (λ o c h. inl (h.0, moved it c h.1))) emits.time (λ o c h. h)
        (λ o c h. inr (record {
          turn = t;
          is_turn = is;
          part = subst (λ (x : List ℕ). IsPart x old.out o) written (subst (λ (out : List ℕ). IsPart text out o) same h.0);
          finds = finds c h.1;
        }));
  }

-- ---- what was handed out, and printed

pub taken_turn : {s : State} {past : Past} {reading : Reading} {taken : Taken} {client : Kept} (root : Root) (number : ℕ) → client.root ≡ root → (it : IsTaken s past reading taken client) → HasTurn (coming root s past reading number) it.turn
taken_turn {s} {past} {reading} root number same it = subst (λ (r : Root). IsLineTurn r s past reading it.turn) same it.is_turn

pub taken_text : {text shown : List ℕ} (here root : Root) (number : ℕ) (t : LineTurn) → here ≡ root → shown ≡ text → text ≡ printed here number t → shown ≡ printed root number t
taken_text here root number t same whole is = whole ∙ is ∙ ap (λ (r : Root). printed r number t) same

pub handled_as : {s : State} {past : Past} {reading : Reading} {taken : Taken} {client : Kept} {old mid new shown : List ℕ} (root : Root) (number : ℕ) (tells_out : Bool) → client.root ≡ root → (it : IsTaken s past reading taken client) → shown ≡ printed root number it.turn → mid ≡ old → (IsTrue tells_out → new ≡ mid ++ shown)
    → IsHandled (coming root s past reading number) client tells_out old new
handled_as {old = old} {shown = shown} root number tells_out same it written stays out = record {
  turn = it.turn;
  is_turn = taken_turn root number same it;
  stands = it.stands;
  out = λ told. out told ∙ ap (λ (o : List ℕ). o ++ shown) stays ∙ ap (λ (t : List ℕ). old ++ t) written;
}

-- whether a text is empty
pub is_nothing : (text : List ℕ) (b : Bool) → b ≡ (length text == 0) → b ≡ true → text ≡ []
is_nothing [] b is empty = refl
is_nothing (x ∷ text) b is empty = let none = eqb-true (length (x ∷ text)) 0 (sym is ∙ empty) in absurd (omega (arith, none))

pub is_something : (text : List ℕ) (b : Bool) → b ≡ (length text == 0) → b ≡ false → text ≢ []
is_something text b is some none = true≢false (sym (is ∙ ap (λ (t : List ℕ). length t == 0) none) ∙ some)

-- no lines go out
pub nothing_more : {mid shown : List ℕ} → shown ≡ [] → mid ≡ mid ++ shown
nothing_more {mid} {shown} none = sym (ap (λ (t : List ℕ). mid ++ t) none ∙ append-nil mid)

pub wrote_part : {s : State} {past : Past} {reading : Reading} {taken : Taken} {client : Kept} {old mid new shown : List ℕ} (root : Root) (number : ℕ) → client.root ≡ root → (it : IsTaken s past reading taken client) → shown ≡ printed root number it.turn → shown ≢ [] → mid ≡ old → IsPart shown mid new
    → WrotePart (coming root s past reading number) old new
wrote_part {old = old} {new = new} {shown = shown} root number same it written some stays part = record {
  turn = it.turn;
  is_turn = taken_turn root number same it;
  some = λ none. some (written ∙ none);
  part = subst (λ (t : List ℕ). IsPart t old new) written (subst (λ (o : List ℕ). IsPart shown o new) stays part);
}

pub taken_stands : {s : State} {past : Past} {reading : Reading} {taken : Taken} {client : Kept} → IsTaken s past reading taken client → IsStanding client
taken_stands {s} {past} {reading} it = (after s it.turn.commit, (and_heard s reading it.turn past, it.stands))

pub emitted : {s : State} {past : Past} {reading : Reading} {taken : Taken} {client : Kept} {old mid new : View} {shown : List ℕ} (root : Root) (number : ℕ) → client.root ≡ root → (it : IsTaken s past reading taken client) → shown ≡ printed root number it.turn → mid.out ≡ old.out
    → MovesLine s past reading old mid → ¬ (IsStoreSpent client.store) → IsStored client.store mid → Emits shown mid new → Turned (coming root s past reading number) old new
emitted {s} {past} {reading} root number same it written stays moves whole stored emits =
    turned_emitted (coming root s past reading number) it.turn (taken_turn root number same it) written stays moves (λ c left. subst (FindsState c) it.stands.state (stored_finds whole stored c left)) emits
