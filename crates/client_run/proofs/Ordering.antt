-- what a run heard came one after another
use Rattle.std.proofs.Common.{◌≡◌, Bool, true, false, [], ◌∷◌, Option, Some, None, option_map, if◌then◌else◌, refl, sym, ap, subst, ◌∙◌}
use Rattle.std.proofs.lemmas.Bool.{true≢false}
use Rattle.document_keys.specs.Names.{Root}
use Rattle.client_events.specs.declared.event.Event.{Event}
use Rattle.line_reader.specs.declared.reading.Reading.{Reading}
use Rattle.line_reader.specs.declared.reading.Reading.TheVariants.{Line as an_event, Refused}
use Rattle.local_store.specs.State.{State}
use Rattle.record_codec.specs.declared.commit.Commit.{Commit}
use Rattle.client_turns.specs.Order.{AreHeard}
use Rattle.client_turns.specs.Order as order
use Rattle.client_turns.specs.Past.{Past, Turn}
use Rattle.client_turns.specs.Turn.{IsTurn, is_heard}
use Rattle.client_turns.specs.Turns.{after}
use Rattle.client_turns.specs.declared.refusal.Refusal.{Refusal}
use Rattle.client_turns.proofs.Ordered.{writes_go_in_order}
use Rattle.client_turns.proofs.Requests.{refused_unmade}
use Rattle.client_run.specs.History.{AreTurns, History, heard, now}
use Rattle.client_run.specs.Laws.{RunsWriteInOrder}
use Rattle.client_run.specs.Turn.{IsLineTurn, LineTurn, and_heard, entry_of, of_event, refusal_in, unheard}
use Rattle.client_run.proofs.Handling.{refusal_back}

-- what was heard so far came one after another, and led to this state
pub record Comes (root : Root) (first s : State) (past : Past) : Type 0 where
  pub heard : AreHeard root first past
  pub now : s ≡ order.now first past

event_comes : (root : Root) (first s : State) (past : Past) (e : Event) (u : Turn) → Comes root first s past → IsTurn root s past e u → Comes root first (after s u.commit) (and_heard s (an_event e) (of_event u) past)
event_comes root first s past e u it turn = by (is_heard (refusal_in (option_map unheard u.refusal))) refl
  where
    same : refusal_in (option_map unheard u.refusal) ≡ u.refusal
    same = refusal_back u.refusal

    as_turn : IsTurn root s past e (record { refusal = refusal_in (option_map unheard u.refusal); commit = u.commit; lines = u.lines; limbo = u.limbo })
    as_turn = subst (λ (r : Option Refusal). IsTurn root s past e (record { refusal = r; commit = u.commit; lines = u.lines; limbo = u.limbo })) (sym same) turn

    unmade : (r : Option Refusal) → u.refusal ≡ r → is_heard r ≡ false → u.commit ≡ None
    unmade None is not = absurd (true≢false not)
    unmade (Some refusal) is not = refused_unmade root s past e u turn refusal is

    by : (b : Bool) → is_heard (refusal_in (option_map unheard u.refusal)) ≡ b → Comes root first (after s u.commit) (if b then entry_of s e (of_event u) ∷ past else past)
    by true is = record {
      heard = (it.heard, record { state = it.now; turn = as_turn; heard = is });
      now = refl;
    }
    by false is =
        let none : u.commit ≡ None = unmade u.refusal refl (ap is_heard (sym same) ∙ is) in
        subst (λ (c : Option Commit). Comes root first (after s c) past) (sym none) it

line_comes : (root : Root) (first s : State) (past : Past) (reading : Reading) (t : LineTurn) → Comes root first s past → IsLineTurn root s past reading t → Comes root first (after s t.commit) (and_heard s reading t past)
line_comes root first s past (Refused refusal) t it is = subst (λ (x : LineTurn). Comes root first (after s x.commit) past) (sym is) it
line_comes root first s past (an_event e) t it is = subst (λ (x : LineTurn). Comes root first (after s x.commit) (and_heard s (an_event e) x past)) (sym is.is) (event_comes root first s past e is.turn it is.is_turn)

pub history_comes : (root : Root) (first : State) (history : History) → AreTurns root first history → Comes root first (now first history) (heard history)
history_comes root first [] turns = record { heard = tt; now = refl }
history_comes root first (line ∷ history) turns =
    line_comes root first line.state (heard history) line.reading line.turn
    (subst (λ (s : State). Comes root first s (heard history)) (sym turns.1.state) (history_comes root first history turns.0)) turns.1.turn

pub runs_write_in_order : RunsWriteInOrder
runs_write_in_order root first history turns = writes_go_in_order root first (heard history) (history_comes root first history turns).heard
