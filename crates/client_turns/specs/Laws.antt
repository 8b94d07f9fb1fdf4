-- Laws of turns.
use Rattle.std.specs.Prelude.{◌≡◌}
use Rattle.document_keys.specs.Names.{Root}
use Rattle.client_events.specs.declared.event.Event.{Event}
use Rattle.durable_state.specs.State.{State}
use Rattle.client_turns.specs.Past.{Turn, Past}
use Rattle.client_turns.specs.Turn.{IsTurn}

-- an event has one turn: the state before it and what was heard determine its refusal, its commit, its lines and which documents
-- are in limbo then
abbrev pub ATurnIsOne : Type 0
ATurnIsOne = (root : Root) (s : State) (past : Past) (event : Event) (t other : Turn)
    → IsTurn root s past event t → IsTurn root s past event other → t ≡ other
