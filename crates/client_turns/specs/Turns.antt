-- Turns: what an event may come to.
use Rattle.std.specs.Prelude.{List, [], Option, Some, None}
use Rattle.record_codec.specs.declared.commit.Commit.{Commit}
use Rattle.durable_state.specs.State.{State, committed}
use Rattle.client_turns.specs.declared.refusal.Refusal.{Refusal}
use Rattle.client_turns.specs.Lines.{Line}
use Rattle.client_turns.specs.Past.{Turn}

-- a refused event does nothing, but that a bad message closes its stream
abbrev pub refused : Refusal → Turn
refused refusal = record { refusal = Some refusal; commit = None; lines = []; limbo = [] }

abbrev pub answered : List Line → Turn
answered lines = record { refusal = None; commit = None; lines = lines; limbo = [] }

-- the event makes this commit
abbrev pub commits : Commit → List Line → Turn
commits commit lines = record { refusal = None; commit = Some commit; lines = lines; limbo = [] }

-- the state after a turn
abbrev pub after : State → Option Commit → State
after s None = s
after s (Some commit) = committed s commit
