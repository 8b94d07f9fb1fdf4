use Rattle.std.proofs.Common.{take}
use Rattle.client_turns.specs.Hearing.{IsAnyHeld}
use Rattle.sync_engine.proofs.client.Client.is_any_held.Given as goal

abbrev pub invariant-loop-id : goal.invariant-loop-id
invariant-loop-id l = record { none : IsAnyHeld l.self.store.state.rows (take l.id-index l.ids) → ⊥ }
