use Rattle.std.proofs.Common.{◌<◌, ◌^◌, ℕ, IsTrue, take}
use Rattle.listeners.specs.Ids.{has_id}
use Rattle.sync_engine.proofs.Blanked.{HasRowsOf}
use Rattle.sync_engine.proofs.client.Client.rows_of.Given as goal

abbrev pub invariant-loop-id : goal.invariant-loop-id
invariant-loop-id l = record {
  rows : HasRowsOf l.self.store.state.rows (take l.id-index l.ids) l.set;
  low : (n : ℕ) → IsTrue (has_id l.set n) → n < 2 ^ 32;
}
