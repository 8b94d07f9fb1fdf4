use Rattle.std.proofs.Common.{◌↔◌, ◌⊎◌, ℕ, IsTrue, take}
use Rattle.std.specs.List.{Contains}
use Rattle.listeners.specs.Ids.{has_id}
use Rattle.sync_engine.proofs.resetting.put_all.Given as goal

abbrev pub invariant-loop-id : goal.invariant-loop-id
invariant-loop-id l = record { put : (q : ℕ) → IsTrue (has_id l.set q) ↔ (IsTrue (has_id l.fn.set q) ⊎ Contains (take l.id-index l.ids) q) }
