use Rattle.std.proofs.Common.{◌≡◌, ◌↔◌, ℕ, ℤ, Some, IsTrue, take}
use Rattle.std.specs.List.{Contains}
use Rattle.listeners.specs.Ids.{has_id}
use Rattle.listeners.specs.Table.{target_of}
use Rattle.sync_engine.proofs.client.Client.listeners_of.Given as goal

abbrev pub invariant-loop-target : goal.invariant-loop-target
invariant-loop-target l = record { gathered : (q : ℕ) → IsTrue (has_id l.set q) ↔ ((t : ℤ) × Contains (take l.target-index l.targets) t × (target_of l.self.listeners q ≡ Some t)) }
