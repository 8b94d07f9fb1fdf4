use Rattle.std.proofs.Common.{take}
use Rattle.sync_engine.specs.Requesting.{CallsAre, IsToRemove, Picked}
use Rattle.sync_engine.proofs.client.Client.removed.Given as goal

abbrev pub invariant-loop-target : goal.invariant-loop-target
invariant-loop-target l = record { picked : CallsAre l.self (λ h. Picked (IsToRemove l.self l.resets h) (take l.target-index l.targets) l.ids.items) }
