use Rattle.std.proofs.Common.{take}
use Rattle.sync_engine.specs.Dropping.{WasToldOne}
use Rattle.sync_engine.specs.Requesting.{CallsAre, Picked}
use Rattle.sync_engine.proofs.client.Client.told_listens.Given as goal

abbrev pub invariant-loop-id : goal.invariant-loop-id
invariant-loop-id l = record { picked : CallsAre l.self (λ h. Picked (λ t. WasToldOne h t l.keys) (take l.id-index l.id-items) l.ids.items) }
