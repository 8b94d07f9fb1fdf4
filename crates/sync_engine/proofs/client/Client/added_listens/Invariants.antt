use Rattle.std.proofs.Common.{take}
use Rattle.sync_engine.specs.Requesting.{AllRun, CallsAre, IsListenToAdd, Picked}
use Rattle.sync_engine.proofs.client.Client.added_listens.Given as goal

abbrev pub invariant-loop-target : goal.invariant-loop-target
invariant-loop-target l = record {
  running : AllRun l.self l.ids.items;
  picked : CallsAre l.self (λ h. Picked (IsListenToAdd l.self h) (take l.target-index l.targets) l.ids.items);
}
