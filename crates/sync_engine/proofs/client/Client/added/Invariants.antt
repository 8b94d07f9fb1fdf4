use Rattle.std.proofs.Common.{take}
use Rattle.sync_engine.specs.Requesting.{AllWanted, CallsAre, IsToAdd, Picked}
use Rattle.sync_engine.proofs.client.Client.added.Given as goal

abbrev pub invariant-loop-target : goal.invariant-loop-target
invariant-loop-target l = record {
  wanted : AllWanted l.self l.ids.items;
  picked : CallsAre l.self (λ h. Picked (IsToAdd l.self h) (take l.target-index l.targets) l.ids.items);
}
