use Rattle.std.proofs.Common.{take}
use Rattle.sync_engine.specs.Requesting.{AddsListens, AllRun, KeepsDue}
use Rattle.sync_engine.proofs.client.Client.add_limbo_targets.Given as goal

abbrev pub invariant-loop-target : goal.invariant-loop-target
invariant-loop-target l = record {
  rest : KeepsDue l.fn.self l.self;
  adds : AllRun l.fn.self l.targets → AddsListens l.fn.self l.self (take l.target-index l.targets) l.fn.outs.items l.outs.items;
}
