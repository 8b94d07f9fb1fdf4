use Rattle.std.proofs.Common.{take}
use Rattle.sync_engine.specs.Requesting.{KeepsDue, Removes}
use Rattle.sync_engine.specs.contracts.client.Client.{the_view}
use Rattle.sync_engine.proofs.client.Client.remove_targets.Given as goal

abbrev pub invariant-loop-target : goal.invariant-loop-target
invariant-loop-target l = record {
  rest : KeepsDue l.fn.self (the_view l.self-inside);
  removes : Removes l.fn.self (the_view l.self-inside) (take l.target-index l.targets) l.fn.outs.items l.outs.items;
}
