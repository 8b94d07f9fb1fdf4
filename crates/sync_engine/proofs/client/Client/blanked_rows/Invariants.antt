use Rattle.std.proofs.Common.{◌<◌, ◌⊎◌, pos, take, map as each}
use Rattle.std.specs.List.{All, Contains}
use Rattle.sync_engine.specs.Dropping.{HoldsOne}
use Rattle.sync_engine.specs.Requesting.{CallsAre, Picked}
use Rattle.sync_engine.proofs.Holding.{IsPart}
use Rattle.sync_engine.proofs.client.Client.blanked_rows.Given as goal

abbrev pub invariant-loop-id : goal.invariant-loop-id
invariant-loop-id l = record {
  picked : CallsAre l.self (λ h. Picked (λ t. Contains l.ended t ⊎ HoldsOne l.self h t l.keys) (take l.id-index l.id-items) (each pos l.those.items));
  part : IsPart (take l.id-index l.id-items) (each pos l.those.items);
  low : All (λ n. n < 2147483648) l.those.items;
}
