use Rattle.std.proofs.Common.{[], take}
use Rattle.mutation_queue.specs.Places.{KeepsOtherRoom, SameListed}
use Rattle.mutation_queue.specs.Queue.{HaveRoom}
use Rattle.mutation_queue.proofs.places.KeyPlaces.reserve_all.Given as goal

abbrev pub invariant-loop-write : goal.invariant-loop-write
invariant-loop-write l = record {
  same : SameListed l.initial.self l.self;
  held : KeepsOtherRoom [] l.initial.self l.self;
  room : HaveRoom l.self (take l.write-index l.writes);
}
