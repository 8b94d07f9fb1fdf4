use Rattle.std.proofs.Common.{◌≡◌, ℕ, List, cond, take}
use Rattle.mutation_queue.specs.Places.{FreesKeys, KeepsOtherRoom, is_among, listed, without_place}
use Rattle.mutation_queue.specs.Queue.{keys_of}
use Rattle.mutation_queue.proofs.places.KeyPlaces.remove_all.Given as goal

abbrev pub invariant-loop-write : goal.invariant-loop-write
invariant-loop-write l = record {
  places : (q : List (List ℕ)) → listed l.self q ≡ cond (is_among (keys_of (take l.write-index l.writes)) q) (without_place l.place (listed l.initial.self q)) (listed l.initial.self q);
  held : KeepsOtherRoom (keys_of (take l.write-index l.writes)) l.initial.self l.self;
  gone : FreesKeys (keys_of (take l.write-index l.writes)) l.self;
}
