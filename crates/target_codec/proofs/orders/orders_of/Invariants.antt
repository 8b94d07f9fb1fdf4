use Rattle.std.specs.List.{flat_map}
use Rattle.record_parts.specs.Reading.{Begins, AreMany}
use Rattle.target_codec.specs.Spelling.{order, IsSpelledOrder}
use Rattle.target_codec.proofs.orders.orders_of.Given as goal

abbrev pub invariant-loop : goal.invariant-loop
invariant-loop l = Begins (flat_map order) (AreMany IsSpelledOrder l.counter) l.initial.rest l.orders.items l.rest
