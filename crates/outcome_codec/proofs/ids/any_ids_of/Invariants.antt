use Rattle.std.specs.List.{flat_map}
use Rattle.record_parts.specs.Reading.{Begins, AreMany}
use Rattle.outcome_codec.specs.Spelling.{target_id, IsSpelledId}
use Rattle.outcome_codec.proofs.ids.any_ids_of.Given as goal

abbrev pub invariant-loop : goal.invariant-loop
invariant-loop l = Begins (flat_map target_id) (AreMany IsSpelledId l.counter) l.initial.rest l.ids.items l.rest
