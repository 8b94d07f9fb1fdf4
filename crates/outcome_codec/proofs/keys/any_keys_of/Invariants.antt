use Rattle.std.specs.List.{flat_map}
use Rattle.record_parts.specs.Reading.{Begins, AreMany}
use Rattle.record_parts.specs.Spelling.{key, IsSpelledKey}
use Rattle.outcome_codec.proofs.keys.any_keys_of.Given as goal

abbrev pub invariant-loop : goal.invariant-loop
invariant-loop l = Begins (flat_map key) (AreMany IsSpelledKey l.counter) l.initial.rest l.keys.items l.rest
