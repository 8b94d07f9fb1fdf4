use Rattle.std.proofs.Common.{◌≡◌, ◌++◌, length, take}
use Rattle.std.specs.List.{flat_map}
use Rattle.record_parts.specs.Spelling.{number}
use Rattle.outcome_codec.specs.Spelling.{target_id}
use Rattle.outcome_codec.proofs.ids.put_ids.Given as goal

abbrev pub invariant-loop-id : goal.invariant-loop-id
invariant-loop-id l = l.out.items ≡ (l.fn.out.items ++ number (length l.ids)) ++ flat_map target_id (take l.id-index l.ids)
