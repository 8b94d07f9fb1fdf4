use Rattle.std.proofs.Common.{take}
use Rattle.std.specs.List.{All}
use Rattle.record_parts.specs.Spelling.{IsSpelledKey}
use Rattle.watch_points.proofs.shown.show_each.Given as goal

abbrev pub invariant-loop-key : goal.invariant-loop-key
invariant-loop-key l = All IsSpelledKey (take l.key-index l.keys)
