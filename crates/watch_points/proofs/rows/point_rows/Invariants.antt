use Rattle.std.proofs.Common.{◌≡◌, take}
use Rattle.std.specs.List.{All, filter_map}
use Rattle.outcome_codec.specs.Spelling.{IsSpelledRow}
use Rattle.watch_points.specs.Steps.{row_from}
use Rattle.watch_points.proofs.rows.point_rows.Given as goal

abbrev pub invariant-loop-target : goal.invariant-loop-target
invariant-loop-target l = record {
  made : l.rows.items ≡ filter_map (row_from l.tables.targets.rows) (take l.target-index l.targets);
  spelled : All IsSpelledRow l.rows.items;
}
