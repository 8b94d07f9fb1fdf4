use Rattle.std.proofs.Common.{take}
use Rattle.std.specs.List.{All}
use Rattle.document_keys.specs.Names.{IsSegment}
use Rattle.document_keys.proofs.path.show_segments.Given as goal

abbrev pub invariant-loop-segment : goal.invariant-loop-segment
invariant-loop-segment l = All IsSegment (take l.segment-index l.segments)
