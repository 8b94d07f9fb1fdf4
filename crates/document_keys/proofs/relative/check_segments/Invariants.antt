use Rattle.std.proofs.Common.{◌↔◌, length}
use denote.Text.{Utf8}
use denote.Shadow.{shadow}
use Rattle.std.specs.List.{All}
use Rattle.document_keys.specs.Names.{IsSegment, parts_of}
use Rattle.document_keys.proofs.relative.check_segments.Given as goal

abbrev pub invariant-loop-others : goal.invariant-loop-others
invariant-loop-others l = shadow (Utf8 l.rest) × (All IsSegment (parts_of l.path) ↔ All IsSegment (parts_of l.rest))

abbrev pub decreases-loop-others : goal.decreases-loop-others
decreases-loop-others l = length l.rest
