use Rattle.std.proofs.Common.{◌≡◌, ◌++◌, length}
use denote.Text.{Utf8}
use denote.Shadow.{shadow}
use Rattle.std.specs.List.{All, slice_split}
use Rattle.std.specs.Bool.{◌==◌}
use Rattle.document_keys.specs.Names.{IsSegment}
use Rattle.document_keys.proofs.path.read_segments.Given as goal

abbrev pub invariant-loop-part : goal.invariant-loop-part
invariant-loop-part l = shadow (Utf8 l.rest) × (slice_split (λ byte. byte == 47) l.path ≡ l.segments.items ++ slice_split (λ byte. byte == 47) l.rest) × All IsSegment l.segments.items

abbrev pub decreases-loop-part : goal.decreases-loop-part
decreases-loop-part l = length l.rest
