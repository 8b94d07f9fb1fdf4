use Rattle.std.proofs.Common.{◌≡◌, ◌++◌, take}
use denote.Text.{Utf8}
use denote.Shadow.{shadow}
use Rattle.document_keys.specs.Names.{parts_of}
use Rattle.document_keys.proofs.relative.after_segments.Given as goal

abbrev pub invariant-loop-segment : goal.invariant-loop-segment
invariant-loop-segment l = shadow (Utf8 l.rest) × (parts_of l.path ≡ take l.segment-index l.segments ++ parts_of l.rest)
