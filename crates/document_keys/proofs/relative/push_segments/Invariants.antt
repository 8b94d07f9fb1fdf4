use Rattle.std.proofs.Common.{◌≡◌, ◌++◌, take}
use Rattle.std.specs.String.{string_bytes}
use Rattle.document_keys.specs.Names.{path_text}
use Rattle.document_keys.proofs.relative.push_segments.Given as goal

abbrev pub invariant-loop-segment : goal.invariant-loop-segment
invariant-loop-segment l = string_bytes l.text ≡ string_bytes l.fn.text ++ path_text (take l.segment-index l.segments)
