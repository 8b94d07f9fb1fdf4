use Rattle.std.proofs.Common.{◌≡◌, take}
use Rattle.std.specs.String.{string_bytes}
use Rattle.document_keys.specs.Names.{name_text}
use Rattle.document_keys.proofs.path.print_name.Given as goal

abbrev pub invariant-loop-segment : goal.invariant-loop-segment
invariant-loop-segment l = string_bytes l.name ≡ name_text l.fn.root (take l.segment-index l.segments)
