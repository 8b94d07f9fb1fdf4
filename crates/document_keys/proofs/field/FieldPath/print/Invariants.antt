use Rattle.std.proofs.Common.{◌≡◌, take}
use Rattle.std.specs.String.{string_bytes}
use Rattle.document_keys.specs.Paths.{printed_path}
use Rattle.document_keys.proofs.field.FieldPath.print.Given as goal

abbrev pub invariant-loop-i : goal.invariant-loop-i
invariant-loop-i l = string_bytes l.text ≡ printed_path (take l.i l.name-items)
