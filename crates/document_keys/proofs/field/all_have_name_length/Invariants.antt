use Rattle.std.proofs.Common.{take}
use Rattle.std.specs.List.{All}
use Rattle.document_keys.specs.Names.{HasNameLength}
use Rattle.document_keys.proofs.field.all_have_name_length.Given as goal

abbrev pub invariant-loop-name : goal.invariant-loop-name
invariant-loop-name l = All HasNameLength (take l.name-index l.names)
