use Rattle.std.proofs.Common.{take}
use Rattle.std.specs.List.{All}
use Rattle.document_keys.specs.Names.{IsReserved}
use Rattle.document_keys.proofs.field.some_is_reserved.Given as goal

abbrev pub invariant-loop-name : goal.invariant-loop-name
invariant-loop-name l = All (λ name. ¬ (IsReserved name)) (take l.name-index l.names)
