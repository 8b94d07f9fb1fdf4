use Rattle.std.proofs.Common.{arith}
use Rattle.record_codec.proofs.Whole.{no_whole, longer}
use Rattle.record_codec.proofs.commit.decode.Goals as goal

pub returns-else-is_empty-clause-none : goal.returns-else-is_empty-clause-none
returns-else-is_empty-clause-none c = longer c.args.bytes.now c.in-Ok.commit c.in-Ok.rest.now c.in-Ok.ensures (grind (arith, c.is_empty.ensures, c.if-is_empty.false))

pub returns-in-Err-NotSpelled-clause-none : goal.returns-in-Err-NotSpelled-clause-none
returns-in-Err-NotSpelled-clause-none c = no_whole c.args.bytes.now (rw c.in-Err-NotSpelled.field-0-is at c.in-Err-NotSpelled.ensures)
