use Rattle.record_parts.proofs.Basics.{name_other}
use Rattle.record_parts.proofs.names.name_of.Goals as goal

pub returns-in-Err : goal.returns-in-Err
returns-in-Err c = name_other c.args.bytes.now c.in_ok-content.content.now c.in_ok-content.rest.now c.in-Err.field-0 c.in_ok-content.ensures c.in-Err.ensures.fault
