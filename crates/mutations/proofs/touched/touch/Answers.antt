use Rattle.std.proofs.Common.{sym}
use Rattle.mutations.proofs.Touching.{put_has, put_keeps, touched_first}
use Rattle.mutations.proofs.touched.touch.Goals as goal

pub returns-clause-touched : goal.returns-clause-touched
returns-clause-touched c = touched_first c.put.new.self c.args.path.now c.in-Some.name.now (sym c.in-Some.ensures)
    (put_has c.args.names.now c.put.new.self c.in_ok-from_str.field-0 c.in-Some.name.now _ c.in_ok-from_str.ensures c.in_ok-put.ensures.done)

pub returns-clause-kept : goal.returns-clause-kept
returns-clause-kept c = put_keeps c.args.names.now c.put.new.self c.in_ok-from_str.field-0 c.in-Some.name.now _ c.in_ok-from_str.ensures c.in_ok-put.ensures.done
