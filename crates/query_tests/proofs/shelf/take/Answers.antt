use Rattle.query_tests.proofs.Holding.{taken}
use Rattle.query_tests.proofs.shelf.take.Goals as goal

pub returns-in_ok-insert : goal.returns-in_ok-insert
returns-in_ok-insert c = taken c.args.collection.now c.args.held.now.key c.in_ok-copy.field-0 c.args.keys.now c.insert.new.self c.in_ok-copy.ensures (c.is_in.ensures.0 c.if-is_in.true) c.in_ok-insert.ensures.done
