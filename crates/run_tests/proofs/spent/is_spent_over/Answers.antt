use Rattle.std.proofs.Common.{[]}
use Rattle.run_tests.proofs.spent.is_spent_over.Goals as goal

pub is_spent_behind-requires-clause-stands : goal.is_spent_behind-requires-clause-stands
is_spent_behind-requires-clause-stands g c = (c.in-Ok.client.store.state, ([], c.in-Ok.ensures.stands))
