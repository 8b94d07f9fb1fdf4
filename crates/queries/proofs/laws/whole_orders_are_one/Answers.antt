use Rattle.queries.proofs.Lawful.{whole_law}
use Rattle.queries.proofs.laws.whole_orders_are_one.Goals as goal

pub returns : goal.returns
returns c = whole_law
