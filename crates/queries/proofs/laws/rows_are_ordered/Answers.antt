use Rattle.queries.proofs.Lawful.{rows_law}
use Rattle.queries.proofs.laws.rows_are_ordered.Goals as goal

pub returns : goal.returns
returns c = rows_law
