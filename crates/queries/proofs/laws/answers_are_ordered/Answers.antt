use Rattle.queries.proofs.Lawful.{answers_law}
use Rattle.queries.proofs.laws.answers_are_ordered.Goals as goal

pub returns : goal.returns
returns c = answers_law
