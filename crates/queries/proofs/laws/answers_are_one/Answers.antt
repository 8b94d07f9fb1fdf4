use Rattle.queries.proofs.Answers.{answers_once}
use Rattle.queries.proofs.laws.answers_are_one.Goals as goal

pub returns : goal.returns
returns c = answers_once
