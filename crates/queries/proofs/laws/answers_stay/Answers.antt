use Rattle.queries.proofs.Answers.{answers_stay}
use Rattle.queries.proofs.laws.answers_stay.Goals as goal

pub returns : goal.returns
returns c = answers_stay
