use Rattle.queries.proofs.Answers.{fronts_answer}
use Rattle.queries.proofs.laws.answers_are_fronts.Goals as goal

pub returns : goal.returns
returns c = fronts_answer
