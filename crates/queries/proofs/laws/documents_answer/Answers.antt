use Rattle.queries.proofs.Answers.{document_answer}
use Rattle.queries.proofs.laws.documents_answer.Goals as goal

pub returns : goal.returns
returns c = document_answer
