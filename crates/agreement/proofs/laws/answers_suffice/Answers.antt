use Rattle.agreement.proofs.Answered.{answers_distinct, answers_there, documents_answered, answers_kept}
use Rattle.agreement.proofs.laws.answers_suffice.Goals as goal

pub returns-clause-distinct : goal.returns-clause-distinct
returns-clause-distinct c = answers_distinct

pub returns-clause-there : goal.returns-clause-there
returns-clause-there c = answers_there

pub returns-clause-one : goal.returns-clause-one
returns-clause-one c = documents_answered

pub returns-clause-kept : goal.returns-clause-kept
returns-clause-kept c = answers_kept
