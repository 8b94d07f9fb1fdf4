use Rattle.listeners.proofs.indexes.Indexes.put.Goals as goal

pub returns-in_err-put-clause-kept : goal.returns-in_err-put-clause-kept
returns-in_err-put-clause-kept c = λ place q other there. c.put.ensures.kept place q there

pub returns-in-Ok-clause-kept : goal.returns-in-Ok-clause-kept
returns-in-Ok-clause-kept c = λ place q other there. c.put.ensures.kept place q there

pub returns-in-Err-clause-kept : goal.returns-in-Err-clause-kept
returns-in-Err-clause-kept c = λ place q other there. c.take.ensures place q other (c.put.ensures.kept place q there)
