use Rattle.std.proofs.Common.{ap, Ok, Err, inl, inr}
use Rattle.json_queries.proofs.Answered.{printed_fault, printed_spelled}
use Rattle.json_queries.proofs.query.read_query.Goals as goal

pub returns-in-Err-clause-printed : goal.returns-in-Err-clause-printed
returns-in-Err-clause-printed c = λ target stored printed. inr (ap (λ f. Err f) (printed_fault _ _ _ target c.in-Err.ensures.fault stored printed))

pub returns-clause-printed : goal.returns-clause-printed
returns-clause-printed c = λ target stored printed. inl (ap (λ q. Ok q) (printed_spelled (record { side = c.args.side; root = c.args.root.now }) _ _ target c.in_ok-query.ensures.query stored printed))
