use Rattle.std.proofs.Common.{ap, Ok, Err, inl, inr}
use Rattle.json_model.specs.declared.side.Side.TheVariants.{Caller}
use Rattle.json_rpc.proofs.Answered.{printed_fault, printed_spelled}
use Rattle.json_rpc.proofs.write.read_write.Goals as goal

pub returns-in-Err-clause-printed : goal.returns-in-Err-clause-printed
returns-in-Err-clause-printed c = λ write stored printed. inr (ap (λ f. Err f) (printed_fault _ _ _ write c.in-Err.ensures.fault stored printed))

pub returns-clause-printed : goal.returns-clause-printed
returns-clause-printed c = λ write stored printed. inl (ap (λ w. Ok w) (printed_spelled (record { side = Caller; root = c.args.root.now }) _ _ write c.in_ok-write.ensures.write stored printed))
