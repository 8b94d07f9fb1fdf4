use Rattle.std.proofs.Common.{ap, Ok, Err, inl, inr}
use Rattle.json_model.proofs.Answered.{printed_fault, printed_spelled}
use Rattle.json_model.proofs.Deep.{fields_deep}
use Rattle.json_model.proofs.reading.read_fields.Goals as goal

pub returns-clause-deep : goal.returns-clause-deep
returns-clause-deep c = fields_deep _ _ _ _ _ c.in_default.ensures.clean c.in_ok-fields.ensures.fields

pub returns-clause-printed : goal.returns-clause-printed
returns-clause-printed c = λ fields stored deep printed. inl (ap (λ f. Ok f) (printed_spelled _ _ c.in_ok-fields.ensures.fields fields stored printed))

pub returns-in-Err-clause-printed : goal.returns-in-Err-clause-printed
returns-in-Err-clause-printed c = λ fields stored deep printed. inr (ap (λ f. Err f) (printed_fault _ _ _ c.in-Err.ensures.fault fields stored deep printed))
