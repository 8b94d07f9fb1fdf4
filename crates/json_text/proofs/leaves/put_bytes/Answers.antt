use Rattle.std.proofs.Common.{ap, codes, ◌∙◌}
use Rattle.json_model.specs.Printed.{printed_text}
use Rattle.json_text.specs.Puts.{tokens_of}
use Rattle.json_text.proofs.Adding.{same}
use Rattle.json_text.proofs.leaves.put_bytes.Goals as goal

pub returns : goal.returns
returns c = same (ap (λ s. tokens_of (printed_text (codes "bytesValue") s)) (c.as_str.ensures.value ∙ c.in_ok-text.ensures)) c.in_ok-put_text.ensures
