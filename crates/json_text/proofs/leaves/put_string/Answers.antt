use Rattle.std.proofs.Common.{subst, codes}
use Rattle.json_model.specs.Printed.{printed_text}
use Rattle.json_text.specs.Puts.{Puts}
use Rattle.json_text.proofs.leaves.put_string.Goals as goal

pub returns : goal.returns
returns c = subst (λ s. Puts c.put_text.result c.args.out.now c.put_text.new.out (printed_text (codes "stringValue") s)) c.as_str.ensures c.put_text.ensures
