use Rattle.std.proofs.lemmas.Result.{IfErr-weaker}
use Rattle.document_keys.proofs.Fields.{fault_of_names}
use Rattle.document_keys.proofs.field.FieldPath.read.Goals as goal

pub returns-clause-fault : goal.returns-clause-fault
returns-clause-fault c = IfErr-weaker c.from_names.result _ _ (λ fault why. fault_of_names c.args.text.now c.in_ok-names.names.items fault c.in_ok-names.ensures.names why) c.from_names.ensures.fault
