use Rattle.std.proofs.Common.{codes, arith}
use Rattle.document_keys.proofs.Fields.{one_name}
use Rattle.document_keys.proofs.field.is_document_name.Goals as goal

pub returns-in-len1 : goal.returns-in-len1
returns-in-len1 c = one_name c.args.names.now c.name-item.result c.as_str.result.now (codes "__name__") c.eq.result (omega arith) c.name-item.is c.as_str.ensures c.eq.ensures
