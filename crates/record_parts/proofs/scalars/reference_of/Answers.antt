use Rattle.std.proofs.Common.{◌∷◌, []}
use Rattle.std.proofs.lemmas.Result.{err_from_is_err_and}
use Rattle.value_model.specs.Data as kind
use Rattle.record_parts.proofs.Wide.{fails_also}
use Rattle.record_parts.proofs.Basics.{document_name}
use Rattle.record_parts.proofs.Values.{reference_kind}
use Rattle.record_parts.proofs.Combine.{kind_read, kind_none}
use Rattle.record_parts.proofs.scalars.reference_of.Goals as goal

pub returns-in_err-name : goal.returns-in_err-name
returns-in_err-name c = λ limit.
    let p = err_from_is_err_and c.from_residual.result c.from_residual.ensures.1 in
    rw (p.1, p.2) (fails_also c.in_err-name.field-0.0 (kind_none (7 ∷ []) kind.reference document_name (reference_kind limit) c.args.bytes.now) c.in_err-name.ensures)

pub returns : goal.returns
returns c = λ limit. rw c.in_ok-new.ensures.ok (kind_read (7 ∷ []) kind.reference document_name (reference_kind limit) c.args.bytes.now c.in_ok-name.name c.in_ok-name.rest.now c.in_ok-name.ensures)
