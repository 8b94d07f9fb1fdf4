use Rattle.std.proofs.Common.{◌∷◌, []}
use Rattle.std.proofs.lemmas.Result.{err_from_is_err_and}
use Rattle.value_model.specs.Data as kind
use Rattle.record_parts.proofs.Wide.{fails_also}
use Rattle.record_parts.proofs.Basics.{text_form}
use Rattle.record_parts.proofs.Values.{text_kind}
use Rattle.record_parts.proofs.Combine.{kind_read, kind_none}
use Rattle.record_parts.proofs.scalars.string_of.Goals as goal

pub returns-in_err-content : goal.returns-in_err-content
returns-in_err-content c = λ limit.
    let p = err_from_is_err_and c.from_residual.result c.from_residual.ensures.1 in
    rw (p.1, p.2) (fails_also c.in_err-content.field-0.0 (kind_none (5 ∷ []) kind.text text_form (text_kind limit) c.args.bytes.now) c.in_err-content.ensures)

pub returns : goal.returns
returns c = λ limit. rw c.in_ok-from_str.ensures (kind_read (5 ∷ []) kind.text text_form (text_kind limit) c.args.bytes.now c.in_ok-content.content.now c.in_ok-content.rest.now c.in_ok-content.ensures)
