use Rattle.std.proofs.Common.{◌∷◌, []}
use Rattle.std.proofs.lemmas.Result.{err_from_is_err_and}
use Rattle.record_parts.proofs.Wide.{fails_also}
use Rattle.record_parts.proofs.Basics.{document_key}
use Rattle.record_parts.proofs.Values.{fields_within}
use Rattle.record_parts.proofs.WriteForms.{update_kind, update_parts, update_of_parts, from_fields, from_mask, from_transforms, mask_form, transform_form, condition}
use Rattle.record_parts.proofs.Combine.{no_first, no_second, pair_read, kind_read, kind_none, list}
use Rattle.record_parts.proofs.writes.update_of.Goals as goal

pub returns-in_err-key : goal.returns-in_err-key
returns-in_err-key c =
    let p = err_from_is_err_and c.from_residual.result c.from_residual.ensures.1 in
    rw (p.1, p.2) (fails_also c.in_err-key.field-0.0 (λ none. kind_none (1 ∷ []) update_of_parts update_parts update_kind c.args.bytes.now (no_first document_key (λ _. from_fields) c.args.bytes.now none)) c.in_err-key.ensures)

pub returns-in_err-fields : goal.returns-in_err-fields
returns-in_err-fields c =
    let p = err_from_is_err_and c.from_residual-in_err-fields.result c.from_residual-in_err-fields.ensures.1 in
    rw (p.1, p.2) (fails_also c.in_err-fields.field-0.0 (λ none. kind_none (1 ∷ []) update_of_parts update_parts update_kind c.args.bytes.now (no_second document_key (λ _. from_fields) c.args.bytes.now c.in_ok-key.key c.in_ok-key.rest.now c.in_ok-key.ensures (no_first (fields_within 20) (λ _. from_mask) c.in_ok-key.rest.now none))) c.in_err-fields.ensures)

pub returns-in_err-mask : goal.returns-in_err-mask
returns-in_err-mask c =
    let p = err_from_is_err_and c.from_residual-in_err-mask.result c.from_residual-in_err-mask.ensures.1 in
    rw (p.1, p.2) (fails_also c.in_err-mask.field-0.0 (λ none. kind_none (1 ∷ []) update_of_parts update_parts update_kind c.args.bytes.now (no_second document_key (λ _. from_fields) c.args.bytes.now c.in_ok-key.key c.in_ok-key.rest.now c.in_ok-key.ensures (no_second (fields_within 20) (λ _. from_mask) c.in_ok-key.rest.now c.in_ok-fields.fields c.in_ok-fields.rest.now c.in_ok-fields.ensures (no_first mask_form (λ _. from_transforms) c.in_ok-fields.rest.now none)))) c.in_err-mask.ensures)

pub returns-in_err-transforms : goal.returns-in_err-transforms
returns-in_err-transforms c =
    let p = err_from_is_err_and c.from_residual-in_err-transforms.result c.from_residual-in_err-transforms.ensures.1 in
    rw (p.1, p.2) (fails_also c.in_err-transforms.field-0.0 (λ none. kind_none (1 ∷ []) update_of_parts update_parts update_kind c.args.bytes.now (no_second document_key (λ _. from_fields) c.args.bytes.now c.in_ok-key.key c.in_ok-key.rest.now c.in_ok-key.ensures (no_second (fields_within 20) (λ _. from_mask) c.in_ok-key.rest.now c.in_ok-fields.fields c.in_ok-fields.rest.now c.in_ok-fields.ensures (no_second mask_form (λ _. from_transforms) c.in_ok-fields.rest.now c.in_ok-mask.mask c.in_ok-mask.rest.now c.in_ok-mask.ensures (no_first (list transform_form) (λ _. condition) c.in_ok-mask.rest.now none))))) c.in_err-transforms.ensures)

pub returns-in_err-condition : goal.returns-in_err-condition
returns-in_err-condition c =
    let p = err_from_is_err_and c.from_residual-in_err-condition.result c.from_residual-in_err-condition.ensures.1 in
    rw (p.1, p.2) (fails_also c.in_err-condition.field-0.0 (λ none. kind_none (1 ∷ []) update_of_parts update_parts update_kind c.args.bytes.now (no_second document_key (λ _. from_fields) c.args.bytes.now c.in_ok-key.key c.in_ok-key.rest.now c.in_ok-key.ensures (no_second (fields_within 20) (λ _. from_mask) c.in_ok-key.rest.now c.in_ok-fields.fields c.in_ok-fields.rest.now c.in_ok-fields.ensures (no_second mask_form (λ _. from_transforms) c.in_ok-fields.rest.now c.in_ok-mask.mask c.in_ok-mask.rest.now c.in_ok-mask.ensures (no_second (list transform_form) (λ _. condition) c.in_ok-mask.rest.now c.in_ok-transforms.transforms c.in_ok-transforms.rest.now c.in_ok-transforms.ensures (none)))))) c.in_err-condition.ensures)

pub returns : goal.returns
returns c = kind_read (1 ∷ []) update_of_parts update_parts update_kind c.args.bytes.now (c.in_ok-key.key, (c.in_ok-fields.fields, (c.in_ok-mask.mask, (c.in_ok-transforms.transforms, c.in_ok-condition.condition)))) c.in_ok-condition.rest.now (pair_read document_key (λ _. from_fields) c.args.bytes.now c.in_ok-key.key c.in_ok-key.rest.now (c.in_ok-fields.fields, (c.in_ok-mask.mask, (c.in_ok-transforms.transforms, c.in_ok-condition.condition))) c.in_ok-condition.rest.now c.in_ok-key.ensures (pair_read (fields_within 20) (λ _. from_mask) c.in_ok-key.rest.now c.in_ok-fields.fields c.in_ok-fields.rest.now (c.in_ok-mask.mask, (c.in_ok-transforms.transforms, c.in_ok-condition.condition)) c.in_ok-condition.rest.now c.in_ok-fields.ensures (pair_read mask_form (λ _. from_transforms) c.in_ok-fields.rest.now c.in_ok-mask.mask c.in_ok-mask.rest.now (c.in_ok-transforms.transforms, c.in_ok-condition.condition) c.in_ok-condition.rest.now c.in_ok-mask.ensures (pair_read (list transform_form) (λ _. condition) c.in_ok-mask.rest.now c.in_ok-transforms.transforms c.in_ok-transforms.rest.now c.in_ok-condition.condition c.in_ok-condition.rest.now c.in_ok-transforms.ensures (c.in_ok-condition.ensures)))))
