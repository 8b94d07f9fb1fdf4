use Rattle.std.proofs.Common.{◌∷◌, []}
use Rattle.std.proofs.lemmas.Result.{err_from_is_err_and}
use Rattle.value_model.specs.Data as kind
use Rattle.value_model.specs.Storable.{IsCountable, AreStorableBytes}
use Rattle.record_parts.specs.Spelling.{text}
use Rattle.record_parts.proofs.Forms.{narrower_none}
use Rattle.record_parts.proofs.Wide.{fails_also}
use Rattle.record_parts.proofs.Basics.{plain_bytes, bytes_counted, bytes_each}
use Rattle.record_parts.proofs.Values.{bytes_kind}
use Rattle.record_parts.proofs.Combine.{kind_read, kind_none}
use Rattle.record_parts.proofs.scalars.bytes_of.Goals as goal

pub returns-in_err-content : goal.returns-in_err-content
returns-in_err-content c = λ limit.
    let p = err_from_is_err_and c.from_residual.result c.from_residual.ensures.1 in
    rw (p.1, p.2) (fails_also c.in_err-content.field-0.0 (λ none. kind_none (6 ∷ []) kind.bytes plain_bytes (bytes_kind limit) c.args.bytes.now (narrower_none text IsCountable AreStorableBytes bytes_counted c.args.bytes.now none)) c.in_err-content.ensures)

pub returns : goal.returns
returns c = λ limit. rw (c.from_vec.ensures, c.in_ok-from_slice.ensures.items) (kind_read (6 ∷ []) kind.bytes plain_bytes (bytes_kind limit) c.args.bytes.now c.in_ok-content.content.now c.in_ok-content.rest.now
    (record { parts = c.in_ok-content.ensures.parts; fits = bytes_each c.args.bytes.now c.in_ok-content.content.now c.in_ok-content.rest.now (λ i. (c.type_inv.bytes i).fits) c.in_ok-content.ensures }))
