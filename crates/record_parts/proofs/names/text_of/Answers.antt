use Rattle.std.proofs.lemmas.Result.{err_from_is_err_and}
use Rattle.value_model.specs.Storable.{IsCountable}
use Rattle.record_parts.specs.Spelling.{text, IsText}
use Rattle.record_parts.proofs.Wide.{fails_also}
use Rattle.record_parts.proofs.Forms.{narrower_none}
use Rattle.record_parts.proofs.Basics.{text_counted, text_other}
use Rattle.record_parts.proofs.names.text_of.Goals as goal

pub returns-in_err-front : goal.returns-in_err-front
returns-in_err-front c =
    let p = err_from_is_err_and c.from_residual.result c.from_residual.ensures.1 in
    rw (p.1, p.2) (fails_also c.in_err-front.field-0.0 (narrower_none text IsCountable IsText text_counted c.args.bytes.now) c.in_err-front.ensures)

pub returns-in-Ok : goal.returns-in-Ok
returns-in-Ok c =
    let e = c.in-Ok.ensures.cases in
    let same = e.0 in
    rw same (record { parts = c.in_ok-front.ensures.parts; fits = record { utf8 = e.1; many = c.in_ok-front.ensures.fits } })

pub returns-in-Err : goal.returns-in-Err
returns-in-Err c = text_other c.args.bytes.now c.in_ok-front.front.now c.in_ok-front.rest.now c.in_ok-front.ensures c.in-Err.ensures.cases.0
