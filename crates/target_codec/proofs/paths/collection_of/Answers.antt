use Rattle.std.proofs.lemmas.Result.{err_from_is_err_and}
use Rattle.record_parts.proofs.Wide.{fails_also}
use Rattle.target_codec.proofs.Parts.{collection_none, collection_even, collection_read}
use Rattle.target_codec.proofs.paths.collection_of.Goals as goal

pub returns-in_err-segments : goal.returns-in_err-segments
returns-in_err-segments c =
    let p = err_from_is_err_and c.from_residual.result c.from_residual.ensures.1 in
    rw (p.1, p.2) (fails_also c.in_err-segments.field-0.0 (collection_none c.args.bytes.now) c.in_err-segments.ensures)

pub returns-in-Some : goal.returns-in-Some
returns-in-Some c = collection_read c.args.bytes.now c.in_ok-segments.segments.items c.in-Some.path c.in_ok-segments.rest.now c.in_ok-segments.ensures c.in-Some.ensures.0 c.in-Some.ensures.1

pub returns-in-None : goal.returns-in-None
returns-in-None c = collection_even c.args.bytes.now c.in_ok-segments.segments.items c.in_ok-segments.rest.now c.in_ok-segments.ensures c.in-None.ensures
