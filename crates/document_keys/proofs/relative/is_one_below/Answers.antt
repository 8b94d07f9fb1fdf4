use Rattle.document_keys.proofs.PathTexts.{one_below}
use Rattle.document_keys.proofs.relative.is_one_below.Goals as goal

pub returns-in-Some : goal.returns-in-Some
returns-in-Some c = one_below _ c.args.segments.now c.in-Some.rest.now c.cut.result.0.now c.cut.result.1 c.is_none.result c.is_none.ensures c.in-Some.ensures c.cut.ensures.cut
