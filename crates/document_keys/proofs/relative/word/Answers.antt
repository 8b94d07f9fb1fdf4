use Rattle.std.proofs.Common.{arith}
use Rattle.document_keys.proofs.PathTexts.{word_read}
use Rattle.document_keys.proofs.relative.word.Goals as goal

pub returns-clause-word : goal.returns-clause-word
returns-clause-word c =
    let e = c.in_ok-front.ensures.cases in
    word_read c.args.bytes.now c.in_ok-front.front.now c.in_ok-front.rest.now c.from_be_bytes.result (λ i. omega (arith, c.type_inv.bytes i)) c.from_be_bytes.ensures e.0 e.1 (omega (arith, e.2))
