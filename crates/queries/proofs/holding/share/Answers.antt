use Rattle.std.proofs.Common.{arith}
use Rattle.std.specs.List.{Contains}
use Rattle.std.proofs.lemmas.List.Elements.{All-contains}
use Rattle.document_keys.proofs.Fields.{walk_more, walk_whole}
use Rattle.queries.proofs.holding.share.Goals as goal

pub loop-value-preserved : goal.loop-value-preserved
loop-value-preserved c =
    walk_more (λ v. Contains c.args.others.now v → ⊥) _ _ _ (omega arith) c.value-item.is c.loop-value.invariant
    (λ there. let found = c.has.ensures.1 there in let missed = c.if-has.false in cc (found, missed))

pub returns : goal.returns
returns c =
    let all = walk_whole (λ v. Contains c.args.others.now v → ⊥) _ _ (omega arith) c.loop-value.invariant in
    (λ found. cc, λ some. absurd (All-contains (λ v. Contains c.args.others.now v → ⊥) c.args.values.now some.0 all some.1 some.2))
