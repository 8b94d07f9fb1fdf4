use Rattle.std.proofs.Common.{arith, subst, sym}
use Rattle.document_keys.specs.Names.{IsReserved}
use Rattle.document_keys.proofs.Fields.{none_reserved, walk_more, walk_whole}
use Rattle.document_keys.proofs.field.some_is_reserved.Goals as goal

pub loop-name-preserved : goal.loop-name-preserved
loop-name-preserved c =
    walk_more (λ name. ¬ (IsReserved name)) _ _ _ (omega arith) c.name-item.is c.loop-name.invariant
    (λ reserved. let found = c.is_reserved.ensures.1 (subst IsReserved (sym c.as_str.ensures) reserved) in let missed = c.if-is_reserved.false in cc (found, missed))

pub returns : goal.returns
returns c = let all = walk_whole (λ name. ¬ (IsReserved name)) _ _ (omega arith) c.loop-name.invariant in (λ no. cc, λ some. absurd (none_reserved _ all some))
