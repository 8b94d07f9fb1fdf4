use Rattle.std.proofs.Common.{arith, refl, subst}
use Rattle.document_keys.specs.Names.{HasNameLength}
use Rattle.document_keys.proofs.Fields.{walk_more, walk_whole}
use Rattle.document_keys.proofs.field.all_have_name_length.Goals as goal

pub loop-name-preserved : goal.loop-name-preserved
loop-name-preserved c = walk_more HasNameLength _ _ _ (omega arith) c.name-item.is c.loop-name.invariant (subst HasNameLength c.as_str.ensures (c.has_name_length.ensures.0 c.if-not-has_name_length.false))

pub returns : goal.returns
returns c = let all = walk_whole HasNameLength _ _ (omega arith) c.loop-name.invariant in (λ yet. all, λ given. refl)
