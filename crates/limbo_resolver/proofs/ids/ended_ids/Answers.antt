use Rattle.std.proofs.Common.{pos, arith}
use Rattle.std.proofs.lemmas.Grind.{common_steps}
use Rattle.limbo_resolver.proofs.Pairs.{all_pairs, ended_more}
use Rattle.limbo_resolver.proofs.ids.ended_ids.Goals as goal

pub loop-i-preserved : goal.loop-i-preserved
loop-i-preserved c =
    let more = ended_more c.args.wanted.now c.args.ids.now c.args.keys.now c.loop-i.i (pos 0) c.index-keys-i.result c.is_wanted.result c.loop-i-test.true c.requires c.index-keys-i.is c.is_wanted.ensures in
    grind (arith, common_steps, more)

pub returns : goal.returns
returns c = let all = all_pairs c.args.ids.now c.args.keys.now c.requires in grind (arith, common_steps, all)
