use Rattle.std.proofs.Common.{arith}
use Rattle.std.proofs.lemmas.List.{length-map}
use Rattle.target_cache.specs.Order.{target_of, targets_in}
use Rattle.target_cache.proofs.Targets.{none_at_all, none_below}
use Rattle.target_cache.proofs.order.place_from.Goals as goal

pub loop-i-init : goal.loop-i-init
loop-i-init c = none_below (targets_in c.args.rows.now c.args.order.now) c.args.target.now c.args.from c.requires.from

pub returns : goal.returns
returns c =
    let long = length-map c.args.order.now (target_of c.args.rows.now) in
    none_at_all (targets_in c.args.rows.now c.args.order.now) c.args.target.now c.loop-i.i (omega arith) c.loop-i.invariant
