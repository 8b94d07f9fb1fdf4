use Rattle.std.proofs.Common.{◌∙◌}
use Rattle.watch_points.proofs.Missed.{is_untold, told_is}
use Rattle.watch_points.proofs.entries.untold.Goals as goal

pub returns-then-has : goal.returns-then-has
returns-then-has c = is_untold c.args.told.now c.args.key.now _ (told_is c.args.told.now c.args.key.now c.has.result c.has.ensures ∙ c.if-has.true)

pub returns-else-has : goal.returns-else-has
returns-else-has c = is_untold c.args.told.now c.args.key.now _ (told_is c.args.told.now c.args.key.now c.has.result c.has.ensures ∙ c.if-has.false)
