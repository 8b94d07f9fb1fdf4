use Rattle.std.proofs.Common.{◌+◌, ◌-◌, ◌*◌, length}
use Rattle.value_model.proofs.changes.+with.Given as goal

abbrev pub decreases-with_inner : goal.decreases-with_inner
decreases-with_inner l = 2 * (length l.path.now - l.from) + 1

abbrev pub decreases-with_member : goal.decreases-with_member
decreases-with_member l = 2 * (length l.path.now - l.from)
