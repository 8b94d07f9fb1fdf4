use Rattle.std.proofs.Common.{◌+◌, ◌-◌, ◌*◌, length}
use Rattle.value_model.proofs.changes.+without.Given as goal

abbrev pub decreases-without_inner : goal.decreases-without_inner
decreases-without_inner l = 2 * (length l.path.now - l.from) + 1

abbrev pub decreases-without_member : goal.decreases-without_member
decreases-without_member l = 2 * (length l.path.now - l.from)
