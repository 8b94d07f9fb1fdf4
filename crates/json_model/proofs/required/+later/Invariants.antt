use Rattle.std.proofs.Common.{length}
use Rattle.json_model.proofs.required.+later.Given as goal

abbrev pub decreases-later : goal.decreases-later
decreases-later l = length l.names.now
