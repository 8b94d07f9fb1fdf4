use Rattle.views.proofs.Following.{changes_are_one}
use Rattle.views.proofs.laws.changes_are_one.Goals as goal

pub returns : goal.returns
returns c = changes_are_one
