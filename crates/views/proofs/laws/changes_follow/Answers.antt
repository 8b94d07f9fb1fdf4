use Rattle.views.proofs.Following.{changes_follow}
use Rattle.views.proofs.laws.changes_follow.Goals as goal

pub returns : goal.returns
returns c = changes_follow
