use Rattle.watch_points.proofs.Once.{once}
use Rattle.watch_points.proofs.laws.a_point_commits_once.Goals as goal

pub returns : goal.returns
returns c = once
