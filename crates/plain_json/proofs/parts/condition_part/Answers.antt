use Rattle.plain_json.proofs.Gathered.{of_condition}
use Rattle.plain_json.proofs.parts.condition_part.Goals as goal

pub returns : goal.returns
returns c = of_condition _ _ c.in_ok-condition.ensures
