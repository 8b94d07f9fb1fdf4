use Rattle.std.proofs.Common.{rules}
use Rattle.json_model.proofs.Kinded.{by_text}
use Rattle.json_model.proofs.leaves.find_in_leaf.Goals as goal

pub returns-in-Time : goal.returns-in-Time
returns-in-Time c = by_text _ _ _ _ c.find_by_text.result (let h = c.in-Time.is in search rules) c.find_by_text.ensures
