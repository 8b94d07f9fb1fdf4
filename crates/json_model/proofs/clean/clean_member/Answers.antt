use Rattle.json_model.proofs.Sound.{required_there}
use Rattle.json_model.proofs.Trees.{given_within}
use Rattle.json_model.proofs.clean.clean_member.Goals as goal

pub returns-clause-there : goal.returns-clause-there
returns-clause-there c = required_there _ _ _ _ c.given.result c.requires c.given.ensures

pub returns-clause-depth : goal.returns-clause-depth
returns-clause-depth c = given_within _ _ c.given.result c.given.ensures
