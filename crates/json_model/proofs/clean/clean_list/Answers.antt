use Rattle.json_model.proofs.Sound.{clean_items}
use Rattle.json_model.proofs.Trees.{array_at}
use Rattle.json_model.proofs.clean.clean_list.Goals as goal

pub returns-clause-clean : goal.returns-clause-clean
returns-clause-clean c = clean_items _ _ _ _ (array_at _ _ c.in-Some.ensures) c.requires
