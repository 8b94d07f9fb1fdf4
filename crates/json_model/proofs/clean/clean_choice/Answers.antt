use Rattle.json_model.proofs.Choices.{choice_there}
use Rattle.json_model.proofs.clean.clean_choice.Goals as goal

pub unreachable-requires : goal.unreachable-requires
unreachable-requires c = choice_there _ _ _ c.requires.clean c.requires.chooses (rw c.in-None.is at c.only_choice.ensures)
