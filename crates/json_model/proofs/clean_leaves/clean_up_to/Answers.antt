use Rattle.json_model.proofs.clean_leaves.clean_up_to.Goals as goal

pub unreachable-requires : goal.unreachable-requires
unreachable-requires c = (rw c.in-None.is at c.read_up_to.ensures) c.requires.0 c.requires.1
