use Rattle.json_model.proofs.leaves.find_in_leaf_text.Goals as goal

pub returns-in-Reference : goal.returns-in-Reference
returns-in-Reference c = rw c.in-Reference.is c.find_in_reference_text.ensures
