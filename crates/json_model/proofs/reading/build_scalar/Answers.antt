use Rattle.json_model.proofs.Fine.{clean_leaf}
use Rattle.json_model.proofs.Spelling.{leaf_spelled}
use Rattle.json_model.proofs.reading.build_scalar.Goals as goal

pub unreachable-requires : goal.unreachable-requires
unreachable-requires c =
    let spelled = leaf_spelled c.args._setting.now _ _ (clean_leaf _ _ _ c.requires.clean) c.requires.scalar in
    (rw c.in-None.is at c.in_ok-value.ensures) spelled.0 spelled.1
