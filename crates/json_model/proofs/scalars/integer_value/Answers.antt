use Rattle.json_model.proofs.scalars.integer_value.Goals as goal

pub returns-in_default : goal.returns-in_default
returns-in_default c = λ v spelled. (rw c.in_default.is at c.read_whole.ensures) spelled.0 spelled.1.0
