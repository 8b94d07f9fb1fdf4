use Rattle.value_model.proofs.ReadBack.{time_read}
use Rattle.value_model.proofs.printing.times_read_back.Goals as goal

pub returns : goal.returns
returns c = time_read
