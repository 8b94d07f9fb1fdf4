use Rattle.write_pipeline.proofs.Turns.{in_order}
use Rattle.write_pipeline.proofs.laws.batches_go_in_order.Goals as goal

pub returns : goal.returns
returns c = in_order
