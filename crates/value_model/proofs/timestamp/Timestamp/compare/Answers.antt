use Rattle.value_model.proofs.Instants.{order_is}
use Rattle.value_model.proofs.timestamp.Timestamp.compare.Goals as goal

pub returns : goal.returns
returns c = order_is _ _ _ c.requires.this c.requires.that c.cmp.ensures
