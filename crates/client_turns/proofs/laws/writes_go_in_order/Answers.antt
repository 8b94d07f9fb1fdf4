use Rattle.client_turns.proofs.Ordered.{writes_go_in_order}
use Rattle.client_turns.proofs.laws.writes_go_in_order.Goals as goal

pub returns : goal.returns
returns c = writes_go_in_order
