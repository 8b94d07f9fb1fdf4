use Rattle.client_turns.proofs.Ones.{a_turn_is_one}
use Rattle.client_turns.proofs.laws.a_turn_is_one.Goals as goal

pub returns : goal.returns
returns c = a_turn_is_one
