use Rattle.json_text.proofs.Adding.{one_token, then_token, last_token}
use Rattle.json_text.proofs.leaves.put_boolean.Goals as goal

pub returns : goal.returns
returns c = last_token (then_token (then_token (one_token c.in_ok-begin_object.ensures) c.in_ok-key.ensures) c.in_ok-boolean.ensures) c.end_object.ensures
