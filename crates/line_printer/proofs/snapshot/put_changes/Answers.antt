use Rattle.json_text.proofs.Adding.{onto_last, one_token, then_token}
use Rattle.line_printer.proofs.snapshot.put_changes.Goals as goal

pub returns : goal.returns
returns c = onto_last c.put_each_change.result _ _ (then_token (one_token c.in_ok-key.ensures) c.in_ok-begin_array.ensures) c.put_each_change.ensures
