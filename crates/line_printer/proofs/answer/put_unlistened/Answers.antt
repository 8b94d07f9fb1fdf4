use Rattle.json_text.proofs.Adding.{onto, one_token, last_token}
use Rattle.line_printer.proofs.answer.put_unlistened.Goals as goal

pub returns : goal.returns
returns c = last_token (onto (onto (one_token c.in_ok-begin_object.ensures) c.in_ok-put_count.ensures) c.in_ok-put_count-2.ensures) c.end_object.ensures
