use Rattle.json_text.proofs.Adding.{onto, one_token, last_token}
use Rattle.line_printer.proofs.document.put_missing.Goals as goal

pub returns : goal.returns
returns c = last_token (onto (onto (onto (one_token c.in_ok-begin_object.ensures) c.in_ok-put_flag.ensures) c.in_ok-put_text_member.ensures) c.in_ok-put_text_member-2.ensures) c.end_object.ensures
