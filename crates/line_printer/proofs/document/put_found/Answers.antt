use Rattle.json_text.proofs.Adding.{onto, onto_last, one_token}
use Rattle.line_printer.proofs.document.put_found.Goals as goal

pub returns : goal.returns
returns c = onto_last c.put_members.result _ _ (onto (one_token c.in_ok-begin_object.ensures) c.in_ok-put_flag.ensures) c.put_members.ensures
