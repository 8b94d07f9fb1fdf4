use Rattle.json_text.proofs.Adding.{onto_last}
use Rattle.line_printer.proofs.snapshot.put_rest.Goals as goal

pub returns : goal.returns
returns c = onto_last c.put_time.result _ _ c.in_ok-put_count.ensures c.put_time.ensures
