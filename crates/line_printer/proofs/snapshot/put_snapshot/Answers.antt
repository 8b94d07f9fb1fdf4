use Rattle.std.proofs.Common.{◌∷◌, codes, ap}
use Rattle.json.specs.Token.{key}
use Rattle.serde_json.specs.Data.{array}
use Rattle.json_model.specs.Forms.{printed_each}
use Rattle.json_text.specs.Puts.{tokens_of}
use Rattle.json_text.proofs.Adding.{onto, onto_last, one_token, same}
use Rattle.line_printer.specs.Lines.{change_tree}
use Rattle.line_printer.proofs.snapshot.put_snapshot.Goals as goal

pub returns : goal.returns
returns g c =
    let changes = same (ap (λ cs. key (codes "changes") ∷ tokens_of (array (printed_each (change_tree c.args.root.now) cs))) c.changes.ensures) c.in_ok-put_changes.ensures in
    let first = onto (one_token c.in_ok-begin_object.ensures) changes in
    onto_last c.put_documents.result _ _ first (onto_last c.put_documents.result _ _ c.in_ok-put_count.ensures c.put_documents.ensures)
