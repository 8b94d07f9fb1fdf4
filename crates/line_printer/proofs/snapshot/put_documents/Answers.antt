use Rattle.std.proofs.Common.{◌∷◌, [], codes, ap}
use Rattle.json.specs.Token.{key, boolean}
use Rattle.json_text.proofs.Adding.{onto, onto_last, one_token, then_token, same}
use Rattle.line_printer.proofs.snapshot.put_documents.Goals as goal

pub returns : goal.returns
returns g c =
    let flag = same (ap (λ b. key (codes "fromCache") ∷ boolean b ∷ []) c.from_cache.ensures) c.in_ok-put_flag.ensures in
    let rows = onto (then_token (one_token c.in_ok-key.ensures) c.in_ok-begin_array.ensures) c.in_ok-put_rows.ensures in
    onto_last c.put_rest.result _ _ rows (onto_last c.put_rest.result _ _ flag c.put_rest.ensures)
