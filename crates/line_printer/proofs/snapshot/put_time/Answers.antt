use Rattle.std.proofs.Common.{option_map, sym, ap, ◌∙◌, ◌∷◌, [], codes}
use Rattle.json.specs.Token.{string, key, end_object}
use Rattle.serde_json.specs.Data.{no_members}
use Rattle.json_model.specs.Forms.{before}
use Rattle.json_text.specs.Puts.{tokens_of_members}
use Rattle.json_text.proofs.Adding.{same, then_token}
use Rattle.line_printer.specs.Lines.{time_tree}
use Rattle.line_printer.proofs.snapshot.put_time.Goals as goal

pub returns : goal.returns
returns c =
    let text = ap (λ s. key (codes "readTime") ∷ string s ∷ end_object ∷ []) (c.as_str.ensures.value ∙ c.in_ok-text.ensures) in
    same (text ∙ ap (λ at. tokens_of_members (before (codes "readTime") (option_map time_tree at) no_members)) (sym c.in-Some.is)) (then_token c.in_ok-put_text_member.ensures c.in_ok-end_object-2.ensures)
