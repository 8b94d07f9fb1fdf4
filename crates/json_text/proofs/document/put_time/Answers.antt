use Rattle.std.proofs.Common.{sym, ap, ◌∙◌, ◌∷◌, [], codes}
use Rattle.json.specs.Token.{string, key, end_object}
use Rattle.json_model.specs.Printed.{with_time}
use Rattle.json_text.specs.Puts.{tokens_of_members}
use Rattle.json_text.proofs.Adding.{same, then_token}
use Rattle.json_text.proofs.document.put_time.Goals as goal

pub returns : goal.returns
returns c =
    let text = ap (λ s. key (codes "updateTime") ∷ string s ∷ end_object ∷ []) (c.as_str.ensures.value ∙ c.in_ok-text.ensures) in
    same (text ∙ ap (λ at. tokens_of_members (with_time at)) (sym c.in-Some.is)) (then_token c.in_ok-put_text_member.ensures c.in_ok-end_object-2.ensures)
