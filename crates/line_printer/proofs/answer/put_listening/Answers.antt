use Rattle.std.proofs.Common.{[], ◌∷◌, codes, subst, w32}
use Rattle.std.proofs.lemmas.Int.{to_z-of_z}
use Rattle.json.specs.Token.{key, number}
use Rattle.serde_json.specs.Find.{of_integer}
use Rattle.serde_json.specs.Written.{number_text}
use Rattle.json_text.specs.Puts.{Adds}
use Rattle.json_text.proofs.Adding.{onto, one_token, last_token}
use Rattle.line_printer.proofs.answer.put_listening.Goals as goal

pub returns : goal.returns
returns c =
    let target = subst (λ z. Adds c.put_count-2.new.out c.put_target.new.out (key (codes "targetId") ∷ number (number_text (of_integer z)) ∷ [])) (to_z-of_z w32 c.args.target c.ranges.target) c.in_ok-put_target.ensures in
    last_token (onto (onto (onto (one_token c.in_ok-begin_object.ensures) c.in_ok-put_count.ensures) c.in_ok-put_count-2.ensures) target) c.end_object.ensures
