use Rattle.std.proofs.Common.{◌≡◌, ◌∙◌, ℤ, pos, negsuc, [], ◌∷◌, OnOk, codes, refl, ap, subst, w32, w64, to_z, of_z}
use Rattle.std.proofs.Math.Facts.{sfits_widen}
use Rattle.std.proofs.lemmas.Int.{to_z-of_z}
use Rattle.std.specs.Fmt.{signed_decimal}
use Rattle.json.specs.Token.{key, number}
use Rattle.serde_json.specs.Find.{of_integer}
use Rattle.serde_json.specs.Written.{number_text}
use Rattle.json_text.specs.Puts.{Adds}
use Rattle.json_text.proofs.Adding.{one_token, last_token}
use Rattle.line_printer.proofs.answer.put_target.Goals as goal

signed_text : (z : ℤ) → signed_decimal z ≡ number_text (of_integer z)
signed_text (pos n) = refl
signed_text (negsuc n) = refl

pub returns : goal.returns
returns c =
    let whole = ap (λ z. to_z w64 (of_z w64 z)) (to_z-of_z w32 c.args.target c.ranges.target) ∙ to_z-of_z w64 c.args.target (sfits_widen tt c.ranges.target) in
    subst (λ s. OnOk c.i64.result (Adds c.args.out.now c.i64.new.self (key (codes "targetId") ∷ number s ∷ []))) (ap signed_decimal whole ∙ signed_text c.args.target)
    (last_token (one_token c.in_ok-key.ensures) c.i64.ensures)
