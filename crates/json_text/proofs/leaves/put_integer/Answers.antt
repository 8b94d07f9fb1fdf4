use Rattle.std.proofs.Common.{subst, codes, w64}
use Rattle.std.proofs.lemmas.Int.{to_z-of_z}
use Rattle.std.specs.Fmt.{signed_decimal}
use Rattle.json_model.specs.Printed.{printed_text}
use Rattle.json_text.specs.Puts.{Puts}
use Rattle.json_text.proofs.Adding.{one_token, then_token, last_token}
use Rattle.json_text.proofs.leaves.put_integer.Goals as goal

pub returns : goal.returns
returns c =
    subst (λ n. Puts c.end_object.result c.args.out.now c.end_object.new.self (printed_text (codes "integerValue") (signed_decimal n))) (to_z-of_z w64 c.args.number c.ranges.number)
    (last_token (then_token (then_token (one_token c.in_ok-begin_object.ensures) c.in_ok-key.ensures) c.in_ok-quoted_i64.ensures) c.end_object.ensures)
