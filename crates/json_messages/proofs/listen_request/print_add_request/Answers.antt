use Rattle.std.proofs.Common.{ℤ, ap, ◌∙◌, w32}
use Rattle.std.proofs.lemmas.Int.{to_z-of_z}
use Rattle.std.proofs.lemmas.Result.{IfOk-weaker}
use Rattle.serde_json.specs.Data.{Data}
use Rattle.serde_json.specs.Written.{has_float}
use Rattle.queries.specs.declared.listen_request.ListenRequest.TheVariants.{Add}
use Rattle.json_messages.specs.Printed.{lent_point, printed_listen_request}
use Rattle.json_messages.proofs.Digits.{listen_request_digits}
use Rattle.json_messages.proofs.listen_request.print_add_request.Goals as goal

pub returns-clause-digits : goal.returns-clause-digits
returns-clause-digits c =
    let printed : ℤ → Data = λ z. printed_listen_request c.args.root.now (Add z c.args.target.now (lent_point c.args.resume)) in
    let same = ap printed (to_z-of_z w32 c.args.id c.ranges.id) in
    let digits = listen_request_digits c.args.root.now (Add c.args.id c.args.target.now (lent_point c.args.resume)) in
    IfOk-weaker c.print_added_tree.result _ _ (λ json is. ap has_float (is ∙ same) ∙ digits) c.print_added_tree.ensures
