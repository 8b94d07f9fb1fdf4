use Rattle.std.proofs.Common.{ap, ◌∙◌}
use Rattle.std.proofs.lemmas.Result.{IfOk-weaker}
use Rattle.serde_json.specs.Written.{has_float}
use Rattle.json_messages.proofs.Digits.{listen_request_digits}
use Rattle.json_messages.proofs.listen_request.print_listen_request.Goals as goal

pub returns-clause-digits : goal.returns-clause-digits
returns-clause-digits c = IfOk-weaker c.print_tree.result _ _ (λ json is. ap has_float is ∙ listen_request_digits c.args.root.now c.args.request.now) c.print_tree.ensures
