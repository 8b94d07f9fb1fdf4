use Rattle.std.proofs.Common.{ap, ◌∙◌}
use Rattle.std.proofs.lemmas.Result.{IfOk-weaker}
use Rattle.serde_json.specs.Written.{has_float}
use Rattle.json_queries.proofs.Digits.{target_digits}
use Rattle.json_queries.proofs.target.print_target.Goals as goal

pub returns-clause-digits : goal.returns-clause-digits
returns-clause-digits c = IfOk-weaker c.print_tree.result _ _ (λ json is. ap has_float is ∙ target_digits c.args.root.now c.args.target.now) c.print_tree.ensures
