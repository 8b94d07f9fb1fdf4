use Rattle.std.proofs.Common.{ap, ◌∙◌}
use Rattle.serde_json.specs.Written.{has_float}
use Rattle.serde_json.proofs.Views.{view-Object}
use Rattle.json_rpc.proofs.Digits.{write_digits}
use Rattle.json_rpc.proofs.write.print_write.Goals as goal

pub returns-clause-digits : goal.returns-clause-digits
returns-clause-digits c = ap has_float (view-Object c.in_ok-members.members ∙ c.in_ok-members.ensures) ∙ write_digits c.args.root.now c.args.write.now
