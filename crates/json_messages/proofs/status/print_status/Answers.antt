use Rattle.std.proofs.Common.{ap, ◌∙◌}
use Rattle.serde_json.specs.Data.{object}
use Rattle.serde_json.specs.Written.{has_float}
use Rattle.serde_json.proofs.Views.{view-Object}
use Rattle.json_messages.proofs.Digits.{status_digits}
use Rattle.json_messages.proofs.status.print_status.Goals as goal

pub returns-clause-digits : goal.returns-clause-digits
returns-clause-digits c = ap has_float (view-Object c.in_ok-members.members ∙ ap object c.in_ok-members.ensures) ∙ status_digits c.args.status.now
