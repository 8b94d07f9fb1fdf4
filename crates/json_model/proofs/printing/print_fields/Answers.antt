use Rattle.std.proofs.Common.{ap, ◌∙◌}
use Rattle.serde_json.specs.Data.{object}
use Rattle.serde_json.specs.Written.{has_float}
use Rattle.serde_json.proofs.Views.{view-Object}
use Rattle.json_model.proofs.Digits.{printed_fields_digits}
use Rattle.json_model.proofs.printing.print_fields.Goals as goal

pub returns-clause-digits : goal.returns-clause-digits
returns-clause-digits c = ap has_float (view-Object c.in_ok-members.members ∙ ap object c.in_ok-members.ensures) ∙ printed_fields_digits c.args.fields.now
