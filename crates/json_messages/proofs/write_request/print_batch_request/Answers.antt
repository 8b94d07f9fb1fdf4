use Rattle.std.proofs.Common.{ap, ◌∙◌}
use Rattle.serde_json.specs.Data.{object}
use Rattle.serde_json.specs.Written.{has_float}
use Rattle.serde_json.proofs.Views.{view-Object}
use Rattle.mutations.specs.declared.results.WriteRequest.TheVariants.{Batch}
use Rattle.json_messages.proofs.Digits.{write_request_digits}
use Rattle.json_messages.proofs.write_request.print_batch_request.Goals as goal

pub returns-clause-digits : goal.returns-clause-digits
returns-clause-digits c = ap has_float (view-Object c.in_ok-members.members ∙ ap object c.in_ok-members.ensures) ∙ write_request_digits c.args.root.now (Batch c.args.token.now c.args.writes.now)
