use Rattle.std.proofs.Common.{◌∙◌, length, ap, sym}
use Rattle.mutations.specs.Results.{IsResultOf}
use Rattle.mutations.specs.declared.transform.Transform.{Transform}
use Rattle.value_model.specs.Data.{Data}
use Rattle.mutations.proofs.Fitting.{fit_length}
use Rattle.mutations.proofs.acknowledged.found.Goals as goal

abbrev Fits : Transform → Data → Type 0
Fits transform value = IsResultOf transform.change value

pub settled_fields-requires-clause-results : goal.settled_fields-requires-clause-results
settled_fields-requires-clause-results c =
    ap length c.as_slice.ensures ∙ fit_length Fits c.args.transforms.now c.args.returned.now.transforms c.requires.results ∙ sym (ap length c.as_slice-results.ensures)
