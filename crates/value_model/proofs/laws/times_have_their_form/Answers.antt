use Rattle.value_model.proofs.Formed.{times_formed}
use Rattle.value_model.proofs.laws.times_have_their_form.Goals as goal

pub returns : goal.returns
returns c = times_formed
