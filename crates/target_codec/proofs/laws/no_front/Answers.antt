use Rattle.target_codec.proofs.FilterForms.{target_form}
use Rattle.target_codec.proofs.laws.no_front.Goals as goal

pub returns : goal.returns
returns c = target_form.unique
