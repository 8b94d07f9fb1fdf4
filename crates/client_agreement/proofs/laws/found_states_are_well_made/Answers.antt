use Rattle.client_agreement.proofs.Ascending.{well_made_found}
use Rattle.client_agreement.proofs.laws.found_states_are_well_made.Goals as goal

pub returns : goal.returns
returns c = well_made_found
