use Rattle.std.proofs.Common.{◌∙◌, sym}
use Rattle.remote_documents.proofs.Maps.{one_map}
use Rattle.durable_state.proofs.readying.make_place.Goals as goal

pub returns-clause-same : goal.returns-clause-same
returns-clause-same c = one_map _ _ (λ q. c.is_map.ensures q ∙ c.reserve-made.ensures.same q ∙ sym (c.requires q))
