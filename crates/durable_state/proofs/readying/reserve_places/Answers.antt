use Rattle.std.proofs.Common.{◌∙◌, ap, sym}
use Rattle.std.specs.Option.{option_and_then}
use Rattle.remote_documents.specs.Table.{held}
use Rattle.remote_documents.proofs.Maps.{one_map}
use Rattle.durable_state.proofs.readying.reserve_places.Goals as goal

pub returns-clause-same : goal.returns-clause-same
returns-clause-same c = one_map _ _ (λ q. c.is_map.ensures q ∙ ap (option_and_then held) (c.make_room-made.ensures q) ∙ sym (c.requires q))
