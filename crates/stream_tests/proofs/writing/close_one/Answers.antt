use Rattle.std.proofs.Common.{[], ◌∷◌, refl, subst}
use Rattle.write_pipeline.specs.Order.{opened, shaken}
use Rattle.write_pipeline.specs.Standing.{StandsFor, step_of}
use Rattle.stream_tests.proofs.writing.close_one.Goals as goal

pub sent-requires : goal.sent-requires
sent-requires c = record {
  steps = shaken ∷ opened ∷ [];
  stands = subst (λ a. StandsFor c.answer.new.self (step_of a ∷ opened ∷ [])) c.in-Ok-Handshake.field-0-is (c.in-Ok-Handshake.ensures.done (opened ∷ []) (c.opened.ensures [] c.new-pipeline.ensures));
  may = refl;
}
