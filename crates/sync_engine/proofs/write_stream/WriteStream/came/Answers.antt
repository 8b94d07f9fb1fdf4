use Rattle.std.proofs.Common.{◌∷◌, ◌∙◌}
use Rattle.write_pipeline.specs.Standing.{step_of}
use Rattle.sync_engine.proofs.Sent.{answered_open}
use Rattle.sync_engine.proofs.write_stream.WriteStream.came.Goals as goal

pub returns : goal.returns
returns c = λ h stands. record {
  opening = stands.opening ∙ answered_open c.args.answer h;
  pipeline = c.keep_token.ensures (step_of c.args.answer ∷ h) (c.accept.ensures h stands.pipeline);
}
