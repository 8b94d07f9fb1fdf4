use Rattle.std.proofs.Common.{◌<◌, refl, arith}
use Rattle.outcome_codec.proofs.Adjacents.{pairs_from}
use Rattle.outcome_codec.proofs.ascending.ids_ascend.Goals as goal

pub returns : goal.returns
returns c = (λ given. pairs_from ◌<◌ (λ a b d first second. omega (arith, first, second)) c.args.ids.now (λ k d below. c.loop-i.invariant k d (omega arith)), λ all. refl)
