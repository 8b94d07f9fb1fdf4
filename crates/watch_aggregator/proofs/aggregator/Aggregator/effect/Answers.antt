use Rattle.std.proofs.lemmas.Result.{IfErr-weaker, IfOk-weaker}
use Rattle.watch_aggregator.proofs.aggregator.Aggregator.effect.Goals as goal

pub returns-in-Target-clause-gives : goal.returns-in-Target-clause-gives
returns-in-Target-clause-gives c = rw c.in-Target.is (IfOk-weaker c.effect_of.result _ _ (λ effect is h s. is c.args.self.now.tokens.items h (rw c.as_slice.ensures.value s.targets)) c.effect_of.ensures.gives)

pub returns-in-Target-clause-refuses : goal.returns-in-Target-clause-refuses
returns-in-Target-clause-refuses c = rw c.in-Target.is (IfErr-weaker c.effect_of.result _ _ (λ fault is h s. is c.args.self.now.tokens.items h (rw c.as_slice.ensures.value s.targets)) c.effect_of.ensures.refuses)
