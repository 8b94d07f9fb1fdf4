use Rattle.std.proofs.Common.{List, [], ◌∷◌, ◌++◌, ap, ◌∙◌}
use Rattle.sync_engine.specs.declared.out.Out.{Out}
use Rattle.sync_engine.specs.declared.out.Out.TheVariants.{Document}
use Rattle.sync_engine.proofs.Turning.{hands_got}
use Rattle.sync_engine.proofs.client.Client.get.Goals as goal

pub returns-clause-turn : goal.returns-clause-turn
returns-clause-turn c = λ s past stands. hands_got c.args.key c.requires.idle stands (c.in_ok-push.ensures.items ∙ ap (λ (o : List Out). o ++ Document c.args.key ∷ []) c.new-outs.ensures.items)
