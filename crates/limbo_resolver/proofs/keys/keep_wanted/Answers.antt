use Rattle.std.proofs.Common.{rules}
use Rattle.std.proofs.lemmas.Fn.{filter_same}
use Rattle.limbo_resolver.specs.Limbo.{has}
use Rattle.limbo_resolver.proofs.keys.keep_wanted.Goals as goal

pub returns : goal.returns
returns c = filter_same _ (has c.args.wanted.now) _ (λ x b f' called. search rules) c.args.keys.now.keys c.retain.new.self.keys c.retain.ensures.filtered
