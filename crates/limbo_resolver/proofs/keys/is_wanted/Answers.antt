use Rattle.limbo_resolver.proofs.Members.{has_is}
use Rattle.limbo_resolver.proofs.keys.is_wanted.Goals as goal

pub returns : goal.returns
returns c = has_is c.args.wanted.now c.args.key.now c.has.result c.has.ensures
