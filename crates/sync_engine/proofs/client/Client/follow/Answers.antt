use Rattle.sync_engine.proofs.Following.{nothing_done}
use Rattle.sync_engine.proofs.client.Client.follow.Goals as goal

pub returns-in-Nothing-clause-files : goal.returns-in-Nothing-clause-files
returns-in-Nothing-clause-files g c = λ told. nothing_done c.requires.whole (c.requires.stored told)
