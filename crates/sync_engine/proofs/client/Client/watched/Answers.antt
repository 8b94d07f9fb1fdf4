use Rattle.std.proofs.Common.{sym, ap, ◌∙◌, false}
use Rattle.sync_engine.specs.Standing.{Kept}
use Rattle.sync_engine.proofs.Following.{nothing_done}
use Rattle.sync_engine.proofs.Heard.{heard_unopened}
use Rattle.sync_engine.proofs.Streamed.{hands_disallowed}
use Rattle.sync_engine.proofs.client.Client.watched.Goals as goal

pub returns-then-not-self-clause-turn : goal.returns-then-not-self-clause-turn
returns-then-not-self-clause-turn g c = λ s past stands. hands_disallowed false _ c.refused.ensures c.requires.idle stands (heard_unopened c.args.response.now stands (ap (λ (k : Kept). k.watch.is_open) (sym c.self.view_is) ∙ c.if-not-self.true))

pub returns-then-not-self-clause-files : goal.returns-then-not-self-clause-files
returns-then-not-self-clause-files g c = λ told. nothing_done c.requires.whole (c.requires.stored told)

pub returns-in-Err-BadMessage-clause-files : goal.returns-in-Err-BadMessage-clause-files
returns-in-Err-BadMessage-clause-files g c = λ told. nothing_done c.requires.whole (c.requires.stored told)

pub returns-in-Err-NoMemory-clause-files : goal.returns-in-Err-NoMemory-clause-files
returns-in-Err-NoMemory-clause-files g c = λ told. nothing_done c.requires.whole (c.requires.stored told)
