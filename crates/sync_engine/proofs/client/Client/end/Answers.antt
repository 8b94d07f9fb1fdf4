use Rattle.std.proofs.Common.{subst, arith}
use Rattle.client_turns.specs.Hearing.{AreDropped}
use Rattle.sync_engine.proofs.Dropped.{no_key, some_key}
use Rattle.sync_engine.proofs.Following.{nothing_done}
use Rattle.sync_engine.proofs.client.Client.end.Goals as goal

pub returns-in_err-keys-clause-files : goal.returns-in_err-keys-clause-files
returns-in_err-keys-clause-files g c = λ told. nothing_done c.requires.whole (c.requires.stored told)

pub drop_documents-requires-clause-some : goal.drop_documents-requires-clause-some
drop_documents-requires-clause-some g c = some_key c.in_ok-keys.keys (omega (arith, c.if-len-gt0.true, c.len.ensures.count))

pub end_targets-requires-clause-none : goal.end_targets-requires-clause-none
end_targets-requires-clause-none g c = subst (AreDropped c.args.self.now.limbo.limbo c.args.ids.now) (no_key c.in_ok-keys.keys (omega (arith, c.if-len-gt0.false, c.len.ensures.count))) c.in_ok-keys.ensures
