use Rattle.host_api.specs.Replayed.{disk_of}
use Rattle.host_api.proofs.Picks.{picked_more}
use Rattle.host_api.proofs.replay.Replay.left.Goals as goal

pub loop-i-preserved : goal.loop-i-preserved
loop-i-preserved c = picked_more (disk_of c.args.self.now) c.args.fill c.loop-i.i c.loop-i.left.items c.push.new.self.items c.picked.result c.loop-i.invariant c.in_ok-push.ensures.items c.picked.ensures.stable c.picked.ensures.loose
