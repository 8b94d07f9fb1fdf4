use Rattle.std.proofs.Common.{◌++◌, length, sym, arith}
use Rattle.record_parts.specs.Spelling.{number}
use Rattle.record_parts.proofs.Puts.{segment_put, segment_there}
use Rattle.target_codec.proofs.targets.put_collection.Goals as goal
use Rattle.target_codec.proofs.targets.put_collection.Goals.{in-Some+in_ok-put_text, in_default}

pub loop-i-preserved : goal.loop-i-preserved
loop-i-preserved c =
    elim c.match-segment.branch [
      | in-Some+in_ok-put_text w ↦ segment_put (c.args.out.now.items ++ number (length c.args.path.now)) c.loop-i.out.items c.match-segment.out.items c.args.path.now c.loop-i.i w.in-Some.segment.now (sym w.in-Some.ensures) c.loop-i.invariant (rw w.out-is w.in_ok-put_text.ensures)
      | in_default w ↦ absurd (segment_there c.args.path.now c.loop-i.i (omega (arith, c.loop-i-test.true, c.len-count.ensures.count)) (sym w.in_default.ensures))
    ]
