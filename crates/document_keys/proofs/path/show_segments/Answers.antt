use Rattle.std.proofs.Common.{arith}
use Rattle.document_keys.proofs.Parts.{segments_more, segments_whole}
use Rattle.document_keys.proofs.path.show_segments.Goals as goal

pub loop-segment-preserved : goal.loop-segment-preserved
loop-segment-preserved c = segments_more _ _ _ (omega arith) c.segment-item.is c.loop-segment.invariant c.as_str-text.ensures.segment

pub returns : goal.returns
returns c = segments_whole _ _ (omega arith) c.loop-segment.invariant
