use Rattle.std.proofs.Common.{rules}
use Rattle.std.proofs.lemmas.List.Elements.{All-push, All-same}
use Rattle.document_keys.specs.Names.{IsSegment}
use Rattle.document_keys.proofs.key_builder.KeyBuilder.with.Goals as goal

pub invariant_of-result : goal.invariant_of-result
invariant_of-result c =
    All-same IsSegment _ _ c.in_ok-push_segment.ensures (All-push IsSegment _ _ c.self.invariant (c.is_segment.ensures.0 (search rules)))
