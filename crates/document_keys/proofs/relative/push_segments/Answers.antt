use Rattle.std.proofs.Common.{◌++◌, ◌∙◌, ap, arith, lit<}
use Rattle.std.proofs.lemmas.Str.{encode_ascii}
use Rattle.std.specs.String.{string_bytes}
use Rattle.document_keys.proofs.PathTexts.{more_segments}
use Rattle.document_keys.proofs.relative.push_segments.Goals as goal

pub loop-segment-preserved : goal.loop-segment-preserved
loop-segment-preserved c =
    let slash = c.in_ok-push.ensures.bytes ∙ ap (λ t. string_bytes c.loop-segment.text ++ t) (encode_ascii 47 (lit< tt)) in
    let more = c.in_ok-push_str.ensures.bytes ∙ ap (λ t. string_bytes c.push.new.self ++ t) c.as_str.ensures.text in
    more_segments _ _ _ _ _ _ _ (omega arith) c.segment-item.is c.loop-segment.invariant slash more
