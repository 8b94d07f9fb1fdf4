use Rattle.std.proofs.Common.{◌++◌, ◌∙◌, ap, arith, lit<}
use Rattle.std.proofs.lemmas.Str.{encode_ascii}
use Rattle.std.specs.String.{string_bytes}
use Rattle.document_keys.proofs.Parts.{name_begins, name_more}
use Rattle.document_keys.proofs.path.print_name.Goals as goal

pub loop-segment-init : goal.loop-segment-init
loop-segment-init c = name_begins _ c.args.segments.now _ _ (c.in_ok-name.ensures.ok ∙ c.as_str.ensures.text) c.in_ok-push_str.ensures.bytes

pub loop-segment-preserved : goal.loop-segment-preserved
loop-segment-preserved c =
    let slash = c.in_ok-push.ensures.bytes ∙ ap (λ t. string_bytes c.loop-segment.name ++ t) (encode_ascii 47 (lit< tt)) in
    let more = c.in_ok-push_str-2.ensures.bytes ∙ ap (λ t. string_bytes c.push.new.self ++ t) c.as_str-in-loop-segment.ensures.text in
    name_more _ _ _ _ _ _ _ (omega arith) c.segment-item.is c.loop-segment.invariant slash more
