use Rattle.std.proofs.Common.{◌++◌, ◌∙◌, ap, lit<, rules, tests}
use Rattle.std.proofs.lemmas.Str.{encode_ascii}
use Rattle.std.specs.String.{string_bytes}
use Rattle.document_keys.proofs.Keys.{built_first, built_more}
use Rattle.document_keys.proofs.key_builder.push_segment.Goals as goal

pub returns-then-is_empty : goal.returns-then-is_empty
returns-then-is_empty c = built_first (string_bytes c.args.path.now) _ c.args.segment.now (search (rules, tests)) (c.in_ok-push_str.ensures.bytes ∙ ap (λ t. t ++ c.args.segment.now) c.reserve.ensures.bytes) c.requires.segment

pub returns : goal.returns
returns c = built_more _ _ _ _ (search (rules, tests)) (c.in_ok-push.ensures.bytes ∙ ap (λ t. string_bytes c.args.path.now ++ t) (encode_ascii 47 (lit< tt))) c.in_ok-push_str-2.ensures.bytes c.requires.segments c.requires.segment
