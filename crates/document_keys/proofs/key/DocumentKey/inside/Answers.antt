use Rattle.std.proofs.Common.{◌++◌, ◌∙◌, ap, lit<}
use Rattle.std.proofs.lemmas.Result.{IfOk-weaker}
use Rattle.std.proofs.lemmas.Str.{encode_ascii}
use Rattle.std.specs.String.{string_bytes}
use Rattle.document_keys.specs.Names.{parts_of, relative_path}
use Rattle.document_keys.proofs.Keys.{key_inside}
use Rattle.document_keys.proofs.key.DocumentKey.inside.Goals as goal

pub of_path-requires : goal.of_path-requires
of_path-requires c =
    rw c.as_str-2.ensures.value (key_inside c.args.collection.now c.args.id.now _ _ _ c.len-count.ensures.collection c.as_str.ensures.segment (c.in_ok-path.ensures ∙ ap relative_path c.as_slice.ensures)
    (c.in_ok-push.ensures.bytes ∙ ap (λ t. string_bytes c.in_ok-path.path ++ t) (encode_ascii 47 (lit< tt)))
    (c.in_ok-push_str.ensures.bytes ∙ ap (λ t. string_bytes c.push.new.self ++ t) c.as_str.ensures.text)).1

pub returns : goal.returns
returns c =
    let parts = (key_inside c.args.collection.now c.args.id.now _ _ _ c.len-count.ensures.collection c.as_str.ensures.segment (c.in_ok-path.ensures ∙ ap relative_path c.as_slice.ensures)
    (c.in_ok-push.ensures.bytes ∙ ap (λ t. string_bytes c.in_ok-path.path ++ t) (encode_ascii 47 (lit< tt)))
    (c.in_ok-push_str.ensures.bytes ∙ ap (λ t. string_bytes c.push.new.self ++ t) c.as_str.ensures.text)).0 in
    IfOk-weaker c.of_path.result _ _ (λ key is. is ∙ ap parts_of c.as_str-2.ensures.value ∙ parts) c.of_path.ensures
