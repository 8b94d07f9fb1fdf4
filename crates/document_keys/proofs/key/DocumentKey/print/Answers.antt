use Rattle.std.proofs.Common.{◌++◌, ◌∙◌, ap}
use Rattle.std.specs.String.{string_bytes}
use Rattle.document_keys.proofs.Keys.{printed}
use Rattle.document_keys.proofs.key.DocumentKey.print.Goals as goal

pub returns : goal.returns
returns c =
    let path = c.in_ok-push_str-2.ensures.bytes ∙ ap (λ t. string_bytes c.push_str.new.self ++ t) c.as_str-2.ensures in
    rw (← c.self.view_is) (printed c.args.root.now c.self.inside.path _ _ _ (c.in_ok-name.ensures.ok ∙ c.as_str.ensures.text) c.in_ok-push_str.ensures.bytes path)
