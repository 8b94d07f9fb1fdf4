use Rattle.std.proofs.Common.{◌∙◌, ◌-◌, [], get_or, take, ap, arith}
use Rattle.std.proofs.lemmas.Result.{IfOk-weaker}
use Rattle.document_keys.specs.Names.{name_text}
use Rattle.document_keys.proofs.Collections.{last_split}
use Rattle.document_keys.proofs.collection.CollectionPath.print_parent.Goals as goal

pub returns : goal.returns
returns c =
    let path = c.self.inside.segments.items in
    let count = c.len-count.result in
    let odd = c.self.invariant.odd in
    rw (← c.self.view_is) (IfOk-weaker c.print_name.result _ _ (λ name is. (take (count - 1) path, get_or path (count - 1) [], last_split path count (omega arith) (omega arith), is ∙ ap (λ p. name_text c.args.root.now (take (count - 1) p)) c.as_slice.ensures.value)) c.print_name.ensures)
