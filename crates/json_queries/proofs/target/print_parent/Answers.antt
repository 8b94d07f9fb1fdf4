use Rattle.std.proofs.Common.{ap, sym, ◌∙◌}
use Rattle.std.proofs.lemmas.Result.{IfOk-weaker}
use Rattle.document_keys.specs.Names.{name_text}
use Rattle.json_queries.proofs.Shown.{parent_is}
use Rattle.json_queries.proofs.target.print_parent.Goals as goal

pub returns : goal.returns
returns c = IfOk-weaker c.print_parent.result _ _ (λ name is. is.3 ∙ ap (name_text c.args.root.now) (sym (parent_is _ is.0 is.1 is.2))) c.print_parent.ensures
