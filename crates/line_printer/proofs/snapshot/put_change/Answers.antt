use Rattle.std.proofs.Common.{codes, ◌∙◌}
use Rattle.serde_json.specs.Data.{string}
use Rattle.json_text.specs.Puts.{tokens_of}
use Rattle.json_text.proofs.Adding.{same}
use Rattle.line_printer.specs.Trees.{two}
use Rattle.line_printer.proofs.snapshot.put_change.Goals as goal

pub returns : goal.returns
returns c =
    let name = c.as_str.ensures.value ∙ c.in_ok-name.ensures in
    same (λ i. tokens_of (two (codes "kind") (string (c.kind_text.ensures i)) (codes "name") (string (name i)))) c.in_ok-put_parts.ensures
