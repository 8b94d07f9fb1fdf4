use Rattle.std.proofs.Common.{codes, false, ◌∙◌}
use Rattle.serde_json.specs.Data.{boolean, string}
use Rattle.json_text.specs.Puts.{tokens_of}
use Rattle.json_text.proofs.Adding.{same}
use Rattle.line_printer.specs.Trees.{three}
use Rattle.line_printer.proofs.Begun.{ended}
use Rattle.line_printer.proofs.document.print_missing.Goals as goal

pub returns : goal.returns
returns c =
    let name = c.as_str.ensures.value ∙ c.in_ok-name.ensures in
    let put = same (λ i. tokens_of (three (codes "exists") (boolean false) (codes "name") (string (name i)) (codes "state") (string (c.state_text.ensures i)))) c.in_ok-put_missing.ensures in
    ended _ _ _ _ _ c.in_ok-out.ensures put c.end_line.ensures
