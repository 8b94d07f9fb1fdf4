use Rattle.std.proofs.Common.{rules, ◌≡◌, ℕ, List, [], Some, subst}
use Rattle.std.specs.Prelude.{IsUtf8}
use Rattle.json.specs.Json.{value}
use Rattle.json.specs.Lex.{tokens}
use Rattle.json.specs.Value.{value_view}
use Rattle.line_reader.proofs.OnePass.{batch_line}
use Rattle.line_reader.proofs.batch.read_batch_line.Goals as goal

pub returns-clause-is : goal.returns-clause-is
returns-clause-is c =
    let utf8 : IsUtf8 c.args.text.now = search rules in
    let same : c.in-Ok.text.now ≡ c.args.text.now = search rules in
    batch_line _ _ (value_view c.in-Some.tree) _ utf8 (subst (λ (content : List ℕ). value 127 (tokens content) ≡ Some (value_view c.in-Some.tree, [])) same (rw c.in-Some.is at c.in_ok-tree.ensures)) c.plain_batch.ensures.is
