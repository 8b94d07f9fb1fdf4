use Rattle.std.proofs.Common.{codes, subst, w32}
use Rattle.std.proofs.lemmas.Int.{to_z-of_z}
use Rattle.serde_json.specs.Data.{number}
use Rattle.serde_json.specs.Find.{of_integer}
use Rattle.json_text.specs.Puts.{Adds, tokens_of}
use Rattle.line_printer.specs.Lines.{count}
use Rattle.line_printer.specs.Trees.{three}
use Rattle.line_printer.proofs.Begun.{ended}
use Rattle.line_printer.proofs.answer.print_listening.Goals as goal

pub returns : goal.returns
returns c =
    let put = subst (λ z. Adds c.in_ok-out.out c.put_listening.new.out (tokens_of (three (codes "commit") (count c.args.commit) (codes "id") (count c.args.id) (codes "targetId") (number (of_integer z))))) (to_z-of_z w32 c.args.target c.ranges.target) c.in_ok-put_listening.ensures in
    ended _ _ _ _ _ c.in_ok-out.ensures put c.end_line.ensures
