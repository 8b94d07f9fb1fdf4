use Rattle.std.proofs.Common.{ℕ, List, sym, subst}
use Rattle.std.proofs.lemmas.Result.{IfOk-weaker}
use Rattle.host_api.specs.Items.{Bytes}
use Rattle.line_reader.specs.Reading.{Reads, IsReadingOf, IsLineOf, no_json, no_fault}
use Rattle.line_reader.specs.declared.refusal.Refusal.TheVariants.{BadLine}
use Rattle.line_reader.specs.declared.reading.Reading.TheVariants.{Refused}
use Rattle.line_reader.proofs.line.read_line.Goals as goal

pub returns-in-Some-clause-is : goal.returns-in-Some-clause-is
returns-in-Some-clause-is c =
    let line : IsLineOf c.args.root.now c.args.text.now c.in-Some.batch = rw c.in-Some.is at c.in_ok-batch.ensures.is in
    IfOk-weaker c.read.result (IsReadingOf c.in-Some.batch) (Reads c.args.root.now (Bytes c.args.text.now))
    (λ reading is. no_fault c.args.text.now line.tree c.in-Some.batch reading line.json line.clean line.spells is) c.read.ensures.is

pub returns-in-Err-clause-is : goal.returns-in-Err-clause-is
returns-in-Err-clause-is c = subst (λ (n : List ℕ). Reads c.args.root.now (Bytes c.args.text.now) (Refused (BadLine n))) (sym c.in_ok-from_str-in-Err.ensures)
    (no_json _ (λ d json. let none = c.in-Err.ensures.err (λ memory. let yes = c.is_memory.ensures.1 memory in cc) json.utf8 in cc (none, json.is)))
