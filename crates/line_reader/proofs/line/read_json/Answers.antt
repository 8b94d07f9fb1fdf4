use Rattle.std.proofs.Common.{ℕ, List}
use Rattle.std.proofs.lemmas.Result.{IfOk-weaker}
use Rattle.host_api.specs.Items.{Bytes}
use Rattle.serde_json.specs.View.{view}
use Rattle.line_reader.specs.Reading.{IsJson, Reads, IsReadingOf, no_fault}
use Rattle.line_reader.proofs.Lined.{refused}
use Rattle.line_reader.proofs.line.read_json.Goals as goal

pub returns-in-Ok-clause-is : goal.returns-in-Ok-clause-is
returns-in-Ok-clause-is c =
    let tree = view c.args.json.now in
    IfOk-weaker c.read.result (IsReadingOf c.in-Ok.raw) (λ reading. (text : List ℕ) → IsJson text tree → Reads c.args.root.now (Bytes text) reading)
    (λ reading is text json. no_fault text tree c.in-Ok.raw reading json c.in-Ok.ensures.clean c.in-Ok.ensures.event is) c.read.ensures.is

pub returns-in_ok-refusal_of-in-Err-clause-is : goal.returns-in_ok-refusal_of-in-Err-clause-is
returns-in_ok-refusal_of-in-Err-clause-is c = λ text json. refused _ text _ c.in-Err.fault _ json c.in-Err.ensures.fault c.in_ok-refusal_of-in-Err.ensures
