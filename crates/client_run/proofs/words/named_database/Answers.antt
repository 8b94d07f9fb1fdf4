use Rattle.std.proofs.Common.{sym, subst}
use Rattle.document_keys.specs.Names.{IsRoot}
use Rattle.client_run.proofs.Wording.{named_one}
use Rattle.client_run.proofs.words.named_database.Goals as goal

pub returns-in-Err-BadSegment : goal.returns-in-Err-BadSegment
returns-in-Err-BadSegment c = λ root names.
    let fault = rw c.in-Err-BadSegment.field-0-is at c.in-Err-BadSegment.ensures.fault in
    fault.2 (subst IsRoot (sym (named_one _ fault.0 root fault.1 names.0 names.1)) names.0)
