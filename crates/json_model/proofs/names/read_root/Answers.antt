use Rattle.std.proofs.Common.{sym, subst}
use Rattle.document_keys.specs.Names.{IsSegment}
use Rattle.json_model.proofs.Cuts.{one_root}
use Rattle.json_model.proofs.names.read_root.Goals as goal

pub returns-in_default-2 : goal.returns-in_default-2
returns-in_default-2 c = λ root is under.
    let unlike = rw c.in_default-2.is at c.in_ok-project.ensures in
    let same = one_root c.args.text.now (record { project = c.in-Some.project.now; name = c.in-Some.name.now }) root c.in-Some.ensures.0 c.in-Some.ensures.1 is.project.part is.name.part c.in-Some.ensures.2 under in
    unlike (subst IsSegment (sym same.0) is.project)

pub returns-in_default-3 : goal.returns-in_default-3
returns-in_default-3 c = λ root is under.
    let unlike = rw c.in_default-3.is at c.in_ok-name.ensures in
    let same = one_root c.args.text.now (record { project = c.in-Some.project.now; name = c.in-Some.name.now }) root c.in-Some.ensures.0 c.in-Some.ensures.1 is.project.part is.name.part c.in-Some.ensures.2 under in
    unlike (subst IsSegment (sym same.1) is.name)
