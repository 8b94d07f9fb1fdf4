use Rattle.std.proofs.lemmas.Result.{err_from_is_err_and}
use Rattle.document_keys.proofs.Roots.{fault_of_name}
use Rattle.document_keys.proofs.database.Database.read.Goals as goal

pub returns-in_err-name-clause-fault : goal.returns-in_err-name-clause-fault
returns-in_err-name-clause-fault c =
    let p = err_from_is_err_and c.from_residual-in_err-name.result c.from_residual-in_err-name.ensures.1 in
    let parts = rw c.in_ok-project.ensures.ok_part at c.cut_root.ensures in
    rw (p.1, p.2) (fault_of_name c.args.text.now c.in_ok-project.project.now c.in_ok-project.name.now _ parts c.in_err-name.ensures.fault)
