use Rattle.std.proofs.Common.{inr}
use Rattle.json_model.specs.declared.fault.NamingFault.TheVariants.{BadPath, ReservedField}
use Rattle.json_model.specs.Leaves.{QueryPathFaults, too_many}
use Rattle.json_model.proofs.Naming.{only}
use Rattle.json_model.proofs.OneLeaf.{names_fault}
use Rattle.json_model.proofs.names.read_query_path.Goals as goal

pub returns-then-branch-clause-fault : goal.returns-then-branch-clause-fault
returns-then-branch-clause-fault c = inr (only (QueryPathFaults c.args.text.now) _ (too_many (c.in_ok-has_many_names.ensures.0 c.if-branch.true)))

pub returns-in_ok-bad_name-in-Err-BadPath-clause-fault : goal.returns-in_ok-bad_name-in-Err-BadPath-clause-fault
returns-in_ok-bad_name-in-Err-BadPath-clause-fault c =
    names_fault _ _ _ _ (λ many. let e = c.in_ok-has_many_names.ensures.1 many in cc) (inr (BadPath, (rw c.in-Err-BadPath.field-0-is at c.in-Err-BadPath.ensures.fault), c.in_ok-bad_name-in-Err-BadPath.ensures))

pub returns-in_ok-bad_name-in-Err-ReservedField-clause-fault : goal.returns-in_ok-bad_name-in-Err-ReservedField-clause-fault
returns-in_ok-bad_name-in-Err-ReservedField-clause-fault c =
    names_fault _ _ _ _ (λ many. let e = c.in_ok-has_many_names.ensures.1 many in cc) (inr (ReservedField, (rw c.in-Err-ReservedField.field-0-is at c.in-Err-ReservedField.ensures.fault), c.in_ok-bad_name-in-Err-ReservedField.ensures))
