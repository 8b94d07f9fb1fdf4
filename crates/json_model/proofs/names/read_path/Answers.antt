use Rattle.std.proofs.Common.{inr}
use Rattle.std.proofs.lemmas.Result.{IfErr-weaker}
use Rattle.json_model.specs.Leaves.{PathFaults, too_many}
use Rattle.json_model.proofs.Naming.{only}
use Rattle.json_model.proofs.OneLeaf.{names_fault}
use Rattle.json_model.proofs.names.read_path.Goals as goal

pub returns-then-branch-clause-fault : goal.returns-then-branch-clause-fault
returns-then-branch-clause-fault c = inr (only (PathFaults c.args.text.now) _ (too_many (c.in_ok-has_many_names.ensures.0 c.if-branch.true)))

pub returns-clause-fault : goal.returns-clause-fault
returns-clause-fault c =
    IfErr-weaker c.read_names.result _ _ (λ fault why. names_fault _ _ c.args.text.now fault (λ many. let e = c.in_ok-has_many_names.ensures.1 many in cc) why) c.read_names.ensures.fault
