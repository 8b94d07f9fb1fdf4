use Rattle.std.proofs.Common.{sym, subst}
use Rattle.json_model.specs.References.{SpellsReference}
use Rattle.json_model.proofs.Kinded.{same_text}
use Rattle.json_model.proofs.OneLeaf.{no_reference_fault}
use Rattle.json_model.proofs.scalars.reference_value.Goals as goal

pub returns-in_ok-unless_memory-in-Err : goal.returns-in_ok-unless_memory-in-Err
returns-in_ok-unless_memory-in-Err c = λ v spelled.
    let same = same_text _ _ _ c.in-Some.ensures spelled.1.0.1.0 in
    c.in_ok-unless_memory-in-Err.ensures.fault (no_reference_fault _ _ (spelled.0, subst (λ t. SpellsReference t spelled.0) (sym same) spelled.1.0.1.1) c.in-Err.ensures.fault)
