use Rattle.std.proofs.Common.{w32, subst, sym}
use Rattle.std.proofs.lemmas.Int.{to_z-of_z}
use Rattle.json_messages.specs.Grammar.{SpellsTargetId}
use Rattle.json_messages.proofs.target_change.clean_target_id_in.Goals as goal

pub returns-in-Some : goal.returns-in-Some
returns-in-Some c =
    let spelled = subst (λ found. SpellsTargetId found c.clean_target_id.result) c.in-Some.ensures.is c.clean_target_id.ensures in
    subst (SpellsTargetId _) (sym (to_z-of_z w32 c.clean_target_id.result c.clean_target_id.ensures.fits)) spelled
