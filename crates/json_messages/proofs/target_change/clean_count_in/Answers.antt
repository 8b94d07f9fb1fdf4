use Rattle.std.proofs.Common.{subst}
use Rattle.json_model.specs.Numbers.{max_count}
use Rattle.json_messages.specs.Grammar.{SpellsNumber}
use Rattle.json_messages.proofs.target_change.clean_count_in.Goals as goal

pub returns-in-Some : goal.returns-in-Some
returns-in-Some c = subst (λ found. SpellsNumber max_count found c.clean_count.result) c.in-Some.ensures.is c.clean_count.ensures
