use Rattle.std.proofs.Common.{subst}
use Rattle.json_model.specs.Numbers.{max_code}
use Rattle.json_messages.specs.Grammar.{SpellsNumber}
use Rattle.json_messages.proofs.status.clean_code_in.Goals as goal

pub returns-in-Some : goal.returns-in-Some
returns-in-Some c = subst (λ found. SpellsNumber max_code found c.clean_code.result) c.in-Some.ensures.is c.clean_code.ensures
