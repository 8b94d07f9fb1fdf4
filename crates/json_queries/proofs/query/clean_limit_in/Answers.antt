use Rattle.std.proofs.Common.{w32, subst, sym}
use Rattle.std.proofs.lemmas.Int.{to_z-of_z}
use Rattle.serde_json.specs.View.{view}
use Rattle.json_model.specs.Numbers.{SpellsShort}
use Rattle.json_queries.proofs.query.clean_limit_in.Goals as goal

pub returns-in-Some-clause-limit : goal.returns-in-Some-clause-limit
returns-in-Some-clause-limit c = rw c.in-Some.is (subst (SpellsShort (view c.in-Some.json.now)) (sym (to_z-of_z w32 c.clean_limit.result c.clean_limit.ensures.fits)) c.clean_limit.ensures)
