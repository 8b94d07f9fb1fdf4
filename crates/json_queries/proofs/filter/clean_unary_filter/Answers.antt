use Rattle.std.proofs.Common.{refl, sym}
use Rattle.serde_json.specs.View.{view}
use Rattle.json_model.proofs.Trees.{object_at}
use Rattle.json_queries.specs.Grammar.{as_unary}
use Rattle.json_queries.proofs.filter.clean_unary_filter.Goals as goal

pub returns-clause-filter : goal.returns-clause-filter
returns-clause-filter c = as_unary _ _ _ refl (object_at _ _ (sym c.clean_object-members.ensures.is)) (record {
  names = record { tree = view c.in-Some-clean_member.field.now; is = sym c.in-Some-clean_member.ensures.is; spells = c.in_ok-path.ensures.path };
  tests = record { tree = view c.in-Some.op.now; is = sym c.in-Some.ensures.is; spells = c.clean_test-op.ensures };
})
