use Rattle.std.proofs.Common.{refl, sym}
use Rattle.json_model.proofs.Trees.{object_at}
use Rattle.json_queries.specs.Grammar.{as_field}
use Rattle.json_queries.proofs.Stored.{takes_operand}
use Rattle.json_queries.proofs.filter.clean_field_filter.Goals as goal

pub returns-clause-filter : goal.returns-clause-filter
returns-clause-filter c = as_field _ _ _ _ refl (object_at _ _ (sym c.clean_object-members.ensures.is)) (record { names = c.in_ok-path.ensures.path; compares = c.clean_operator_in-op.ensures; holds = c.in_ok-value.ensures.operand })

pub returns-clause-storable : goal.returns-clause-storable
returns-clause-storable c = record {
  names = c.in_ok-path.ensures.storable;
  value = c.in_ok-value.ensures.storable;
  takes = takes_operand _ _ _ _ c.clean_object-members.ensures.clean c.clean_operator_in-op.ensures c.in_ok-value.ensures.operand;
}
