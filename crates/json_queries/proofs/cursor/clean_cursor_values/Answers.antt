use Rattle.std.proofs.Common.{sym, subst}
use Rattle.std.specs.List.{All}
use Rattle.serde_json.specs.View.{members_view}
use Rattle.json_queries.specs.Storable.{IsStorableOperand}
use Rattle.json_queries.proofs.Read.{left_out_values}
use Rattle.json_queries.proofs.Stored.{operands, no_operands}
use Rattle.json_queries.proofs.cursor.clean_cursor_values.Goals as goal

pub returns-in-None-clause-values : goal.returns-in-None-clause-values
returns-in-None-clause-values c = left_out_values (members_view c.args.members.now.entries) _ c.in-None.ensures.is c.new.ensures

pub returns-in-None-clause-storable : goal.returns-in-None-clause-storable
returns-in-None-clause-storable c = no_operands _ c.new.ensures

pub returns-in_ok-values-in-Some-clause-storable : goal.returns-in_ok-values-in-Some-clause-storable
returns-in_ok-values-in-Some-clause-storable c = subst (All IsStorableOperand) (sym c.from_vec.ensures) (operands _ c.in_ok-values-in-Some.ensures.storable c.in_ok-values-in-Some.ensures.deep)
