use Rattle.serde_json.specs.View.{members_view}
use Rattle.json_queries.proofs.Read.{operand_clean}
use Rattle.json_queries.proofs.filter.clean_operand_in.Goals as goal

pub clean_value-requires : goal.clean_value-requires
clean_value-requires c = operand_clean _ (members_view c.args.members.now.entries) _ c.in-Some.ensures.clean
