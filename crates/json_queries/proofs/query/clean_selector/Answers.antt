use Rattle.std.proofs.Common.{sym}
use Rattle.std.proofs.lemmas.Result.{IfOk-weaker}
use Rattle.serde_json.specs.View.{view, members_view}
use Rattle.json_queries.proofs.query.clean_selector.Goals as goal

pub returns-clause-id : goal.returns-clause-id
returns-clause-id c = IfOk-weaker c.clean_id.result _ _ (λ id spells. record {
  members = members_view c.clean_object-members.result.now.entries;
  is = c.clean_object-members.ensures.is;
  spells = record { tree = view c.in-Some.id.now; is = sym c.in-Some.ensures.is; spells = spells };
}) c.clean_id.ensures.id
