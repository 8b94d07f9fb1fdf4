use Rattle.serde_json.proofs.Views.{members_view-insert_entry}
use Rattle.json_model.proofs.objects.put_member.Goals as goal

pub returns : goal.returns
returns c = rw (← c.in_ok-name.ensures.ok, c.in_ok-insert.ensures.entries) (members_view-insert_entry c.args.members.now.entries c.in_ok-name.name _)
