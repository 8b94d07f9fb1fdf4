use Rattle.std.proofs.Common.{◌≡◌, map}
use Rattle.std.specs.Map.Iter.{deref_pair}
use Rattle.serde_json.specs.View.{members_view}
use Rattle.json_model.specs.Members.{chosen}
use Rattle.json_model.proofs.OneChosen.{kind_list}
use Rattle.json_model.proofs.members.only_chosen.Given as goal

abbrev pub invariant-loop-name : goal.invariant-loop-name
invariant-loop-name l =
    (goal.iterator-loop-name).can_next l.name-iterator ×
    (goal.iterator-loop-name).is_finite l.name-iterator ×
    (chosen l.object (members_view (map deref_pair l.yielded)) ≡ kind_list l.only)
