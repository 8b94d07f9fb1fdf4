use Rattle.std.proofs.Common.{take, map}
use Rattle.std.specs.Map.Iter.{deref_pair}
use Rattle.serde_json.specs.View.{items_view}
use Rattle.json_model.specs.Faults.{FirstOf, ItemsFaults}
use Rattle.json_model.proofs.Walked.{SoFar, names_of}
use Rattle.json_model.proofs.walk.+find.Given as goal

abbrev pub invariant-find_in_items-loop-item : goal.invariant-find_in_items-loop-item
invariant-find_in_items-loop-item l = FirstOf (ItemsFaults l.setting l.limit l.series l.name (items_view (take l.item-index l.item-items))) l.first

abbrev pub invariant-find_in_members-loop-key : goal.invariant-find_in_members-loop-key
invariant-find_in_members-loop-key l =
    (goal.iterator-find_in_members-loop-key).can_next l.key-iterator ×
    (goal.iterator-find_in_members-loop-key).is_finite l.key-iterator ×
    SoFar l.setting l.limit l.object (map deref_pair l.yielded) (names_of l.names) l.first
