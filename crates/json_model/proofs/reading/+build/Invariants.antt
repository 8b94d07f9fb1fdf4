use Rattle.std.proofs.Common.{◌+◌, ◌*◌, [], take, map}
use Rattle.std.specs.List.{All}
use Rattle.std.specs.Map.{keys_of}
use Rattle.std.specs.Map.Iter.{deref_pair}
use Rattle.std.specs.Str.{IsUtf8}
use Rattle.serde_json.specs.Data.{depth}
use Rattle.serde_json.specs.View.{view, members_view}
use Rattle.value_model.specs.Data.{members_of}
use Rattle.value_model.specs.Storable.{AreStorableMembers}
use Rattle.json_model.specs.Grammar.{SpellsMembers}
use Rattle.json_model.proofs.Built.{Items}
use Rattle.json_model.proofs.reading.+build.Given as goal

abbrev pub decreases-clean_value : goal.decreases-clean_value
decreases-clean_value l = 5 * depth (view l.json.now) + 4

abbrev pub decreases-build_kind : goal.decreases-build_kind
decreases-build_kind l = 5 * depth (view l.json.now) + 3

abbrev pub decreases-build_nested : goal.decreases-build_nested
decreases-build_nested l = 5 * depth (view l.json.now) + 2

abbrev pub decreases-build_array : goal.decreases-build_array
decreases-build_array l = 5 * depth (view l.json.now) + 1

abbrev pub decreases-clean_values : goal.decreases-clean_values
decreases-clean_values l = 5 * depth (view l.json.now)

abbrev pub decreases-build_map : goal.decreases-build_map
decreases-build_map l = 5 * depth (view l.json.now) + 1

abbrev pub decreases-clean_fields : goal.decreases-clean_fields
decreases-clean_fields l = 5 * depth (view l.json.now)

abbrev pub invariant-clean_values-loop-item : goal.invariant-clean_values-loop-item
invariant-clean_values-loop-item l = Items (take l.item-index l.item-items) l.values.items

abbrev pub invariant-clean_fields-loop-key : goal.invariant-clean_fields-loop-key
invariant-clean_fields-loop-key l =
    (goal.iterator-clean_fields-loop-key).can_next l.key-iterator ×
    (goal.iterator-clean_fields-loop-key).is_finite l.key-iterator ×
    SpellsMembers (members_view (map deref_pair l.yielded)) [] l.fields ×
    All IsUtf8 (keys_of l.fields) ×
    AreStorableMembers (members_of l.fields)
