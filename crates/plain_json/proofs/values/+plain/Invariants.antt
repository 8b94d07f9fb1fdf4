use Rattle.std.proofs.Common.{◌+◌, ◌*◌, length, take}
use Rattle.std.specs.List.{All}
use Rattle.std.specs.Map.{keys_of}
use Rattle.std.specs.Str.{IsUtf8}
use Rattle.json.specs.Tree.{json_tokens}
use Rattle.json.specs.Value.{value_view}
use Rattle.value_model.specs.Data.{members_of}
use Rattle.value_model.specs.Storable.{AreStorableMembers}
use Rattle.plain_json.proofs.Fields.{FieldsSoFar}
use Rattle.plain_json.proofs.Lists.{ValuesSoFar}
use Rattle.plain_json.proofs.values.+plain.Given as goal

abbrev pub decreases-plain_value : goal.decreases-plain_value
decreases-plain_value l = 4 * length (json_tokens (value_view l.tree.now)) + 3

abbrev pub decreases-plain_kind : goal.decreases-plain_kind
decreases-plain_kind l = 4 * length (json_tokens (value_view l.tree.now)) + 2

abbrev pub decreases-plain_array : goal.decreases-plain_array
decreases-plain_array l = 4 * length (json_tokens (value_view l.tree.now)) + 1

abbrev pub decreases-plain_values : goal.decreases-plain_values
decreases-plain_values l = 4 * length (json_tokens (value_view l.tree.now))

abbrev pub decreases-plain_map : goal.decreases-plain_map
decreases-plain_map l = 4 * length (json_tokens (value_view l.tree.now)) + 1

abbrev pub decreases-plain_fields : goal.decreases-plain_fields
decreases-plain_fields l = 4 * length (json_tokens (value_view l.tree.now))

abbrev pub invariant-plain_values-loop-item : goal.invariant-plain_values-loop-item
invariant-plain_values-loop-item l = ValuesSoFar l.setting l.limit (take l.item-index l.item-items) l.values.items

abbrev pub invariant-plain_fields-loop-member : goal.invariant-plain_fields-loop-member
invariant-plain_fields-loop-member l =
    FieldsSoFar l.setting l.limit (take l.member-index l.member-items) l.fields ×
    All IsUtf8 (keys_of l.fields) ×
    AreStorableMembers (members_of l.fields)
