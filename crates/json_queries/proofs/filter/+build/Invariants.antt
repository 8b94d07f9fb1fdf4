use Rattle.std.proofs.Common.{◌+◌, ◌*◌, take}
use Rattle.serde_json.specs.Data.{depth, members_depth}
use Rattle.serde_json.specs.View.{view, members_view}
use Rattle.json_model.proofs.Forms.{Spelled}
use Rattle.json_queries.specs.Grammar.{SpellsFilter}
use Rattle.json_queries.specs.Storable.{HasCountedParts}
use Rattle.json_queries.proofs.filter.+build.Given as goal

abbrev pub decreases-clean_filter : goal.decreases-clean_filter
decreases-clean_filter l = 4 * depth (view l.json.now) + 3

abbrev pub decreases-clean_composite_filter : goal.decreases-clean_composite_filter
decreases-clean_composite_filter l = 4 * depth (view l.json.now) + 2

abbrev pub decreases-clean_filters_in : goal.decreases-clean_filters_in
decreases-clean_filters_in l = 4 * members_depth (members_view l.members.now.entries) + 4

abbrev pub decreases-clean_items : goal.decreases-clean_items
decreases-clean_items l = 4 * depth (view l.json.now) + 1

abbrev pub invariant-clean_items-loop-item : goal.invariant-clean_items-loop-item
invariant-clean_items-loop-item l = Spelled SpellsFilter HasCountedParts (take l.item-index l.item-items) l.filters.items
