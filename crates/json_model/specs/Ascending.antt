-- Trees whose objects have their names in strictly ascending order of bytes, as every tree has that is read from a text.
use Rattle.std.specs.Prelude.{◌≡◌, ℕ, List}
use Rattle.std.specs.Ordering.{nat_cmp}
use Rattle.std.specs.declared.cmp.Ordering.TheVariants.{Less}
use Rattle.std.specs.Cmp.Lexicographic.{slice_cmp}
use Rattle.serde_json.specs.Data.{Data as Json, array, object, Members, no_members, member, Items, no_items, item}

-- the name comes before each of these, by their bytes
abbrev pub IsBelow : List ℕ → Members → Type 0
IsBelow name no_members = Unit {0}
IsBelow name (member other d ms) = (slice_cmp nat_cmp name other ≡ Less) × IsBelow name ms

-- the names of each object in the tree ascend strictly
abbrev mutual
  pub Ascends : Json → Type 0
  Ascends (array ds) = ItemsAscend ds
  Ascends (object ms) = MembersAscend ms
  Ascends _ = Unit {0}

  -- in each tree of a list
  pub ItemsAscend : Items → Type 0
  ItemsAscend no_items = Unit {0}
  ItemsAscend (item d ds) = Ascends d × ItemsAscend ds

  -- each name of these members comes before those that follow it, and in their values they ascend too
  pub MembersAscend : Members → Type 0
  MembersAscend no_members = Unit {0}
  MembersAscend (member name d ms) = IsBelow name ms × Ascends d × MembersAscend ms
