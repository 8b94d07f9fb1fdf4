-- Objects that are put together member by member.
use Rattle.std.specs.Prelude.{ℕ, List, Option, Some, None}
use Rattle.serde_json.specs.Data.{Data as Json, Members, put}

-- the members with one more, in its place in the order of names, unless it is left out
abbrev pub with_given : List ℕ → Option Json → Members → Members
with_given name None ms = ms
with_given name (Some d) ms = put name d ms
