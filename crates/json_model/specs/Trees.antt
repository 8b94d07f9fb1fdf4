-- JSON objects with two members, one or none.
use Rattle.std.specs.Prelude.{ℕ, List}
use Rattle.serde_json.specs.Data.{Data as Json, object, no_members, member}

-- an object with this member alone
abbrev pub one : List ℕ → Json → Json
one name d = object (member name d no_members)

-- an object without members
abbrev pub empty : Json
empty = object no_members

-- an object with these two members alone
abbrev pub two : List ℕ → Json → List ℕ → Json → Json
two first d second e = object (member first d (member second e no_members))
