-- Sets of the ids of listeners.
use Rattle.std.specs.Prelude.{◌≡◌, ℕ, Bool, IsTrue, if◌then◌else◌}
use Rattle.std.specs.BTreeSet as set
use Rattle.std.specs.BTreeSet.{BTreeSet}
use Rattle.std.specs.Ordering.{nat_cmp}
use Rattle.listeners.specs.Table.{is_id}

-- the set has the id
abbrev pub has_id : BTreeSet ℕ → ℕ → Bool
has_id ids id = set.contains nat_cmp ids id

-- what was in the set still is
abbrev pub KeepsMembers : BTreeSet ℕ → BTreeSet ℕ → Type 0
KeepsMembers was now = (q : ℕ) → IsTrue (has_id was q) → IsTrue (has_id now q)

-- one id is in the set, or isn't, and every other stays where it was
abbrev pub SetsMember : ℕ → Bool → BTreeSet ℕ → BTreeSet ℕ → Type 0
SetsMember id there was now = (q : ℕ) → has_id now q ≡ (if is_id id q then there else has_id was q)
