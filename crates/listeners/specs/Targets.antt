-- The index by which the listeners of a target are found.
use Rattle.std.specs.Prelude.{◌≡◌, ◌≢◌, ◌↔◌, ◌&&◌, ℕ, ℤ, Bool, List, [], Some, IsTrue, if◌then◌else◌}
use Rattle.std.specs.BTreeMap.{is_at}
use Rattle.std.specs.BTreeSet.{BTreeSet}
use Rattle.std.specs.Map.{lookup}
use Rattle.std.specs.Ordering.{int_cmp}
use Rattle.listeners.specs.Places.{Index, IsIndexed, is_among}
use Rattle.listeners.specs.Table.{Table, is_id, target_of}

-- the ids of listeners by those of their targets, ascending
abbrev pub TargetIndex : Type 0
TargetIndex = List (ℤ × BTreeSet ℕ)

-- the two are one target's id
abbrev pub is_target : ℤ → ℤ → Bool
is_target target = is_at (int_cmp target)

-- the id stands at the target
abbrev pub serves : TargetIndex → ℤ → ℕ → Bool
serves index target id = is_among (lookup (is_target target) index) id

-- one id stands at one target, or doesn't, and else all is as before
abbrev pub SetsServed : ℤ → ℕ → Bool → TargetIndex → TargetIndex → Type 0
SetsServed target id there old new = (t : ℤ) (q : ℕ)
    → serves new t q ≡ (if is_target target t && is_id id q then there else serves old t q)

-- each id stands where it did
abbrev pub SameServed : TargetIndex → TargetIndex → Type 0
SameServed old new = (t : ℤ) (q : ℕ) → serves new t q ≡ serves old t q

-- no target is kept at which no id stands
abbrev pub AreFilled : TargetIndex → Type 0
AreFilled index = (target : ℤ) (ids : BTreeSet ℕ) → lookup (is_target target) index ≡ Some ids
    → ids.keys ≢ []

-- an id stands at a target exactly where that is its listener's
abbrev pub IsTargeted : Table → TargetIndex → Type 0
IsTargeted table index = (target : ℤ) (id : ℕ) → IsTrue (serves index target id)
    ↔ (target_of table id ≡ Some target)

-- the listeners are found by their places and by their targets
pub record AreFound (table : Table) (places : Index) (targets : TargetIndex) : Type 0 where
  pub indexed : IsIndexed table places
  pub targeted : IsTargeted table targets
  pub filled : AreFilled targets
