-- What stands beside an update in its write.
use Rattle.std.specs.Prelude.{◌≡◌, ◌⊎◌, List, codes, true, false, ℕ}
use Rattle.serde_json.specs.Data.{Data as Json, Members, no_members, member}
use Rattle.json_model.specs.declared.place.Object.TheVariants as object
use Rattle.json_model.specs.Faults.{max_nesting}
use Rattle.json_model.specs.Fits.{Fits}
use Rattle.json_model.specs.Members.{is_left_out}
use Rattle.json_model.specs.Origin.{Origin}
use Rattle.json_model.specs.Places.{member_place}

-- a member of a write is left out, or is of its form
abbrev pub FitsInWrite : Origin → List ℕ → Json → Type 0
FitsInWrite o name d =
    (is_left_out (member_place object.Write name) d ≡ true)
    ⊎ ((is_left_out (member_place object.Write name) d ≡ false) × Fits o max_nesting (member_place object.Write name) d)

-- each member of a write but its update is left out, or is of its form
abbrev pub FitBeside : Origin → Members → Type 0
FitBeside o no_members = Unit {0}
FitBeside o (member name d ms) = ((name ≡ codes "update") ⊎ FitsInWrite o name d) × FitBeside o ms
