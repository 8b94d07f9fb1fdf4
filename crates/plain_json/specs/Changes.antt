-- What stands under the name of a change in a transform.
use Rattle.std.specs.Prelude.{◌≤◌, ◌-◌, ℕ, List, if◌then◌else◌}
use Rattle.serde_json.specs.Data.{Data}
use Rattle.json_model.specs.declared.place.Object.TheVariants as object
use Rattle.json_model.specs.Faults.{max_nesting}
use Rattle.json_model.specs.Fits.{Fits}
use Rattle.json_model.specs.Members.{is_of_array}
use Rattle.json_model.specs.Origin.{Origin}
use Rattle.json_model.specs.Places.{member_place}
use Rattle.json_rpc.specs.Grammar.{SpellsChange}
use Rattle.json_rpc.specs.Storable.{HoldsStorable}
use Rattle.mutations.specs.declared.transform.Change.{Change}

-- below a path of so many names a change of an array stands as deep as they are many, and any other at the top
abbrev pub levels_of : List ℕ → ℕ → ℕ
levels_of name names = if is_of_array name then names else 0

-- below a path of so many names: it is of the form that is to stand there, and spells the change, which the journal can hold
pub record IsChange (o : Origin) (names : ℕ) (name : List ℕ) (change : Change) (d : Data) : Type 0 where
  pub room : levels_of name names ≤ max_nesting
  pub fits : Fits o (max_nesting - levels_of name names) (member_place object.Transform name) d
  pub spelled : SpellsChange name d change
  pub stored : HoldsStorable change
