-- What is read of a tree that is to be a scalar.
use Rattle.std.specs.Prelude.{Option, MatchOption}
use Rattle.serde_json.specs.Data.{Data as Json}
use Rattle.value_model.specs.Data.{Data}
use Rattle.value_model.specs.Storable.{IsStorable}
use Rattle.json_model.specs.declared.place.Leaf.{Leaf}
use Rattle.json_model.specs.Grammar.{SpellsScalar}

-- a value that the tree spells, and that can be stored
pub record IsReadScalar (kind : Leaf) (d : Json) (v : Data) : Type 0 where
  pub spelled : SpellsScalar kind d v
  pub storable : IsStorable v

-- the scalar of that kind, or none where the tree spells none
abbrev pub ReadsScalar : Leaf → Json → Option Data → Type 0
ReadsScalar kind d found = MatchOption found ((v : Data) → SpellsScalar kind d v → ⊥) (IsReadScalar kind d)
