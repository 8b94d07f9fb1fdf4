-- Whose tree it is.
use Rattle.document_keys.specs.Names.{Root}
use Rattle.json_model.specs.declared.side.Side.{Side}

-- the side that wrote a tree, and the database that its names are of
pub record Origin : Type 0 where
  pub side : Side
  pub root : Root
