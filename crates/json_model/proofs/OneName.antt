-- A tree names one document at most under a root.
use Rattle.std.proofs.Common.{◌≡◌, ℕ, List, sym, ◌∙◌}
use Rattle.std.specs.List.{All}
use Rattle.serde_json.specs.Data.{Data, string}
use Rattle.document_keys.specs.Names.{Root, IsPart, IsSegment, name_text}
use Rattle.document_keys.proofs.Lawful.{named_once}
use Rattle.json_model.specs.Grammar.{SpellsName}

parts_of : (path : List (List ℕ)) → All IsSegment path → All IsPart path
parts_of path all k d below = (all k d below).part

pub spells_name_one : (root : Root) (d : Data) (a b : List (List ℕ)) → SpellsName root d a → SpellsName root d b → a ≡ b
spells_name_one root d a b first second = named_once root a b (parts_of a first.names.segments) (parts_of b second.names.segments) (let e : string (name_text root a) ≡ string (name_text root b) = sym first.is ∙ second.is in cc)
