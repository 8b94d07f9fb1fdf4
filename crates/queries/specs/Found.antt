-- What is found at a path of a document, and the document itself, as contracts see them.
use Rattle.std.specs.Prelude.{ℕ, List, Option}
use Rattle.value_model.specs.Data.{Data, reference}
use Rattle.value_model.specs.Lent.{lent_name}
use Rattle.queries.specs.declared.candidate.Candidate.{Candidate}
use Rattle.queries.specs.declared.candidate.Found.{Found}
use Rattle.queries.specs.declared.candidate.Found.TheVariants.{Value, Name}
use Rattle.queries.specs.declared.target.CollectionTarget.{CollectionTarget}
use Rattle.queries.specs.Holding.{standing}
use Rattle.queries.specs.Matching.{MatchesCollection}

abbrev pub found_data : Found → Data
found_data (Value v) = v.now
found_data (Name n) = reference (lent_name n)

-- what stands at the paths of a document
abbrev pub standing_at : Candidate → List (List ℕ) → Option Data
standing_at c = standing c.root.now c.key.now c.fields.now

-- the document matches the query of a collection
abbrev pub IsMatch : CollectionTarget → Candidate → Type 0
IsMatch target c = MatchesCollection target c.root.now c.key.now c.fields.now
