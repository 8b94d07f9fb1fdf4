-- Which document a write speaks of.
use Rattle.std.specs.Prelude.{ℕ, List}
use Rattle.mutations.specs.declared.write.Write.{Write}
use Rattle.mutations.specs.declared.write.Write.TheVariants.{Update, Delete}

-- the key of the document that a write speaks of
abbrev pub written_key : Write → List (List ℕ)
written_key (Update key fields mask transforms condition) = key
written_key (Delete key condition) = key
