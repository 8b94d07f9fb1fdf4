-- What is built in one pass over a tree.
use Rattle.std.specs.Prelude.{Option, Result, IfOk, IfSome}

-- where something is built, the fact holds of it; where nothing is, nothing is said
abbrev pub IfBuilt : {X E : Type 0} → Result (Option X) E → (X → Type 0) → Type 0
IfBuilt result Fact = IfOk result (λ found. IfSome found Fact)
