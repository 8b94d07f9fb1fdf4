-- What may be the result of a write (WriteResult).
use Rattle.std.specs.Prelude.{◌≡◌, List, [], ◌∷◌}
use Rattle.value_model.specs.Data.{Data, array, map}
use Rattle.mutations.specs.declared.results.WriteResult.{WriteResult}
use Rattle.mutations.specs.declared.transform.Change.{Change}
use Rattle.mutations.specs.declared.transform.Change.TheVariants.{Append, RemoveAll}
use Rattle.mutations.specs.declared.transform.Transform.{Transform}
use Rattle.mutations.specs.declared.write.Write.{Write}
use Rattle.mutations.specs.declared.write.Write.TheVariants.{Update, Delete}

-- the value is no array and no map
abbrev pub IsScalar : Data → Type 0
IsScalar (array _) = ⊥
IsScalar (map _) = ⊥
IsScalar _ = Unit {0}

-- a value that may be the result of the change: what an array's is says nothing, any other one's is a scalar
abbrev pub IsResultOf : Change → Data → Type 0
IsResultOf (Append values) result = Unit {0}
IsResultOf (RemoveAll values) result = Unit {0}
IsResultOf _ result = IsScalar result

-- one of the others for each, that fits it
abbrev pub FitsEach : {X Y : Type 0} → (X → Y → Type 0) → List X → List Y → Type 0
FitsEach Fits [] [] = Unit {0}
FitsEach Fits (x ∷ xs) (y ∷ ys) = Fits x y × FitsEach Fits xs ys
FitsEach Fits _ _ = ⊥

-- one result for each transform
abbrev pub FitsTransforms : List Transform → List Data → Type 0
FitsTransforms = FitsEach (λ transform result. IsResultOf transform.change result)

-- the result of a write; a delete has no transforms
abbrev pub FitsWrite : Write → WriteResult → Type 0
FitsWrite (Update key fields mask transforms condition) result = FitsTransforms transforms result.transforms
FitsWrite (Delete key condition) result = result.transforms ≡ []

-- one result for each write
abbrev pub FitsWrites : List Write → List WriteResult → Type 0
FitsWrites = FitsEach FitsWrite
