-- Where the documents of a collection stand among all keys in their order.
use Rattle.std.specs.Prelude.{◌≡◌, ℕ, List, [], ◌∷◌, ◌++◌}

-- the path begins with the collection's, as those of its documents and of their subcollections' documents do
abbrev pub IsBelow : List (List ℕ) → List (List ℕ) → Type 0
IsBelow collection path = (rest : List (List ℕ)) × (path ≡ collection ++ rest)

-- the least key that a document of the collection can have: its id is the byte 0
abbrev pub least_in : List (List ℕ) → List (List ℕ)
least_in collection = collection ++ (0 ∷ []) ∷ []
