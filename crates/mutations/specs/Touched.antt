-- The fields of a document that an update touches: those of the first names of its paths. Their names are kept as fields.
use Rattle.std.specs.Prelude.{◌≡◌, ◌≢◌, ℕ, List, ◌∷◌, None, IsSome}
use Rattle.std.specs.List.{All}
use Rattle.value_model.specs.Data.{Entries}
use Rattle.value_model.specs.Fields.{AreFields, field}
use Rattle.mutations.specs.declared.transform.Transform.{Transform}

-- there is a field of this name
abbrev pub HasName : Entries → List ℕ → Type 0
HasName fields name = IsSome (field fields name)

-- there is a field of each of these names
abbrev pub HasNames : Entries → Entries → Type 0
HasNames fields names = (name : List ℕ) → HasName names name → HasName fields name

-- the path's first name is one of these
abbrev pub IsTouched : Entries → List (List ℕ) → Type 0
IsTouched names path = (name : List ℕ) × (rest : List (List ℕ)) × (path ≡ name ∷ rest) × HasName names name

-- the first name of each transform's path is one of these
abbrev pub AreTouched : Entries → List Transform → Type 0
AreTouched names transforms = All (λ transform. IsTouched names transform.path) transforms

-- the same stands at these names
abbrev pub SameAt : Entries → Entries → Entries → Type 0
SameAt names fields others = (name : List ℕ) → HasName names name → field fields name ≡ field others name

-- the same stands at all other names
abbrev pub SameBeside : Entries → Entries → Entries → Type 0
SameBeside names fields others = (name : List ℕ) → ¬ (HasName names name) → field fields name ≡ field others name

-- the same stands at all names but one
abbrev pub SameBut : List ℕ → Entries → Entries → Type 0
SameBut name fields others = (other : List ℕ) → other ≢ name → field fields other ≡ field others other

-- each of these fields is one of the others
abbrev pub IsPartOf : Entries → Entries → Type 0
IsPartOf part fields = (name : List ℕ) → HasName part name → field part name ≡ field fields name

-- the fields have grown by those made, of which the old ones had none
pub record HasGrown (made old new : Entries) : Type 0 where
  pub lacked : (name : List ℕ) → HasName made name → field old name ≡ None
  pub others : SameBeside made new old

-- at these names a part has what the whole has; both have their fields in order
pub record StandsFor (names part whole : Entries) : Type 0 where
  pub same : SameAt names part whole
  pub part_fields : AreFields part
  pub whole_fields : AreFields whole

-- the whole that a part makes of the old fields: the part's at these names, the old ones at the others
pub record Completes (names part old whole : Entries) : Type 0 where
  pub stands : StandsFor names part whole
  pub beside : SameBeside names whole old
