-- JSON objects with one to five members.
use Rattle.std.specs.Prelude.{ℕ, List}
use Rattle.serde_json.specs.Data.{Data, object, no_members, member}

-- an object with this member alone
abbrev pub one : List ℕ → Data → Data
one name d = object (member name d no_members)

-- an object with these two members alone, and so on
abbrev pub two : List ℕ → Data → List ℕ → Data → Data
two first d second e = object (member first d (member second e no_members))

abbrev pub three : List ℕ → Data → List ℕ → Data → List ℕ → Data → Data
three a x b y c z = object (member a x (member b y (member c z no_members)))

abbrev pub four : List ℕ → Data → List ℕ → Data → List ℕ → Data
    → List ℕ → Data → Data
four a x b y c z d w = object (member a x (member b y (member c z (member d w no_members))))

abbrev pub five : List ℕ → Data → List ℕ → Data → List ℕ → Data → List ℕ → Data
    → List ℕ → Data → Data
five a x b y c z d w e v =
    object (member a x (member b y (member c z (member d w (member e v no_members)))))
