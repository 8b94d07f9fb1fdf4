-- Members of which some are left out: the numbers in their trees are as JSON writes them.
use Rattle.std.proofs.Common.{List, [], ◌∷◌, ℕ, Option, Some, None}
use Rattle.json.specs.Tree.{HasNumbers, MembersHaveNumbers}
use Rattle.serde_json.specs.Data as json
use Rattle.serde_json.specs.Written.{outline, members_outline}
use Rattle.json_model.specs.Forms.{before, present}

-- what is there has such numbers
abbrev pub IsNumbered : Option json.Data → Type 0
IsNumbered None = Unit {0}
IsNumbered (Some d) = HasNumbers (outline d)

abbrev pub AreNumbered : List (List ℕ × Option json.Data) → Type 0
AreNumbered [] = Unit {0}
AreNumbered (row ∷ rows) = IsNumbered row.1 × AreNumbered rows

row_numbers : (name : List ℕ) (found : Option json.Data) (ms : json.Members) → IsNumbered found → MembersHaveNumbers (members_outline ms) → MembersHaveNumbers (members_outline (before name found ms))
row_numbers name None ms first rest = rest
row_numbers name (Some d) ms first rest = (first, rest)

pub rows_numbers : (rows : List (List ℕ × Option json.Data)) → AreNumbered rows → MembersHaveNumbers (members_outline (present rows))
rows_numbers [] all = tt
rows_numbers (row ∷ rows) all = row_numbers row.0 row.1 (present rows) all.0 (rows_numbers rows all.1)
