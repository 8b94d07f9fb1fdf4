-- what stands at paths, one name at a time
use Rattle.std.proofs.Common.{◌≡◌, ◌∙◌, ℕ, suc, ◌+◌, List, ◌∷◌, drop, Some, None, option_and_then, ap, add-one, drop-cons}
use Rattle.std.specs.List.{slice_get}
use Rattle.std.proofs.lemmas.Option.{slice_get_within, get_or_from_slice_get}
use Rattle.value_model.specs.Data.{Data, Entries, map_of}
use Rattle.value_model.specs.Fields.{field}
use Rattle.value_model.specs.Paths.{member_at, value_in}
use Rattle.value_model.proofs.Parts.{entries_members}

pub member_of_map : (d : Data) (es : Entries) (name : List ℕ) → d ≡ map_of es → member_at d name ≡ field es name
member_of_map d es name is = ap (λ d. member_at d name) is ∙ ap (λ es. field es name) (entries_members es)

-- the names from a place on begin with the name there
pub names_from : (path : List (List ℕ)) (i : ℕ) (name : List ℕ) → slice_get path i ≡ Some name → drop i path ≡ name ∷ drop (i + 1) path
names_from path i name is =
    let below = slice_get_within path i name is in
    let at = get_or_from_slice_get path i name name is in
    rw add-one (drop-cons path i name below ∙ ap (λ n. n ∷ drop (suc i) path) at)

-- one name further in, or nothing there
pub step_in : (d inner : Data) (path : List (List ℕ)) (i : ℕ) (name : List ℕ) → slice_get path i ≡ Some name → member_at d name ≡ Some inner → value_in d (drop i path) ≡ value_in inner (drop (i + 1) path)
step_in d inner path i name is there =
    ap (value_in d) (names_from path i name is) ∙ ap (option_and_then (λ x. value_in x (drop (i + 1) path))) there

pub none_in : (d : Data) (path : List (List ℕ)) (i : ℕ) (name : List ℕ) → slice_get path i ≡ Some name → member_at d name ≡ None → value_in d (drop i path) ≡ None
none_in d path i name is none =
    ap (value_in d) (names_from path i name is) ∙ ap (option_and_then (λ x. value_in x (drop (i + 1) path))) none
