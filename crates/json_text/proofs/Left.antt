-- Lists and maps: what is put where there is nothing in them, and where there is.
use Rattle.std.proofs.Common.{◌≡◌, ◌∙◌, ◌==◌, true, false, List, [], ◌∷◌, length, codes, refl, sym, ap}
use Rattle.std.proofs.lemmas.Bool.{eqb-true}
use Rattle.serde_json.specs.Data as json
use Rattle.value_model.specs.Data.{Data, Entries, items_of, members_of}
use Rattle.json_model.specs.Printed.{printed_items, printed_members, values_tree, fields_tree}
use Rattle.json_model.specs.Trees.{one, empty}

no_values : (ds : List Data) → length ds ≡ 0 → values_tree (printed_items (items_of ds)) ≡ empty
no_values [] none = refl
no_values (d ∷ ds) none = cc

some_values : (ds : List Data) → (length ds ≡ 0 → ⊥) → values_tree (printed_items (items_of ds)) ≡ one (codes "values") (json.array (printed_items (items_of ds)))
some_values [] some = absurd (some refl)
some_values (d ∷ ds) some = refl

pub no_fields : (es : Entries) → length es ≡ 0 → fields_tree (printed_members (members_of es)) ≡ empty
no_fields [] none = refl
no_fields (e ∷ es) none = cc

pub some_fields : (es : Entries) → (length es ≡ 0 → ⊥) → fields_tree (printed_members (members_of es)) ≡ one (codes "fields") (json.object (printed_members (members_of es)))
some_fields [] some = absurd (some refl)
some_fields (e ∷ es) some = refl

-- by the test of a list that was lent
pub is_empty : (ds : List Data) → true ≡ (length ds == 0) → values_tree (printed_items (items_of ds)) ≡ empty
is_empty ds none = no_values ds (eqb-true (length ds) 0 (sym none))

pub is_some : (ds : List Data) → false ≡ (length ds == 0) → values_tree (printed_items (items_of ds)) ≡ one (codes "values") (json.array (printed_items (items_of ds)))
is_some ds some = some_values ds (λ none. let e : false ≡ true = some ∙ ap (λ m. m == 0) none in cc)
