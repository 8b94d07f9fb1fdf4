-- The elements of a transform of an array nest no deeper than its path leaves room for.
use Rattle.std.proofs.Common.{◌≡◌, ℕ, ◌-◌, ◌≤◌, List, [], ◌∷◌, length, Bool, true, codes, Option, Some, refl, sym, ap, subst, ◌∙◌, arith}
use Rattle.std.specs.Bool.{if◌then◌else◌}
use Rattle.std.specs.List.{All}
use Rattle.std.proofs.lemmas.List.Elements.{All-nil, All-cons}
use Rattle.document_keys.specs.Paths.{SpellsPath}
use Rattle.document_keys.proofs.Spelled.{spells_one}
use Rattle.serde_json.specs.Data.{Data as Json, string, Members}
use Rattle.value_model.specs.Data.{Data, items_of, items_depth}
use Rattle.value_model.specs.Storable.{AreStorableItems, IsCountable}
use Rattle.json_model.specs.declared.place.Place.TheVariants as place
use Rattle.json_model.specs.declared.place.Object.TheVariants as object
use Rattle.json_model.specs.declared.place.Series.TheVariants as series
use Rattle.json_model.specs.Clean.{AreClean}
use Rattle.json_model.specs.Faults.{FaultsAt, CountsPath, of_path, no_path, Takes, max_nesting}
use Rattle.json_model.specs.Grammar.{SpellsPathTree, SpellsList, no_list, a_list}
use Rattle.json_model.specs.Members.{given, chosen, refined, only_name, is_of_array}
use Rattle.json_model.specs.Origin.{Origin}
use Rattle.json_model.specs.Places.{placed, transform_rows, required}
use Rattle.json_model.proofs.Choices.{chosen_clean, only_is}
use Rattle.json_model.proofs.Deep.{values_deep}
use Rattle.json_model.proofs.Sound.{sound, member_clean, given_some}
use Rattle.json_model.proofs.Trees.{object_at}
use Rattle.mutations.specs.declared.transform.Change.{Change}
use Rattle.mutations.specs.declared.transform.Change.TheVariants.{ServerTime, Append, RemoveAll}
use Rattle.json_rpc.specs.Grammar.{SpellsElements, SpellsChange}
use Rattle.json_rpc.specs.Storable.{IsStorableWithin, AreStorableElements, IsStorableChange, HoldsStorable}
use Rattle.json_rpc.proofs.Names.{transform_place}

-- values that nest no deeper than the deepest
pub each_within : (limit : ℕ) (vs : List Data) → AreStorableItems (items_of vs) → items_depth (items_of vs) ≤ limit → All (IsStorableWithin limit) vs
each_within limit [] stored deep = All-nil (IsStorableWithin limit)
each_within limit (v ∷ vs) stored deep = All-cons (IsStorableWithin limit) v vs (record { storable = stored.0; deep = omega arith }) (each_within limit vs stored.1 (omega arith))

-- a path has as many names as are counted
names_counted : (path : List (List ℕ)) (d : Json) (count : ℕ) → SpellsPathTree d path → CountsPath (Some d) count → length path ≡ count
names_counted path d _ (text, (is, spelled)) (of_path other names at reads) =
    let trees : string text ≡ string other = sym is ∙ (let e : Some d ≡ Some (string other) = at in cc) in
    let texts : text ≡ other = cc in
    ap length (spells_one other path names (subst (λ (t : List ℕ). SpellsPath t path) texts spelled.spelled) reads)
names_counted path d _ (text, (is, spelled)) (no_path none) = absurd (none text path (ap (λ e. Some e) is) spelled.spelled)

under_values : (o : Origin) (limit : ℕ) (found : Option Json) (vs : List Data) → ((d : Json) → found ≡ Some d → FaultsAt o limit (place.Series series.Values) (codes "values") d []) → SpellsList found vs → items_depth (items_of vs) ≤ limit
under_values o limit _ _ inner no_list = omega arith
under_values o limit _ vs inner (a_list items d at spells) = values_deep o limit (codes "values") d vs (inner d refl) (a_list items d at spells)

-- the values under `values` of elements
elements_deep : (o : Origin) (limit : ℕ) (name : List ℕ) (d : Json) (vs : List Data) → FaultsAt o limit (place.Object object.Elements) name d [] → SpellsElements d vs → items_depth (items_of vs) ≤ limit
elements_deep o limit name d vs clean spelled =
    let here = subst (λ e. FaultsAt o limit (place.Object object.Elements) name e []) (object_at d spelled.members (sym spelled.is)) clean in
    let inside = sound o limit object.Elements name spelled.members here in
    let deep = under_values o (limit - inside.levels) (given (codes "values") spelled.members) vs (λ e is. let there = given_some _ e is in member_clean o (limit - inside.levels) object.Elements [] spelled.members (codes "values") e inside.inside there.0 there.1) spelled.spells in
    omega arith

-- at a path of so many names
array_storable : (o : Origin) (ms : Members) (name : List ℕ) (inner p : Json) (path : List (List ℕ)) (vs : List Data) → AreClean o object.Transform ms → given (codes "fieldPath") ms ≡ Some p → SpellsPathTree p path → chosen object.Transform ms ≡ (name, inner) ∷ []
    → is_of_array name ≡ true → placed transform_rows name ≡ place.Object object.Elements → SpellsElements inner vs → AreStorableItems (items_of vs) × IsCountable vs → AreStorableElements (length path) vs
array_storable o ms name inner p path vs (limit, own, room, clean) at reads only arrays stands elements stored =
    let inside = sound o limit object.Transform own ms clean in
    let is_array : is_of_array (only_name (chosen object.Transform ms)) ≡ true = ap is_of_array (only_is object.Transform ms name inner only) ∙ arrays in
    let kind : refined object.Transform ms ≡ object.ArrayTransform = ap (λ (b : Bool). if b then object.ArrayTransform else object.Transform) is_array in
    let takes : CountsPath (given (codes "fieldPath") ms) inside.levels = subst (λ k. Takes k ms inside.levels) kind inside.takes in
    let count = names_counted path p inside.levels reads (subst (λ found. CountsPath found inside.levels) at takes) in
    let there = chosen_clean o (limit - inside.levels) object.Transform ms (required (refined object.Transform ms)) ms name inner inside.inside only in
    let deep = elements_deep o (limit - inside.levels) name inner vs (subst (λ q. FaultsAt o (limit - inside.levels) q name inner []) (transform_place ms name ∙ stands) there) elements in
    let fits = inside.room in
    record { room = omega arith; each = record { count = stored.1; each = each_within (max_nesting - length path) vs stored.0 (omega arith) } }

pub change_storable : (o : Origin) (ms : Members) (name : List ℕ) (inner p : Json) (path : List (List ℕ)) (change : Change) → AreClean o object.Transform ms → Some p ≡ given (codes "fieldPath") ms → SpellsPathTree p path → chosen object.Transform ms ≡ (name, inner) ∷ []
    → SpellsChange name inner change → HoldsStorable change → IsStorableChange (length path) change
unfolding transform_rows
change_storable o ms name inner p path ServerTime clean at reads only spelled holds = tt
change_storable o ms name inner p path (Append vs) clean at reads only spelled holds =
    array_storable o ms name inner p path vs clean (sym at) reads only (ap is_of_array spelled.0) (ap (placed transform_rows) spelled.0) spelled.1 holds
change_storable o ms name inner p path (RemoveAll vs) clean at reads only spelled holds =
    array_storable o ms name inner p path vs clean (sym at) reads only (ap is_of_array spelled.0) (ap (placed transform_rows) spelled.0) spelled.1 holds
change_storable o ms name inner p path _ clean at reads only spelled holds = holds
