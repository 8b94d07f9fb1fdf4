-- Lists and members that are printed one after another.
use Rattle.std.proofs.Common.{Some, String, Vec, vec_len, BTreeMap, Result, Ok, Err, IfOk, codes, zero, suc, length, ◌≤◌, sym, ◌≡◌, ℕ, ◌+◌, ◌<◌, List, [], ◌∷◌, ◌++◌, true, false, take, get_or, refl, ap, subst, ◌∙◌, arith, add-one}
use Rattle.std.specs.List.{AllPairs}
use Rattle.std.specs.Map.{keys_of}
use Rattle.std.specs.String.{string_bytes, string_cmp}
use Rattle.std.specs.BTreeMap.{insert_entry}
use Rattle.std.specs.declared.alloc.Global.{Global}
use Rattle.serde_json.specs.View.{view, items_view, members_view}
use Rattle.std.specs.Bool.{◌==◌}
use Rattle.serde_json.specs.declared.value.Value.{Value as Json, Array, Object}
use Rattle.serde_json.proofs.Views.{members_view-insert_entry, view-Array, view-Object}
use Rattle.serde_json.specs.Data as json
use Rattle.document_keys.specs.Order.{TextBefore}
use Rattle.value_model.specs.declared.fields.Field.{Field}
use Rattle.value_model.specs.Data.{Data, Entries, items_of, members_of}
use Rattle.value_model.specs.Codes.{data_size, entries_size}
use Rattle.value_model.specs.Named.{fields_data}
use Rattle.value_model.proofs.Named.{names_count, name_at}
use Rattle.value_model.proofs.Places.{compared_below}
use Rattle.value_model.proofs.Sizes.{field_below as below_all}
use Rattle.json_model.specs.Forms.{unless_empty}
use Rattle.json_model.specs.Trees.{one}
use Rattle.json_model.specs.Printed.{printed_value, printed_items, printed_members, values_tree, fields_tree}

items_at : (old : List Json) (tree : Json) (ds : List Data) (i : ℕ) (d : Data) → i < length ds → d ≡ get_or ds i d → view tree ≡ printed_value d
    → items_view old ≡ printed_items (items_of (take i ds)) → items_view (old ++ tree ∷ []) ≡ printed_items (items_of (take (suc i) ds))
items_at old tree [] i d below is one so_far = absurd (omega arith)
items_at [] tree (e ∷ ds) zero d below is one so_far = ap (λ x. json.item x json.no_items) (one ∙ ap printed_value is)
items_at (t ∷ old) tree (e ∷ ds) zero d below is one so_far = cc
items_at [] tree (e ∷ ds) (suc i) d below is one so_far = cc
items_at (t ∷ old) tree (e ∷ ds) (suc i) d below is one so_far =
    let head : view t ≡ printed_value e = cc in
    let tail : items_view old ≡ printed_items (items_of (take i ds)) = cc in
    let more = items_at old tree ds i d (omega arith) is one tail in
    λ j. json.item (head j) (more j)

-- one item more
pub items_more : (old new : List Json) (tree : Json) (ds : List Data) (i : ℕ) (d : Data) → i < length ds → d ≡ get_or ds i d → new ≡ old ++ tree ∷ [] → view tree ≡ printed_value d
    → items_view old ≡ printed_items (items_of (take i ds)) → items_view new ≡ printed_items (items_of (take (i + 1) ds))
items_more old new tree ds i d below is pushed one so_far = rw (pushed, add-one) (items_at old tree ds i d below is one so_far)

members_at : (fields : List Field) (i : ℕ) (field : Field) (tree : json.Data) → AllPairs TextBefore (keys_of (fields_data fields)) → i < length fields → field ≡ get_or fields i field → tree ≡ printed_value field.value
    → json.put field.name tree (printed_members (members_of (fields_data (take i fields)))) ≡ printed_members (members_of (fields_data (take (suc i) fields)))
members_at [] i field tree pairs below is one = absurd (omega arith)
members_at (f ∷ fields) zero field tree pairs below is one =
    ap (λ d. json.member field.name d json.no_members) one ∙ ap (λ (x : Field). json.member x.name (printed_value x.value) json.no_members) is
members_at (f ∷ fields) (suc i) field tree pairs below is one =
    let long = names_count fields in
    let before = pairs 0 (suc i) field.name (omega arith) (omega arith) in
    let greater = compared_below f.name field.name (subst (λ k. TextBefore f.name k) (name_at fields i field field.name (omega arith) ∙ ap (λ (x : Field). x.name) (sym is)) before) in
    let rest = members_at fields i field tree (λ j k d less within. pairs (suc j) (suc k) d (omega arith) (omega arith)) (omega arith) is one in
    rw greater (ap (λ ms. json.member f.name (printed_value f.value) ms) rest)

-- one member more
pub members_more : (old new : List (String Global × Json)) (name : String Global) (tree : Json) (fields : List Field) (i : ℕ) (field : Field)
    → AllPairs TextBefore (keys_of (fields_data fields)) → i < length fields → field ≡ get_or fields i field → string_bytes name ≡ field.name → view tree ≡ printed_value field.value
    → new ≡ insert_entry string_cmp old name tree
    → members_view old ≡ printed_members (members_of (fields_data (take i fields))) → members_view new ≡ printed_members (members_of (fields_data (take (i + 1) fields)))
members_more old new name tree fields i field pairs below is names one inserted so_far =
    ap members_view inserted ∙ members_view-insert_entry old name tree ∙ (λ j. json.put (names j) (view tree) (so_far j))
    ∙ rw add-one (members_at fields i field (view tree) pairs below is one)

-- a field's value is smaller than the fields
pub field_below : (fields : List Field) (i : ℕ) (field : Field) (es : Entries) → i < length fields → field ≡ get_or fields i field → fields_data fields ≡ es → data_size field.value + 1 ≤ entries_size es
field_below fields i field es below is shown =
    let one = below_all fields i field below in
    let size = ap (λ (x : Field). data_size x.value) is in
    let whole = ap entries_size shown in
    omega arith

-- lists and objects that aren't empty
pub values_shown : (trees : List Json) → (length trees ≡ 0 → ⊥) → values_tree (items_view trees) ≡ one (codes "values") (json.array (items_view trees))
values_shown [] some = absurd (some refl)
values_shown (t ∷ trees) some = refl

pub fields_shown : (es : List (String Global × Json)) → (length es ≡ 0 → ⊥) → fields_tree (members_view es) ≡ one (codes "fields") (json.object (members_view es))
fields_shown [] some = absurd (some refl)
fields_shown (e ∷ es) some = refl

-- a length that was found not to be 0
pub not_zero : (n : ℕ) → false ≡ (n == 0) → n ≡ 0 → ⊥
not_zero n found none = let e : false ≡ true = found ∙ ap (λ m. m == 0) none in cc

-- a tree that is returned, by an equal one
pub ok_along : {E : Type 0} (r : Result Json E) (d e : json.Data) → d ≡ e → IfOk r (λ j. view j ≡ d) → IfOk r (λ j. view j ≡ e)
ok_along (Ok j) d e same is = is ∙ same
ok_along (Err x) d e same is = is

pub full_array : {E : Type 0} (r : Result Json E) (v : Vec Json Global) → false ≡ (vec_len v == 0) → IfOk r (λ j. view j ≡ one (codes "arrayValue") (one (codes "values") (view (Array v))))
    → IfOk r (λ j. view j ≡ one (codes "arrayValue") (values_tree (items_view v.items)))
full_array r v some = ok_along r _ _ (ap (λ d. one (codes "arrayValue") d) (ap (λ d. one (codes "values") d) (view-Array v) ∙ sym (values_shown v.items (λ none. not_zero (vec_len v) some (v.ok.0 ∙ none)))))

pub full_map : {E : Type 0} (r : Result Json E) (m : BTreeMap (String Global) Json) → (length m.entries ≡ 0 → ⊥) → IfOk r (λ j. view j ≡ one (codes "mapValue") (one (codes "fields") (view (Object m))))
    → IfOk r (λ j. view j ≡ one (codes "mapValue") (fields_tree (members_view m.entries)))
full_map r m some = ok_along r _ _ (ap (λ d. one (codes "mapValue") d) (ap (λ d. one (codes "fields") d) (view-Object m) ∙ sym (fields_shown m.entries some)))

-- a list that isn't empty
some_items : (trees : List Json) → (length trees ≡ 0 → ⊥) → Some (json.array (items_view trees)) ≡ unless_empty (items_view trees)
some_items [] some = absurd (some refl)
some_items (t ∷ trees) some = refl

pub list_shown : (v : Vec Json Global) → false ≡ (vec_len v == 0) → Some (view (Array v)) ≡ unless_empty (items_view v.items)
list_shown v some = ap (λ d. Some d) (view-Array v) ∙ some_items v.items (λ none. not_zero (vec_len v) some (v.ok.0 ∙ none))
