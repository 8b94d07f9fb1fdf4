-- What is printed of the parts of a write is of the form, and spells them.
use Rattle.std.proofs.Common.{◌≡◌, ℕ, ℤ, ◌-◌, ◌≤◌, List, [], ◌∷◌, length, false, codes, Option, Some, None, IfSome, option_map, refl, sym, ap, subst, inl, inr, arith}
use Rattle.std.specs.Fmt.{signed_decimal}
use Rattle.std.specs.Int.{w64}
use Rattle.std.specs.Prelude.{FitsSigned}
use Rattle.std.specs.List.{All}
use Rattle.std.proofs.lemmas.List.Elements.{All-head, All-tail, All-weaker}
use Rattle.document_keys.specs.Paths.{printed_path}
use Rattle.document_keys.proofs.Fields.{printed_spells}
use Rattle.serde_json.specs.Data.{Data as Json, boolean, string, array, object as an_object, Items, no_items, item, Members, no_members, member}
use Rattle.value_model.specs.Data.{Data, integer, items_of, items_depth}
use Rattle.value_model.specs.Storable.{IsStorable, AreStorableItems}
use Rattle.value_model.specs.Time.{time_text}
use Rattle.value_model.proofs.ReadBack.{time_read}
use Rattle.json_model.specs.declared.place.Place.{Place}
use Rattle.json_model.specs.declared.place.Place.TheVariants as place
use Rattle.json_model.specs.declared.place.Object.{Object}
use Rattle.json_model.specs.declared.place.Object.TheVariants as object
use Rattle.json_model.specs.declared.place.Series.{Series}
use Rattle.json_model.specs.declared.place.Series.TheVariants as series
use Rattle.json_model.specs.declared.place.Leaf.TheVariants as leaf
use Rattle.json_model.specs.Faults.{of_path, max_nesting}
use Rattle.json_model.specs.Fits.{Fits, FitsName, ItemsFit, MembersFit}
use Rattle.json_model.specs.Forms.{Each, no_more, one_more, SpellsEach, before, unless_empty, printed_each, present}
use Rattle.json_model.specs.Grammar.{SpellsPathTree, SpellsItems, no_list, a_list}
use Rattle.json_model.specs.Leaves.{SpellsFieldPath}
use Rattle.json_model.specs.Members.{is_null, given, chosen, lacks_only}
use Rattle.json_model.specs.Numbers.{SpellsWhole, as_text as by_text}
use Rattle.json_model.specs.Origin.{Origin}
use Rattle.json_model.specs.Places.{member_place, item_place, condition_rows, operand_rows, value_rows, transform_rows, mask_rows}
use Rattle.json_model.specs.Printed.{printed_value, printed_items}
use Rattle.json_model.specs.Storable.{IsStorablePath}
use Rattle.value_model.proofs.Parts.{list_items, items_storable}
use Rattle.json_model.proofs.Fitting.{object_fits, flat_object_fits}
use Rattle.json_model.proofs.ReadBack.{items_fit, items_spelled}
use Rattle.json_model.proofs.Sound.{not_out}
use Rattle.mutations.specs.declared.transform.Change.{Change}
use Rattle.mutations.specs.declared.transform.Change.TheVariants.{ServerTime, Increment, Maximum, Minimum, Append, RemoveAll}
use Rattle.mutations.specs.declared.transform.Transform.{Transform}
use Rattle.mutations.specs.declared.write.Precondition.{Precondition}
use Rattle.mutations.specs.declared.write.Precondition.TheVariants.{Free, Exists, UpdateTime}
use Rattle.json_rpc.specs.Grammar.{SpellsCondition, SpellsOperand, SpellsElements, SpellsChange, SpellsTransform, SpellsMask, SpellsMaskIn}
use Rattle.json_rpc.specs.Printed.{printed_condition, printed_elements, printed_change, printed_transform, path_tree, printed_mask}
use Rattle.json_rpc.specs.Storable.{AreAllStorable, IsStorableCondition, IsStorableWithin, IsStorableChange, IsStorableTransform}

-- ---- members and lists

-- a member that may be left out is of the form
abbrev pub FitsFound : Origin → ℕ → Place → Option Json → Type 0
FitsFound o limit p None = Unit {0}
FitsFound o limit p (Some d) = (is_null d ≡ false) × Fits o limit p d

pub row_fits : (o : Origin) (limit : ℕ) (kind : Object) (name : List ℕ) (found : Option Json) (ms : Members) → FitsName kind name → FitsFound o limit (member_place kind name) found → MembersFit o limit kind [] ms → MembersFit o limit kind [] (before name found ms)
unfolding Fits
row_fits o limit kind name None ms named fits rest = rest
row_fits o limit kind name (Some d) ms named fits rest = (refl, inr (not_out (member_place kind name) d fits.0, (named, fits.1)), rest)

each_fits : {X : Type 0} (o : Origin) (limit : ℕ) (p : Place) (print : X → Json) (Fact : X → Type 0) → ((x : X) → Fact x → Fits o limit p (print x)) → (kind : Series) → item_place kind ≡ p → (xs : List X) → All Fact xs → ItemsFit o limit kind (printed_each print xs)
unfolding Fits
each_fits o limit p print Fact fits kind at [] all = tt
each_fits o limit p print Fact fits kind at (x ∷ xs) all = (subst (λ q. Fits o limit q (print x)) (sym at) (fits x (All-head Fact x xs all)), each_fits o limit p print Fact fits kind at xs (All-tail Fact x xs all))

each_spelled : {X : Type 0} (print : X → Json) (Spells : Json → X → Type 0) (Fact : X → Type 0) → ((x : X) → Fact x → Spells (print x) x) → (xs : List X) → All Fact xs → Each Spells (printed_each print xs) xs
each_spelled print Spells Fact spells [] all = no_more
each_spelled print Spells Fact spells (x ∷ xs) all = one_more (spells x (All-head Fact x xs all)) (each_spelled print Spells Fact spells xs (All-tail Fact x xs all))

pub list_spelled : {X : Type 0} (print : X → Json) (Spells : Json → X → Type 0) (Fact : X → Type 0) → ((x : X) → Fact x → Spells (print x) x) → (xs : List X) → All Fact xs → SpellsEach Spells (unless_empty (printed_each print xs)) xs
list_spelled print Spells Fact spells [] all = refl
list_spelled print Spells Fact spells (x ∷ xs) all = (printed_each print (x ∷ xs), refl, each_spelled print Spells Fact spells (x ∷ xs) all)

-- a list, unless it is empty
list_fits : (o : Origin) (limit : ℕ) (kind : Series) (ds : Items) → lacks_only kind ds ≡ false → ItemsFit o limit kind ds → FitsFound o limit (place.Series kind) (unless_empty ds)
unfolding Fits
list_fits o limit kind no_items only fits = tt
list_fits o limit kind (item d ds) only fits = (refl, (only, fits))

-- the rows of an object that requires none
abbrev pub RowsFit : Origin → ℕ → Object → List (List ℕ × Option Json) → Type 0
RowsFit o limit kind [] = Unit {0}
RowsFit o limit kind (row ∷ rows) = FitsName kind row.0 × FitsFound o limit (member_place kind row.0) row.1 × RowsFit o limit kind rows

pub rows_fit : (o : Origin) (limit : ℕ) (kind : Object) (rows : List (List ℕ × Option Json)) → RowsFit o limit kind rows → MembersFit o limit kind [] (present rows)
unfolding Fits
rows_fit o limit kind [] all = refl
rows_fit o limit kind (row ∷ rows) all = row_fits o limit kind row.0 row.1 (present rows) all.0 all.1 (rows_fit o limit kind rows all.2)

-- ---- preconditions

pub condition_fits : (o : Origin) (condition : Precondition) → IsStorableCondition condition → FitsFound o max_nesting (place.Object object.Condition) (printed_condition condition)
unfolding Fits condition_rows
condition_fits o Free stored = tt
condition_fits o (Exists is) stored = (refl, flat_object_fits o max_nesting object.Condition _ refl refl refl (refl, inr (refl, (tt, (is, refl))), refl))
condition_fits o (UpdateTime time) stored =
    (refl, flat_object_fits o max_nesting object.Condition _ refl refl refl (refl, inr (refl, (tt, (time_text time, (refl, (time, time_read time stored))))), refl))

pub condition_spelled : (condition : Precondition) → IsStorableCondition condition → SpellsCondition (printed_condition condition) condition
unfolding condition_rows
condition_spelled Free stored = refl
condition_spelled (Exists is) stored = record { members = member (codes "exists") (boolean is) no_members; is = refl; name = codes "exists"; inner = boolean is; only = refl; spells = (refl, refl) }
condition_spelled (UpdateTime time) stored = record { members = member (codes "updateTime") (string (time_text time)) no_members; is = refl; name = codes "updateTime"; inner = string (time_text time); only = refl; spells = (refl, (time_text time, (refl, time_read time stored))) }

-- ---- paths and masks

path_read : (path : List (List ℕ)) → IsStorablePath path → SpellsFieldPath (printed_path path) path
path_read path stored = record { spelled = printed_spells path stored.some; fields = stored.names; few = stored.few }

path_fits : (o : Origin) (limit : ℕ) (path : List (List ℕ)) → IsStorablePath path → Fits o limit (place.Leaf leaf.Path) (path_tree path)
unfolding Fits
path_fits o limit path stored = (printed_path path, (refl, (path, path_read path stored)))

path_spelled : (path : List (List ℕ)) → IsStorablePath path → SpellsPathTree (path_tree path) path
path_spelled path stored = (printed_path path, (refl, path_read path stored))

mask_tree_fits : (o : Origin) (mask : List (List (List ℕ))) → All IsStorablePath mask → Fits o max_nesting (place.Object object.Mask) (printed_mask mask)
unfolding mask_rows
mask_tree_fits o mask all =
    let paths = each_fits o max_nesting (place.Leaf leaf.Path) path_tree IsStorablePath (path_fits o max_nesting) series.Paths refl mask all in
    flat_object_fits o max_nesting object.Mask _ refl refl refl
    (rows_fit o max_nesting object.Mask ((codes "fieldPaths", unless_empty (printed_each path_tree mask)) ∷ []) (tt, list_fits o max_nesting series.Paths (printed_each path_tree mask) refl paths, tt))

mask_tree_spelled : (mask : List (List (List ℕ))) → All IsStorablePath mask → SpellsMask (printed_mask mask) mask
mask_tree_spelled [] all = record { members = no_members; is = refl; spells = refl }
mask_tree_spelled (path ∷ mask) all = record { members = member (codes "fieldPaths") (array (printed_each path_tree (path ∷ mask))) no_members; is = refl; spells = list_spelled path_tree SpellsPathTree IsStorablePath path_spelled (path ∷ mask) all }

-- ---- values

same_items : (vs : List Data) → printed_items (items_of vs) ≡ printed_each printed_value vs
same_items [] = refl
same_items (v ∷ vs) = ap (λ ds. item (printed_value v) ds) (same_items vs)

all_stored : (limit : ℕ) (vs : List Data) → All (IsStorableWithin limit) vs → AreStorableItems (items_of vs)
all_stored limit vs all = items_storable vs (All-weaker (IsStorableWithin limit) IsStorable (λ v is. is.storable) vs all)

all_deep : (limit : ℕ) (vs : List Data) → All (IsStorableWithin limit) vs → items_depth (items_of vs) ≤ limit
all_deep limit [] all = omega arith
all_deep limit (v ∷ vs) all = let one = (All-head (IsStorableWithin limit) v vs all).deep in let more = all_deep limit vs (All-tail (IsStorableWithin limit) v vs all) in omega arith

values_fit : (o : Origin) (limit : ℕ) (vs : List Data) → All (IsStorableWithin limit) vs → ItemsFit o limit series.Values (printed_each printed_value vs)
values_fit o limit vs all = subst (ItemsFit o limit series.Values) (same_items vs) (items_fit time_read o limit (items_of vs) (all_stored limit vs all) (all_deep limit vs all))

values_spelled : (limit : ℕ) (vs : List Data) → All (IsStorableWithin limit) vs → SpellsItems (printed_each printed_value vs) vs
values_spelled limit vs all =
    subst (λ ds. SpellsItems ds vs) (same_items vs) (subst (SpellsItems (printed_items (items_of vs))) (list_items vs) (items_spelled time_read (items_of vs) (all_stored limit vs all)))

-- ---- transforms

elements_fit : (o : Origin) (limit : ℕ) (vs : List Data) → All (IsStorableWithin limit) vs → Fits o limit (place.Object object.Elements) (printed_elements vs)
elements_fit o limit vs all =
    flat_object_fits o limit object.Elements _ refl refl refl
    (rows_fit o limit object.Elements ((codes "values", unless_empty (printed_each printed_value vs)) ∷ [])
    (tt, list_fits o limit series.Values (printed_each printed_value vs) refl (values_fit o limit vs all), tt))

elements_spelled : (limit : ℕ) (vs : List Data) → All (IsStorableWithin limit) vs → SpellsElements (printed_elements vs) vs
elements_spelled limit [] all = record { members = no_members; is = refl; spells = no_list }
elements_spelled limit (v ∷ vs) all = record { members = member (codes "values") (array (printed_each printed_value (v ∷ vs))) no_members; is = refl; spells = a_list (printed_each printed_value (v ∷ vs)) _ refl (values_spelled limit (v ∷ vs) all) }

whole : (z : ℤ) → FitsSigned w64 z → SpellsWhole (string (signed_decimal z)) z
whole z fits = by_text (signed_decimal z) refl (record { fits = fits; is = inl refl })

operand_fits : (o : Origin) (z : ℤ) → FitsSigned w64 z → Fits o max_nesting (place.Object object.Operand) (printed_value (integer z))
unfolding Fits operand_rows value_rows
operand_fits o z fits = flat_object_fits o max_nesting object.Operand _ refl refl refl (refl, inr (refl, (tt, (z, whole z fits))), refl)

operand_spelled : (z : ℤ) → FitsSigned w64 z → SpellsOperand (printed_value (integer z)) z
unfolding operand_rows value_rows
operand_spelled z fits = record { members = member (codes "integerValue") (string (signed_decimal z)) no_members; is = refl; name = codes "integerValue"; inner = string (signed_decimal z); only = refl; spells = (refl, whole z fits) }

change_fits : (o : Origin) (path : List (List ℕ)) (change : Change) → IsStorablePath path → IsStorableChange (length path) change → Fits o max_nesting (place.Object object.Transform) (printed_change (printed_path path) change)
unfolding Fits transform_rows
change_fits o path ServerTime stored holds =
    flat_object_fits o max_nesting object.Transform _ refl refl refl (refl, inr (refl, (tt, path_fits o max_nesting path stored)), (refl, inr (refl, (tt, refl)), refl))
change_fits o path (Increment by) stored holds =
    flat_object_fits o max_nesting object.Transform _ refl refl refl (refl, inr (refl, (tt, path_fits o max_nesting path stored)), (refl, inr (refl, (tt, operand_fits o by holds)), refl))
change_fits o path (Maximum other) stored holds =
    flat_object_fits o max_nesting object.Transform _ refl refl refl (refl, inr (refl, (tt, path_fits o max_nesting path stored)), (refl, inr (refl, (tt, operand_fits o other holds)), refl))
change_fits o path (Minimum other) stored holds =
    flat_object_fits o max_nesting object.Transform _ refl refl refl (refl, inr (refl, (tt, path_fits o max_nesting path stored)), (refl, inr (refl, (tt, operand_fits o other holds)), refl))
change_fits o path (Append vs) stored holds =
    object_fits o max_nesting object.Transform _ (length path) refl refl (of_path (printed_path path) path refl (printed_spells path stored.some)) holds.room
    (refl, inr (refl, (tt, elements_fit o (max_nesting - length path) vs holds.each.each)), (refl, inr (refl, (tt, path_fits o (max_nesting - length path) path stored)), refl))
change_fits o path (RemoveAll vs) stored holds =
    object_fits o max_nesting object.Transform _ (length path) refl refl (of_path (printed_path path) path refl (printed_spells path stored.some)) holds.room
    (refl, inr (refl, (tt, path_fits o (max_nesting - length path) path stored)), (refl, inr (refl, (tt, elements_fit o (max_nesting - length path) vs holds.each.each)), refl))

-- a transform whose members hold the path, and this change alone
spelled_by : (path : List (List ℕ)) (ms : Members) (name : List ℕ) (inner : Json) (change : Change) → IsStorablePath path
    → given (codes "fieldPath") ms ≡ Some (path_tree path) → chosen object.Transform ms ≡ (name, inner) ∷ [] → SpellsChange name inner change
    → SpellsTransform (an_object ms) (record { path = path; change = change })
spelled_by path ms name inner change stored at only spelled =
    record { members = ms; is = refl; name = name; inner = inner; only = only; spells = record { path = record { tree = path_tree path; is = at; spells = path_spelled path stored }; change = spelled } }

change_spelled : (path : List (List ℕ)) (change : Change) → IsStorablePath path → IsStorableChange (length path) change → SpellsTransform (printed_change (printed_path path) change) (record { path = path; change = change })
unfolding transform_rows
change_spelled path ServerTime stored holds = spelled_by path _ (codes "setToServerValue") _ _ stored refl refl refl
change_spelled path (Increment by) stored holds = spelled_by path _ (codes "increment") _ _ stored refl refl (refl, operand_spelled by holds)
change_spelled path (Maximum other) stored holds = spelled_by path _ (codes "maximum") _ _ stored refl refl (refl, operand_spelled other holds)
change_spelled path (Minimum other) stored holds = spelled_by path _ (codes "minimum") _ _ stored refl refl (refl, operand_spelled other holds)
change_spelled path (Append vs) stored holds = spelled_by path _ (codes "appendMissingElements") _ _ stored refl refl (refl, elements_spelled (max_nesting - length path) vs holds.each.each)
change_spelled path (RemoveAll vs) stored holds = spelled_by path _ (codes "removeAllFromArray") _ _ stored refl refl (refl, elements_spelled (max_nesting - length path) vs holds.each.each)

transform_fits : (o : Origin) (transform : Transform) → IsStorableTransform transform → Fits o max_nesting (place.Object object.Transform) (printed_transform transform)
transform_fits o transform stored = change_fits o transform.path transform.change stored.path stored.change

pub transform_spelled : (transform : Transform) → IsStorableTransform transform → SpellsTransform (printed_transform transform) transform
transform_spelled transform stored = change_spelled transform.path transform.change stored.path stored.change

pub transforms_fit : (o : Origin) (transforms : List Transform) → All IsStorableTransform transforms → FitsFound o max_nesting (place.Series series.Transforms) (unless_empty (printed_each printed_transform transforms))
unfolding Fits
transforms_fit o transforms all =
    list_fits o max_nesting series.Transforms (printed_each printed_transform transforms) refl
    (each_fits o max_nesting (place.Object object.Transform) printed_transform IsStorableTransform (transform_fits o) series.Transforms refl transforms all)

-- ---- masks that may be left out

pub mask_fits : (o : Origin) (mask : Option (List (List (List ℕ)))) → IfSome mask (AreAllStorable IsStorablePath) → FitsFound o max_nesting (place.Object object.Mask) (option_map printed_mask mask)
mask_fits o None stored = tt
mask_fits o (Some mask) stored = (refl, mask_tree_fits o mask stored.each)

pub mask_spelled : (mask : Option (List (List (List ℕ)))) → IfSome mask (AreAllStorable IsStorablePath) → SpellsMaskIn (option_map printed_mask mask) mask
mask_spelled None stored = refl
mask_spelled (Some mask) stored = mask_tree_spelled mask stored.each
