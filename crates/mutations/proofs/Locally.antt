-- the functions of an effect give what its relations say
use Rattle.std.proofs.Common.{◌≡◌, ◌∙◌, ◌||◌, not, inl, inr, ℕ, ◌+◌, ◌<◌, ◌≤◌, Bool, true, false, cond, Option, Some, None, List, [], ◌∷◌, ◌++◌, length, get_or, fold, drop, refl, sym, ap, subst}
use Rattle.std.proofs.lemmas.List.{drop_all}
use Rattle.std.specs.List.{Contains}
use Rattle.value_model.specs.Changes.{with_value_at, without_value_at}
use Rattle.value_model.specs.Data.{Data, Entries, array_of}
use Rattle.value_model.specs.Paths.{value_at}
use Rattle.value_model.specs.Same.{same_value}
use Rattle.value_model.specs.declared.document.Document.{Document}
use Rattle.value_model.specs.declared.timestamp.Timestamp.{Timestamp}
use Rattle.value_model.proofs.Same.{same_values}
use Rattle.mutations.specs.declared.transform.Change.{Change}
use Rattle.mutations.specs.declared.transform.Change.TheVariants.{ServerTime, Increment, Maximum, Minimum, Append, RemoveAll}
use Rattle.mutations.specs.declared.transform.Transform.{Transform}
use Rattle.mutations.specs.Changes.{Appends, all_added, there, added, Removes, none_left, taken, kept, Changed, Transformed, all_made, made, items_at}
use Rattle.mutations.specs.Local.{is_among, appended, others, changed, transformed, taken_over, masked, set}
use Rattle.mutations.specs.Effect.{SetsFields, Updates, fields_of, update_time_of}
use Rattle.mutations.proofs.Changing.{append_laws, remove_laws, behind, in_front, either, empty}
use Rattle.mutations.proofs.Steps.{from}

false_apart : false ≡ true → ⊥
false_apart is = cc

-- ---- items of a list

among_in : (items : List Data) (value : Data) → is_among items value ≡ true → Contains items value
among_in [] value is = absurd (false_apart is)
among_in (x ∷ xs) value is = by (same_value value x) refl is (among_in xs value)
  where
    by : (b : Bool) → same_value value x ≡ b → (b || is_among xs value) ≡ true → (is_among xs value ≡ true → Contains xs value) → Contains (x ∷ xs) value
    by true same told later = subst (Contains (x ∷ xs)) (sym ((same_values value x).0 same)) (in_front x xs)
    by false apart told later = behind x xs value (later told)

in_among : (items : List Data) (value : Data) → Contains items value → is_among items value ≡ true
in_among [] value has = absurd (empty value has)
in_among (x ∷ xs) value has = elim (either x xs value has) [
  | inl same ↦ ap (λ b. b || is_among xs value) ((same_values value x).1 (sym same))
  | inr later ↦ subst (λ b. (same_value value x || b) ≡ true) (sym (in_among xs value later)) (by (same_value value x))
]
  where
    by : (b : Bool) → (b || true) ≡ true
    by true = refl
    by false = refl

not_among : (items : List Data) (value : Data) → is_among items value ≡ false → ¬ (Contains items value)
not_among items value not has = false_apart (sym not ∙ in_among items value has)

appends_by : (items values : List Data) → Appends items values (appended items values)
appends_by items [] = all_added items
appends_by items (value ∷ values) = by (is_among items value) refl (appends_by items values) (appends_by (items ++ value ∷ []) values)
  where
    by : (b : Bool) → is_among items value ≡ b → Appends items values (appended items values) → Appends (items ++ value ∷ []) values (appended (items ++ value ∷ []) values) → Appends items (value ∷ values) (appended (cond b items (items ++ value ∷ [])) values)
    by true is same more = there items values (appended items values) value (among_in items value is) same
    by false is same more = added items values (appended (items ++ value ∷ []) values) value (not_among items value is) more

removes_by : (removed items : List Data) → Removes removed items (others removed items)
removes_by removed [] = none_left removed
removes_by removed (item ∷ items) = by (is_among removed item) refl (removes_by removed items)
  where
    by : (b : Bool) → is_among removed item ≡ b → Removes removed items (others removed items) → Removes removed (item ∷ items) (cond (not b) (item ∷ others removed items) (others removed items))
    by true is rest = taken removed items (others removed items) item (among_in removed item is) rest
    by false is rest = kept removed items (others removed items) item (not_among removed item is) rest

-- ---- transforms

pub appends_is : (items values after : List Data) → Appends items values after → after ≡ appended items values
appends_is items values after is = append_laws.one items values after (appended items values) is (appends_by items values)

pub removes_is : (values items after : List Data) → Removes values items after → after ≡ others values items
removes_is values items after is = remove_laws.one values items after (others values items) is (removes_by values items)

pub changed_is : (found : Option Data) (change : Change) (at : Timestamp) (value : Data) → Changed found change at value → value ≡ changed found change at
changed_is found ServerTime at value is = is
changed_is found (Increment by) at value is = is
changed_is found (Maximum other) at value is = is
changed_is found (Minimum other) at value is = is
changed_is found (Append values) at value is = is.1 ∙ ap array_of (appends_is (items_at found) values is.0 is.2)
changed_is found (RemoveAll values) at value is = is.1 ∙ ap array_of (removes_is values (items_at found) is.0 is.2)

changed_by : (found : Option Data) (change : Change) (at : Timestamp) → Changed found change at (changed found change at)
changed_by found ServerTime at = refl
changed_by found (Increment by) at = refl
changed_by found (Maximum other) at = refl
changed_by found (Minimum other) at = refl
changed_by found (Append values) at = (appended (items_at found) values, refl, appends_by (items_at found) values)
changed_by found (RemoveAll values) at = (others values (items_at found), refl, removes_by values (items_at found))

pub transformed_by_all : (at : Timestamp) (fields : Entries) (transforms : List Transform) → Transformed at fields transforms (transformed at fields transforms)
transformed_by_all at fields [] = all_made at fields
transformed_by_all at fields (transform ∷ rest) =
    let value = changed (value_at fields transform.path) transform.change at in
    made at fields (transformed at (with_value_at fields transform.path value) rest) transform rest value (changed_by (value_at fields transform.path) transform.change at)
    (transformed_by_all at (with_value_at fields transform.path value) rest)

pub transformed_is : (at : Timestamp) (fields after : Entries) (transforms : List Transform) → Transformed at fields transforms after → after ≡ transformed at fields transforms
transformed_is at fields after transforms (all_made _ _) = refl
transformed_is at fields after transforms (made _ _ _ transform rest value change next) =
    transformed_is at (with_value_at fields transform.path value) after rest next
    ∙ ap (λ v. transformed at (with_value_at fields transform.path v) rest) (changed_is (value_at fields transform.path) transform.change at value change)

-- ---- a mask

pub put_over : (input fields after : Entries) (path : List (List ℕ)) (value : Data) → value_at input path ≡ Some value → after ≡ with_value_at fields path value → after ≡ taken_over input fields path
put_over input fields after path value told is = rw told is

pub left_out : (input fields after : Entries) (path : List (List ℕ)) → value_at input path ≡ None → after ≡ without_value_at fields path → after ≡ taken_over input fields path
left_out input fields after path told is = rw told is

-- what the paths that are left make of the fields so far, all make of the first ones
pub mask_more : (old input fields after : Entries) (mask : List (List (List ℕ))) (i : ℕ) (path : List (List ℕ)) → i < length mask → path ≡ get_or mask i path → fold (taken_over input) fields (drop i mask) ≡ masked old input mask → after ≡ taken_over input fields path → fold (taken_over input) after (drop (i + 1) mask) ≡ masked old input mask
mask_more old input fields after mask i path below is so step =
    ap (λ f. fold (taken_over input) f (drop (i + 1) mask)) step
    ∙ ap (fold (taken_over input) fields) (from mask i path below is)
    ∙ so

pub mask_last : (old input fields : Entries) (mask : List (List (List ℕ))) (i : ℕ) → length mask ≤ i → fold (taken_over input) fields (drop i mask) ≡ masked old input mask → fields ≡ masked old input mask
mask_last old input fields mask i past so = sym (ap (fold (taken_over input) fields) (drop_all i mask past)) ∙ so

-- ---- an update

pub updates_by : (old new : Option Document) (input fields : Entries) (mask : Option (List (List (List ℕ)))) (transforms : List Transform) (at : Timestamp) → SetsFields (fields_of old) input mask (set (fields_of old) input mask) → fields ≡ transformed at (set (fields_of old) input mask) transforms → new ≡ Some (record { fields = fields; update_time = update_time_of old }) → Updates old input mask transforms at new
updates_by old new input fields mask transforms at sets so is = record {
  set = set (fields_of old) input mask;
  sets = sets;
  fields = fields;
  transformed = subst (Transformed at (set (fields_of old) input mask) transforms) (sym so) (transformed_by_all at (set (fields_of old) input mask) transforms);
  document = is;
}
