-- laws of changes
use Rattle.std.proofs.Common.{◌≡◌, ◌∙◌, ◌⊎◌, inl, inr, ℕ, zero, suc, ◌-◌, ◌^◌, ◌<◌, ℤ, pos, negsuc, ◌+ℤ◌, ◌≤ℤ◌, Bool, true, false, cond, Option, Some, None, List, [], ◌∷◌, ◌++◌, length, get_or, option_map, unwrap_or, append_assoc, append-nil, refl, sym, ap, subst, arith}
use Rattle.std.specs.Prelude.{FitsSigned}
use Rattle.std.specs.Int.{w64, saturate_signed, int_max, int_min}
use Rattle.std.specs.Int.RustNames.{int_lt}
use Rattle.std.specs.List.{Contains}
use Rattle.std.proofs.lemmas.Int.{ints}
use Rattle.std.proofs.lemmas.List.Elements.{Contains-append_left, Contains-push, Contains-push_cases}
use Rattle.value_model.specs.Arrays.{items_in}
use Rattle.value_model.specs.Data.{Data, integer, array_of}
use Rattle.value_model.specs.declared.timestamp.Timestamp.{Timestamp}
use Rattle.value_model.proofs.Parts.{list_items}
use Rattle.mutations.specs.declared.transform.Change.{Change}
use Rattle.mutations.specs.declared.transform.Change.TheVariants.{ServerTime, Increment, Maximum, Minimum, Append, RemoveAll}
use Rattle.mutations.specs.Changes.{Appends, all_added, there, added, Removes, none_left, taken, kept, Changed, number_at, items_at}
use Rattle.mutations.specs.Laws.{AppendsHold, RemovesHold, IsRepeatable, ChangesHold}

-- ---- items of a list

pub behind : (first : Data) (items : List Data) (value : Data) → Contains items value → Contains (first ∷ items) value
behind first items value is = let below = is.1 in (suc is.0, omega arith, is.2)

pub in_front : (first : Data) (items : List Data) → Contains (first ∷ items) first
in_front first items = (0, omega arith, refl)

pub either : (first : Data) (items : List Data) (value : Data) → Contains (first ∷ items) value → (first ≡ value) ⊎ Contains items value
either first items value is = at is.0 is.1 is.2
  where
    at : (k : ℕ) → k < length (first ∷ items) → get_or (first ∷ items) k value ≡ value → (first ≡ value) ⊎ Contains items value
    at zero below same = inl same
    at (suc k) below same = inr (k, omega arith, same)

pub empty : (value : Data) → ¬ (Contains [] value)
empty value is = let below = is.1 in omega arith

-- ---- appending

append_front : (items values after : List Data) → Appends items values after → (left : List Data) × (after ≡ items ++ left)
append_front items values after (all_added _) = ([], sym (append-nil items))
append_front items values after (there _ others _ value held rest) = append_front items others after rest
append_front items values after (added _ others _ value lacked rest) =
    let more = append_front (items ++ value ∷ []) others after rest in
    (value ∷ more.0, more.1 ∙ append_assoc items (value ∷ []) more.0)

append_to : (items values after : List Data) → Appends items values after → (v : Data) → Contains after v → Contains items v ⊎ Contains values v
append_to items values after (all_added _) v is = inl is
append_to items values after (there _ others _ value held rest) v is = elim (append_to items others after rest v is) [ inl front ↦ inl front | inr later ↦ inr (behind value others v later) ]
append_to items values after (added _ others _ value lacked rest) v is = elim (append_to (items ++ value ∷ []) others after rest v is) [
  | inl front ↦ elim (Contains-push_cases items value v front) [ inl before ↦ inl before | inr same ↦ inr (subst (λ x. Contains (value ∷ others) x) same (in_front value others)) ]
  | inr later ↦ inr (behind value others v later)
]

append_from : (items values after : List Data) → Appends items values after → (v : Data) → Contains items v ⊎ Contains values v → Contains after v
append_from items values after (all_added _) v (inl is) = is
append_from items values after (all_added _) v (inr is) = absurd (empty v is)
append_from items values after (there _ others _ value held rest) v (inl is) = append_from items others after rest v (inl is)
append_from items values after (there _ others _ value held rest) v (inr is) = elim (either value others v is) [
  | inl same ↦ append_from items others after rest v (inl (subst (λ x. Contains items x) same held))
  | inr later ↦ append_from items others after rest v (inr later)
]
append_from items values after (added _ others _ value lacked rest) v (inl is) = append_from (items ++ value ∷ []) others after rest v (inl (Contains-append_left items (value ∷ []) v is))
append_from items values after (added _ others _ value lacked rest) v (inr is) = elim (either value others v is) [
  | inl same ↦ append_from (items ++ value ∷ []) others after rest v (inl (subst (λ x. Contains (items ++ value ∷ []) x) same (Contains-push items value)))
  | inr later ↦ append_from (items ++ value ∷ []) others after rest v (inr later)
]

append_once : (items values after : List Data) → ((v : Data) → Contains values v → Contains items v) → Appends items values after → after ≡ items
append_once items values after all (all_added _) = refl
append_once items values after all (there _ others _ value held rest) = append_once items others after (λ v is. all v (behind value others v is)) rest
append_once items values after all (added _ others _ value lacked rest) = absurd (lacked (all value (in_front value others)))

append_one : (items values after other : List Data) → Appends items values after → Appends items values other → after ≡ other
append_one items values after other (all_added _) (all_added _) = refl
append_one items values after other (there _ others _ value held rest) (there _ _ _ _ again more) = append_one items others after other rest more
append_one items values after other (there _ others _ value held rest) (added _ _ _ _ lacked more) = absurd (lacked held)
append_one items values after other (added _ others _ value lacked rest) (there _ _ _ _ held more) = absurd (lacked held)
append_one items values after other (added _ others _ value lacked rest) (added _ _ _ _ again more) = append_one (items ++ value ∷ []) others after other rest more

pub append_laws : AppendsHold
append_laws = record { front = append_front; all = λ items values after is v. (append_to items values after is v, append_from items values after is v); once = append_once; one = append_one }

-- ---- removing

remove_to : (values items after : List Data) → Removes values items after → (v : Data) → Contains after v → Contains items v × ¬ (Contains values v)
remove_to values items after (none_left _) v is = absurd (empty v is)
remove_to values items after (taken _ others _ value held rest) v is = let more = remove_to values others after rest v is in (behind value others v more.0, more.1)
remove_to values items after (kept _ others left value lacked rest) v is = elim (either value left v is) [
  | inl same ↦ (subst (λ x. Contains (value ∷ others) x) same (in_front value others), subst (λ x. ¬ (Contains values x)) same lacked)
  | inr later ↦ let more = remove_to values others left rest v later in (behind value others v more.0, more.1)
]

remove_from : (values items after : List Data) → Removes values items after → (v : Data) → Contains items v → ¬ (Contains values v) → Contains after v
remove_from values items after (none_left _) v is free = is
remove_from values items after (taken _ others _ value held rest) v is free = elim (either value others v is) [
  | inl same ↦ absurd (free (subst (λ x. Contains values x) same held))
  | inr later ↦ remove_from values others after rest v later free
]
remove_from values items after (kept _ others left value lacked rest) v is free = elim (either value others v is) [
  | inl same ↦ subst (λ x. Contains (value ∷ left) x) same (in_front value left)
  | inr later ↦ behind value left v (remove_from values others left rest v later free)
]

remove_once : (values items after : List Data) → ((v : Data) → Contains items v → ¬ (Contains values v)) → Removes values items after → after ≡ items
remove_once values items after free (none_left _) = refl
remove_once values items after free (taken _ others _ value held rest) = absurd (free value (in_front value others) held)
remove_once values items after free (kept _ others left value lacked rest) = ap (λ l. value ∷ l) (remove_once values others left (λ v is. free v (behind value others v is)) rest)

remove_one : (values items after other : List Data) → Removes values items after → Removes values items other → after ≡ other
remove_one values items after other (none_left _) (none_left _) = refl
remove_one values items after other (taken _ others _ value held rest) (taken _ _ _ _ again more) = remove_one values others after other rest more
remove_one values items after other (taken _ others _ value held rest) (kept _ _ _ _ lacked more) = absurd (lacked held)
remove_one values items after other (kept _ others left value lacked rest) (taken _ _ _ _ held more) = absurd (lacked held)
remove_one values items after other (kept _ others left value lacked rest) (kept _ _ also _ again more) = ap (λ l. value ∷ l) (remove_one values others left also rest more)

pub remove_laws : RemovesHold
remove_laws = record { others = λ values items after is v. (remove_to values items after is v, λ both. remove_from values items after is v both.0 both.1); once = remove_once; one = remove_one }

-- ---- numbers

same_either : {A : Type 0} (b : Bool) (x : A) → cond b x x ≡ x
same_either true x = refl
same_either false x = refl

greater_again : (found : Option ℤ) (other : ℤ) → int_max (unwrap_or (option_map (λ number. int_max number other) found) other) other ≡ unwrap_or (option_map (λ number. int_max number other) found) other
greater_again None other = same_either (int_lt other other) other
greater_again (Some number) other = by (int_lt other number) refl
  where
    by : (b : Bool) → int_lt other number ≡ b → int_max (cond b number other) other ≡ cond b number other
    by true is = ap (λ b. cond b number other) is
    by false is = same_either (int_lt other other) other

smaller_again : (found : Option ℤ) (other : ℤ) → int_min (unwrap_or (option_map (λ number. int_min number other) found) other) other ≡ unwrap_or (option_map (λ number. int_min number other) found) other
smaller_again None other = same_either (int_lt other other) other
smaller_again (Some number) other = by (int_lt other number) refl
  where
    by : (b : Bool) → int_lt other number ≡ b → int_min (cond b other number) other ≡ cond b other number
    by true is = same_either (int_lt other other) other
    by false is = ap (λ b. cond b other number) is

exact : (z : ℤ) → FitsSigned w64 z → saturate_signed w64 z ≡ z
exact (pos n) fits = ap pos (omega (arith, ints))
exact (negsuc n) fits = ap negsuc (omega (arith, ints))

top : (z : ℤ) → pos (2 ^ 63 - 1) ≤ℤ z → saturate_signed w64 z ≡ pos (2 ^ 63 - 1)
top (pos n) least = ap pos (omega (arith, ints))
top (negsuc n) least = absurd (omega (arith, ints))

bottom : (z : ℤ) → z ≤ℤ negsuc (2 ^ 63 - 1) → saturate_signed w64 z ≡ negsuc (2 ^ 63 - 1)
bottom (pos n) most = absurd (omega (arith, ints))
bottom (negsuc n) most = ap negsuc (omega (arith, ints))

-- ---- changes

one_change : (found : Option Data) (change : Change) (at : Timestamp) (value other : Data) → Changed found change at value → Changed found change at other → value ≡ other
one_change found ServerTime at value other this that = this ∙ sym that
one_change found (Increment by) at value other this that = this ∙ sym that
one_change found (Maximum by) at value other this that = this ∙ sym that
one_change found (Minimum by) at value other this that = this ∙ sym that
one_change found (Append values) at value other this that = this.1 ∙ ap array_of (append_one (items_at found) values this.0 that.0 this.2 that.2) ∙ sym that.1
one_change found (RemoveAll values) at value other this that = this.1 ∙ ap array_of (remove_one values (items_at found) this.0 that.0 this.2 that.2) ∙ sym that.1

array_items : (value : Data) (items : List Data) → value ≡ array_of items → items_at (Some value) ≡ items
array_items value items is = ap items_in is ∙ list_items items

repeated : (found : Option Data) (change : Change) (at : Timestamp) (value again : Data) → IsRepeatable change → Changed found change at value → Changed (Some value) change at again → again ≡ value
repeated found ServerTime at value again may this that = that ∙ sym this
repeated found (Increment by) at value again may this that = absurd may
repeated found (Maximum other) at value again may this that =
    that ∙ ap (λ d. integer (unwrap_or (option_map (λ number. int_max number other) (number_at (Some d))) other)) this ∙ ap integer (greater_again (number_at found) other) ∙ sym this
repeated found (Minimum other) at value again may this that =
    that ∙ ap (λ d. integer (unwrap_or (option_map (λ number. int_min number other) (number_at (Some d))) other)) this ∙ ap integer (smaller_again (number_at found) other) ∙ sym this
repeated found (Append values) at value again may this that =
    let items : items_at (Some value) ≡ this.0 = array_items value this.0 this.1 in
    let more : Appends this.0 values that.0 = subst (λ l. Appends l values that.0) items that.2 in
    that.1 ∙ ap array_of (append_once this.0 values that.0 (λ v is. append_from (items_at found) values this.0 this.2 v (inr is)) more) ∙ sym this.1
repeated found (RemoveAll values) at value again may this that =
    let items : items_at (Some value) ≡ this.0 = array_items value this.0 this.1 in
    let more : Removes values this.0 that.0 = subst (λ l. Removes values l that.0) items that.2 in
    that.1 ∙ ap array_of (remove_once values this.0 that.0 (λ v is. let told = remove_to values (items_at found) this.0 this.2 v is in told.1) more) ∙ sym this.1

pub change_laws : ChangesHold
change_laws = record {
  one = one_change;
  repeated = repeated;
  within = λ number by at value fits is. is ∙ ap integer (exact (number +ℤ by) fits);
  above = λ number by at value least is. is ∙ ap integer (top (number +ℤ by) least);
  below = λ number by at value most is. is ∙ ap integer (bottom (number +ℤ by) most);
}
