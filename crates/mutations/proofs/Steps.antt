-- the loops over values and transforms, one step on and at the end
use Rattle.std.proofs.Common.{◌≡◌, ◌∙◌, ◌↔◌, ◌⊎◌, Bool, true, false, IsTrue, inl, inr, ℕ, ◌+◌, ◌<◌, ◌≤◌, List, [], ◌∷◌, ◌++◌, length, get_or, drop, append_assoc, append-nil, rules, sym, ap, subst}
use Rattle.std.proofs.lemmas.List.{drop_more, drop_all}
use Rattle.std.specs.List.{Contains}
use Rattle.value_model.specs.Changes.{with_value_at}
use Rattle.value_model.specs.Data.{Data, Entries}
use Rattle.value_model.specs.Paths.{value_at}
use Rattle.value_model.specs.declared.timestamp.Timestamp.{Timestamp}
use Rattle.mutations.specs.declared.transform.Transform.{Transform}
use Rattle.mutations.specs.Changes.{Appends, all_added, there, added, Removes, none_left, taken, kept, Changed, Transformed, all_made, made}

is_true : IsTrue true
is_true = search rules

not_true : IsTrue false → ⊥
not_true h = search rules

pub from : {X : Type 0} (xs : List X) (i : ℕ) (x : X) → i < length xs → x ≡ get_or xs i x → x ∷ drop (i + 1) xs ≡ drop i xs
from xs i x below is = ap (λ y. y ∷ drop (i + 1) xs) is ∙ sym (drop_more xs i x below)

-- whether it is held, by what the code told
pub held : (told : Bool) (shown others : List Data) (value : Data) → IsTrue told ↔ Contains shown value → shown ≡ others → told ≡ true → Contains others value
held true shown others value iff same is = subst (λ l. Contains l value) same (iff.0 is_true)
held false shown others value iff same is = absurd cc

pub lacked : (told : Bool) (shown others : List Data) (value : Data) → IsTrue told ↔ Contains shown value → shown ≡ others → told ≡ false → ¬ (Contains others value)
lacked true shown others value iff same is = absurd cc
lacked false shown others value iff same is = λ contains. not_true (iff.1 (subst (λ l. Contains l value) (sym same) contains))

-- what was done with an item, by whether it was among others
abbrev pub Adds : List Data → List Data → List Data → Data → Type 0
Adds others before after value = (Contains others value × (after ≡ before)) ⊎ (¬ (Contains others value) × (after ≡ before ++ value ∷ []))

pub append_step : (values items next : List Data) (i : ℕ) (value : Data) (after : List Data) → i < length values → value ≡ get_or values i value → Adds items items next value → Appends next (drop (i + 1) values) after → Appends items (drop i values) after
append_step values items next i value after below is (inl told) rest =
    subst (λ l. Appends items l after) (from values i value below is) (there items (drop (i + 1) values) after value told.0 (subst (λ l. Appends l (drop (i + 1) values) after) told.1 rest))
append_step values items next i value after below is (inr told) rest =
    subst (λ l. Appends items l after) (from values i value below is) (added items (drop (i + 1) values) after value told.0 (subst (λ l. Appends l (drop (i + 1) values) after) told.1 rest))

pub append_end : (values items : List Data) (i : ℕ) → length values ≤ i → Appends items (drop i values) items
append_end values items i past = subst (λ l. Appends items l items) (sym (drop_all i values past)) (all_added items)

pub remove_step : (removed items front next : List Data) (i : ℕ) (value : Data) (after : List Data) → i < length items → value ≡ get_or items i value → (held : ((left : List Data) → Removes removed (drop i items) left → Removes removed items (front ++ left))) → Adds removed front next value → Removes removed (drop (i + 1) items) after → Removes removed items (next ++ after)
remove_step removed items front next i value after below is held (inl told) rest =
    subst (λ l. Removes removed items (l ++ after)) (sym told.1)
    (held after (subst (λ l. Removes removed l after) (from items i value below is) (taken removed (drop (i + 1) items) after value told.0 rest)))
remove_step removed items front next i value after below is held (inr told) rest =
    subst (λ l. Removes removed items l) (sym (append_assoc front (value ∷ []) after) ∙ ap (λ l. l ++ after) (sym told.1))
    (held (value ∷ after) (subst (λ l. Removes removed l (value ∷ after)) (from items i value below is) (kept removed (drop (i + 1) items) after value told.0 rest)))

pub remove_end : (removed items front : List Data) (i : ℕ) → length items ≤ i → ((left : List Data) → Removes removed (drop i items) left → Removes removed items (front ++ left)) → Removes removed items front
remove_end removed items front i past held =
    subst (Removes removed items) (append-nil front) (held [] (subst (λ l. Removes removed l []) (sym (drop_all i items past)) (none_left removed)))

pub transform_step : (at : Timestamp) (fields next : Entries) (transforms : List Transform) (i : ℕ) (transform : Transform) (value : Data) (after : Entries) → i < length transforms → transform ≡ get_or transforms i transform → Changed (value_at fields transform.path) transform.change at value → next ≡ with_value_at fields transform.path value → Transformed at next (drop (i + 1) transforms) after → Transformed at fields (drop i transforms) after
transform_step at fields next transforms i transform value after below is changed set rest =
    subst (λ l. Transformed at fields l after) (from transforms i transform below is)
    (made at fields after transform (drop (i + 1) transforms) value changed (subst (λ f. Transformed at f (drop (i + 1) transforms) after) set rest))

pub transform_end : (at : Timestamp) (fields : Entries) (transforms : List Transform) (i : ℕ) → length transforms ≤ i → Transformed at fields (drop i transforms) fields
transform_end at fields transforms i past = subst (λ l. Transformed at fields l fields) (sym (drop_all i transforms past)) (all_made at fields)
