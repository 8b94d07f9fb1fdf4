-- a write has one effect
use Rattle.std.proofs.Common.{◌≡◌, ◌≢◌, ◌∙◌, ◌⊎◌, inl, inr, ℕ, Bool, true, false, Option, Some, None, List, [], ◌∷◌, ◌++◌, refl, sym, ap, subst}
use Rattle.value_model.specs.Changes.{with_value_at}
use Rattle.value_model.specs.Data.{Data, map_of, time, Entries}
use Rattle.value_model.specs.Laws.{IsMap}
use Rattle.value_model.specs.Paths.{value_at, value_in}
use Rattle.value_model.specs.Same.{same_value}
use Rattle.value_model.specs.declared.document.Document.{Document}
use Rattle.value_model.specs.declared.timestamp.Timestamp.{Timestamp}
use Rattle.value_model.proofs.Lookups.{path_laws}
use Rattle.value_model.proofs.Same.{same_values}
use Rattle.mutations.specs.declared.transform.Change.{Change}
use Rattle.mutations.specs.declared.transform.Change.TheVariants.{ServerTime, Increment, Maximum, Minimum, Append, RemoveAll}
use Rattle.mutations.specs.declared.transform.Transform.{Transform}
use Rattle.mutations.specs.declared.write.Precondition.{Precondition}
use Rattle.mutations.specs.declared.write.Precondition.TheVariants.{Free, Exists, UpdateTime}
use Rattle.mutations.specs.declared.write.Write.{Write}
use Rattle.mutations.specs.declared.write.Write.TheVariants.{Update, Delete}
use Rattle.mutations.specs.Effect.{Holds, SetsFields, Updates, Writes, condition_of, fields_of, update_time_of}
use Rattle.mutations.specs.Laws.{EffectsAreOne, HasOrder}
use Rattle.mutations.specs.Local.{changed, transformed, transformed_by}
use Rattle.mutations.specs.Masks.{LeadsTo, PartsFrom}
use Rattle.mutations.proofs.Locally.{transformed_is}
use Rattle.mutations.proofs.Masking.{Alike, agree, same_fields}
use Rattle.mutations.proofs.Taking.{path_cases}

-- ---- whether a precondition holds

time_cases : (a b : Timestamp) → (a ≡ b) ⊎ (a ≢ b)
time_cases a b = by (same_value (time a) (time b)) refl
  where
    by : (told : Bool) → same_value (time a) (time b) ≡ told → (a ≡ b) ⊎ (a ≢ b)
    by true is = let same : time a ≡ time b = (same_values (time a) (time b)).0 is in inl cc
    by false is = inr (λ same. let so = (same_values (time a) (time b)).1 (ap time same) in cc (is, so))

holds_cases : (condition : Precondition) (old : Option Document) → Holds condition old ⊎ ¬ (Holds condition old)
holds_cases Free old = inl tt
holds_cases (Exists true) None = inr (λ h. h)
holds_cases (Exists true) (Some document) = inl tt
holds_cases (Exists false) None = inl tt
holds_cases (Exists false) (Some document) = inr (λ h. h)
holds_cases (UpdateTime moment) None = inr (λ h. h)
holds_cases (UpdateTime moment) (Some document) = by document.update_time
  where
    by : (o : Option Timestamp) → (o ≡ Some moment) ⊎ ¬ (o ≡ Some moment)
    by None = inr (λ same. cc)
    by (Some other) = elim (time_cases other moment) [
      | inl same ↦ inl (ap Some same)
      | inr apart ↦ inr (λ same. apart cc)
    ]

-- ---- transforms of fields that are alike at each path

put_alike : (f g : Entries) (path : List (List ℕ)) (v : Data) → ((q : List (List ℕ)) → Alike (value_at f q) (value_at g q)) → (q : List (List ℕ)) → Alike (value_at (with_value_at f path v) q) (value_at (with_value_at g path v) q)
put_alike f g [] v alike q = inl refl
put_alike f g (n ∷ p) v alike q = elim (path_cases (n ∷ p) q) [
  | inl inside ↦ inl (inside_of f inside.0 inside.1 ∙ sym (inside_of g inside.0 inside.1))
  | inr (inl leads) ↦ inr (above_of f leads, above_of g leads)
  | inr (inr parts) ↦ subst (λ o. Alike o (value_at (with_value_at g (n ∷ p) v) q)) (sym (beside_of f parts)) (subst (Alike (value_at f q)) (sym (beside_of g parts)) (alike q))
]
  where
    inside_of : (h : Entries) (names : List (List ℕ)) → q ≡ (n ∷ p) ++ names → value_at (with_value_at h (n ∷ p) v) q ≡ value_in v names
    inside_of h names is = ap (value_at (with_value_at h (n ∷ p) v)) is ∙ path_laws.put_below h n p names v

    above_of : (h : Entries) → LeadsTo q (n ∷ p) → IsMap (value_at (with_value_at h (n ∷ p) v) q)
    above_of h leads = subst (λ r. IsMap (value_at (with_value_at h r v) q)) (sym leads.2) (path_laws.put_above h q leads.0 leads.1 v)

    beside_of : (h : Entries) → PartsFrom (n ∷ p) q → value_at (with_value_at h (n ∷ p) v) q ≡ value_at h q
    beside_of h parts =
        subst (λ r. value_at (with_value_at h (n ∷ p) v) r ≡ value_at h r) (sym parts.there)
        (subst (λ r. value_at (with_value_at h r v) (parts.shared ++ parts.other_name ∷ parts.other_next) ≡ value_at h (parts.shared ++ parts.other_name ∷ parts.other_next)) (sym parts.here)
        (path_laws.put_apart h parts.shared parts.name parts.other_name parts.next parts.other_next v parts.apart))

maps_changed : (xs ys : Entries) (change : Change) (at : Timestamp) → changed (Some (map_of xs)) change at ≡ changed (Some (map_of ys)) change at
maps_changed xs ys ServerTime at = refl
maps_changed xs ys (Increment by) at = refl
maps_changed xs ys (Maximum other) at = refl
maps_changed xs ys (Minimum other) at = refl
maps_changed xs ys (Append values) at = refl
maps_changed xs ys (RemoveAll values) at = refl

changed_alike : (a b : Option Data) (change : Change) (at : Timestamp) → Alike a b → changed a change at ≡ changed b change at
changed_alike a b change at (inl same) = ap (λ o. changed o change at) same
changed_alike a b change at (inr maps) = ap (λ o. changed o change at) maps.0.1 ∙ maps_changed maps.0.0 maps.1.0 change at ∙ sym (ap (λ o. changed o change at) maps.1.1)

transformed_alike : (at : Timestamp) (f g : Entries) (ts : List Transform) → ((q : List (List ℕ)) → Alike (value_at f q) (value_at g q)) → (q : List (List ℕ)) → Alike (value_at (transformed at f ts) q) (value_at (transformed at g ts) q)
transformed_alike at f g [] alike q = alike q
transformed_alike at f g (t ∷ ts) alike q =
    let v = changed (value_at f t.path) t.change at in
    let same : transformed_by at g t ≡ with_value_at g t.path v = sym (ap (with_value_at g t.path) (changed_alike (value_at f t.path) (value_at g t.path) t.change at (alike t.path))) in
    transformed_alike at (transformed_by at f t) (transformed_by at g t) ts
    (λ r. subst (λ h. Alike (value_at (with_value_at f t.path v) r) (value_at h r)) (sym same) (put_alike f g t.path v alike r)) q

-- ---- one effect

sets_alike : (old input set other : Entries) (mask : Option (List (List (List ℕ)))) → SetsFields old input mask set → SetsFields old input mask other → (q : List (List ℕ)) → Alike (value_at set q) (value_at other q)
sets_alike old input set other None this that q = inl (ap (λ f. value_at f q) (this ∙ sym that))
sets_alike old input set other (Some mask) this that q = agree old input set other mask this that q

updated_once : (old new other : Option Document) (input : Entries) (mask : Option (List (List (List ℕ)))) (ts : List Transform) (at : Timestamp) → HasOrder (fields_of new) → HasOrder (fields_of other) → Updates old input mask ts at new → Updates old input mask ts at other → new ≡ other
updated_once old new other input mask ts at wholly also this that =
    let alike : (q : List (List ℕ)) → Alike (value_at this.fields q) (value_at that.fields q) = λ q.
    subst (λ f. Alike (value_at f q) (value_at that.fields q)) (sym (transformed_is at this.set this.fields ts this.transformed))
    (subst (λ f. Alike (value_at (transformed at this.set ts) q) (value_at f q)) (sym (transformed_is at that.set that.fields ts that.transformed))
    (transformed_alike at this.set that.set ts (sets_alike (fields_of old) input this.set that.set mask this.sets that.sets) q)) in
    let same : this.fields ≡ that.fields = same_fields this.fields that.fields alike
    (subst (λ d. HasOrder (fields_of d)) this.document wholly) (subst (λ d. HasOrder (fields_of d)) that.document also) in
    this.document ∙ ap (λ f. Some (record { fields = f; update_time = update_time_of old })) same ∙ sym that.document

written_once : (old new other : Option Document) (write : Write) (at : Timestamp) → HasOrder (fields_of new) → HasOrder (fields_of other) → Writes old write at new → Writes old write at other → new ≡ other
written_once old new other (Update key fields mask transforms condition) at wholly also this that = updated_once old new other fields mask transforms at wholly also this that
written_once old new other (Delete key condition) at wholly also this that = this ∙ sym that

pub one_effect : EffectsAreOne
one_effect old new other write at wholly also this that = elim (holds_cases (condition_of write) old) [
  | inl holds ↦ written_once old new other write at wholly also (this.made holds) (that.made holds)
  | inr not ↦ this.left not ∙ sym (that.left not)
]
