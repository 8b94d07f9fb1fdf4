-- an update of the fields that it touches tells that of all fields
use Rattle.std.proofs.Common.{◌≡◌, ◌∙◌, inl, inr, ℕ, suc, Bool, true, false, cond, Ordering, Less, Equal, Greater, Option, Some, None, List, [], ◌∷◌, ◌++◌, option_and_then, option_map, unwrap_or, refl, sym, ap, subst, arith}
use Rattle.std.specs.Prelude.{IsSome}
use Rattle.std.specs.BTreeMap.{is_at}
use Rattle.std.specs.Cmp.Lexicographic.{slice_cmp}
use Rattle.std.specs.List.{All, AllPairs, Contains}
use Rattle.std.specs.Map.{keys_of}
use Rattle.std.specs.Ordering.{nat_cmp, is_eq, match_ordering}
use Rattle.std.proofs.lemmas.List.Elements.{All-nil, All-head, All-tail}
use Rattle.std.proofs.lemmas.List.Kept.{AllPairs-cons}
use Rattle.std.proofs.lemmas.Map.Views.{All-keys-insert_entry, All-map-remove_entry}
use Rattle.document_keys.specs.Order.{TextBefore}
use Rattle.document_keys.specs.Paths.{IsFieldName}
use Rattle.document_keys.proofs.Order.{texts_compute}
use Rattle.value_model.specs.Changes.{members_in, with_value, with_value_at, on_members, without_value_at}
use Rattle.value_model.specs.Data.{Data, null, Entries, map_of}
use Rattle.value_model.specs.Fields.{AreFields, field, with_field, without_field}
use Rattle.value_model.specs.Laws.{IsMap}
use Rattle.value_model.specs.Paths.{value_at, value_in}
use Rattle.value_model.specs.declared.timestamp.Timestamp.{Timestamp}
use Rattle.value_model.proofs.Mapped.{map_laws, tail_pairs, gap_under}
use Rattle.value_model.proofs.Parts.{entries_members}
use Rattle.value_model.proofs.Places.{below_from}
use Rattle.value_model.proofs.Removing.{at_first, removed_none}
use Rattle.mutations.specs.declared.transform.Change.{Change}
use Rattle.mutations.specs.declared.transform.Transform.{Transform}
use Rattle.mutations.specs.Local.{changed, transformed_by, transformed, taken_over, masked}
use Rattle.mutations.specs.Masks.{IsMasked, IsAboveMask, IsFilledBelow, Masked}
use Rattle.mutations.specs.Touched.{AreTouched, Completes, HasName, StandsFor, IsTouched, SameAt, SameBeside, SameBut}
use Rattle.mutations.proofs.Taking.{name_cases}
use Rattle.mutations.proofs.Touching.{has_cases, no_name}

-- ---- fields stay in order

good_name : (es : Entries) (n : List ℕ) → All IsFieldName (keys_of es) → HasName es n → IsFieldName n
good_name [] n all has = absurd (no_name n has)
good_name (e ∷ es) n all has = by (slice_cmp nat_cmp n e.0) refl has (good_name es n (All-tail IsFieldName e.0 (keys_of es) all))
  where
    by : (o : Ordering) → slice_cmp nat_cmp n e.0 ≡ o → IsSome (cond (is_eq o) (Some e.1) (field es n)) → (HasName es n → IsFieldName n) → IsFieldName n
    by Less is has rest = rest has
    by Equal is has rest = subst IsFieldName (sym (texts_compute.exact n e.0 is)) (All-head IsFieldName e.0 (keys_of es) all)
    by Greater is has rest = rest has

put_ascending : (es : Entries) (n : List ℕ) (v : Data) → AllPairs TextBefore (keys_of es) → AllPairs TextBefore (keys_of (with_field es n v))
put_ascending [] n v all = AllPairs-cons TextBefore n [] (All-nil (TextBefore n)) all
put_ascending (e ∷ es) n v all = by (slice_cmp nat_cmp n e.0) refl (put_ascending es n v (tail_pairs e.0 (keys_of es) all))
  where
    by : (o : Ordering) → slice_cmp nat_cmp n e.0 ≡ o → AllPairs TextBefore (keys_of (with_field es n v)) → AllPairs TextBefore (keys_of (match_ordering o ((n, v) ∷ e ∷ es) ((e.0, v) ∷ es) (e ∷ with_field es n v)))
    by Less is rest = AllPairs-cons TextBefore n (keys_of (e ∷ es)) (λ k d below. (gap_under n e.0 (keys_of es) (texts_compute.below n e.0 is) all).above k d (omega arith) below) all
    by Equal is rest = all
    by Greater is rest = AllPairs-cons TextBefore e.0 (keys_of (with_field es n v))
        (All-keys-insert_entry (slice_cmp nat_cmp) n v (TextBefore e.0) es (λ k d below. all 0 (suc k) d (omega arith) (omega arith)) (below_from n e.0 is)) rest

removed_ascending : (es : Entries) (n : List ℕ) → AllPairs TextBefore (keys_of es) → AllPairs TextBefore (keys_of (without_field es n))
removed_ascending [] n all = all
removed_ascending (e ∷ es) n all = by (is_at (slice_cmp nat_cmp n) e.0) (removed_ascending es n (tail_pairs e.0 (keys_of es) all))
  where
    by : (b : Bool) → AllPairs TextBefore (keys_of (without_field es n)) → AllPairs TextBefore (keys_of (cond b es (e ∷ without_field es n)))
    by true rest = tail_pairs e.0 (keys_of es) all
    by false rest = AllPairs-cons TextBefore e.0 (keys_of (without_field es n))
        (All-map-remove_entry (is_at (slice_cmp nat_cmp n)) (λ x. x.0) (TextBefore e.0) es (λ k d below. all 0 (suc k) d (omega arith) (omega arith))) rest

-- ---- what a change makes of the field at a path's first name

-- the fields with this at the name, or with nothing
abbrev set_to : Entries → List ℕ → Option Data → Entries
set_to fields name (Some value) = with_field fields name value
set_to fields name None = without_field fields name

set_but : (fields : Entries) (n : List ℕ) (o : Option Data) → SameBut n (set_to fields n o) fields
set_but fields n (Some v) m apart = map_laws.put_elsewhere fields n v m apart
set_but fields n None m apart = map_laws.removed_elsewhere fields n m apart

set_is : (fields : Entries) (n : List ℕ) (o : Option Data) → AreFields fields → field (set_to fields n o) n ≡ o
set_is fields n (Some v) are = map_laws.put_here fields n v
set_is fields n None are = map_laws.removed_here fields n are

set_fields : (fields : Entries) (n : List ℕ) (o : Option Data) → IsFieldName n → AreFields fields → AreFields (set_to fields n o)
set_fields fields n (Some v) good are = record {
  names = All-keys-insert_entry (slice_cmp nat_cmp) n v IsFieldName fields are.names good;
  ascending = put_ascending fields n v are.ascending;
}
set_fields fields n None good are = record {
  names = All-map-remove_entry (is_at (slice_cmp nat_cmp n)) (λ x. x.0) IsFieldName fields are.names;
  ascending = removed_ascending fields n are.ascending;
}

put_set : (fields : Entries) (n : List ℕ) (p : List (List ℕ)) (v : Data) → with_value_at fields (n ∷ p) v ≡ with_field fields n (with_value (unwrap_or (field fields n) null) p v)
put_set fields n p v =
    entries_members (with_field (members_in (map_of fields)) n (with_value (unwrap_or (field (members_in (map_of fields)) n) null) p v))
    ∙ ap (λ f. with_field f n (with_value (unwrap_or (field f n) null) p v)) (entries_members fields)

abbrev removed_value : List (List ℕ) → Option Data → Option Data
removed_value [] o = None
removed_value (m ∷ q) o = option_map (on_members (λ inner. without_value_at inner (m ∷ q))) o

removed_set : (fields : Entries) (n : List ℕ) (p : List (List ℕ)) → without_value_at fields (n ∷ p) ≡ set_to fields n (removed_value p (field fields n))
removed_set fields n [] = refl
removed_set fields n (m ∷ q) = by (field fields n) refl
  where
    by : (o : Option Data) → field fields n ≡ o → unwrap_or (option_map (λ d. with_field fields n (on_members (λ inner. without_value_at inner (m ∷ q)) d)) o) fields ≡ set_to fields n (option_map (on_members (λ inner. without_value_at inner (m ∷ q))) o)
    by None none = sym (removed_none fields n none)
    by (Some d) is = refl

-- what is taken over at the name, by what the input has at the path
abbrev taken_value : Option Data → List (List ℕ) → Option Data → Option Data
taken_value (Some v) p o = Some (with_value (unwrap_or o null) p v)
taken_value None p o = removed_value p o

taken_set : (input fields : Entries) (n : List ℕ) (p : List (List ℕ)) → taken_over input fields (n ∷ p) ≡ set_to fields n (taken_value (value_at input (n ∷ p)) p (field fields n))
taken_set input fields n p = by (value_at input (n ∷ p))
  where
    by : (o : Option Data) → unwrap_or (option_map (λ v. with_value_at fields (n ∷ p) v) o) (without_value_at fields (n ∷ p)) ≡ set_to fields n (taken_value o p (field fields n))
    by (Some v) = put_set fields n p v
    by None = removed_set fields n p

abbrev changed_value : Timestamp → Change → List (List ℕ) → Option Data → Option Data
changed_value at change p o = Some (with_value (unwrap_or o null) p (changed (option_and_then (λ d. value_in d p) o) change at))

changed_set : (at : Timestamp) (change : Change) (fields : Entries) (n : List ℕ) (p : List (List ℕ)) → with_value_at fields (n ∷ p) (changed (value_at fields (n ∷ p)) change at) ≡ set_to fields n (changed_value at change p (field fields n))
changed_set at change fields n p =
    put_set fields n p (changed (value_at fields (n ∷ p)) change at)
    ∙ ap (λ o. with_field fields n (with_value (unwrap_or (field fields n) null) p (changed o change at))) (at_first fields n p)

module _ (names : Entries) (named : AreFields names) where
  -- ---- one step

  module _ (n : List ℕ) (has : HasName names n) (value : Option Data → Option Data) where
    step_part : (part whole : Entries) → StandsFor names part whole → StandsFor names (set_to part n (value (field part n))) (set_to whole n (value (field whole n)))
    step_part part whole is =
        let good = good_name names n named.names has in
        record {
          same = λ m there. elim (name_cases n m) [
            | inl level ↦ subst (λ k. field (set_to part n (value (field part n))) k ≡ field (set_to whole n (value (field whole n))) k) (sym level)
                (set_is part n (value (field part n)) is.part_fields ∙ ap value (is.same n has) ∙ sym (set_is whole n (value (field whole n)) is.whole_fields))
            | inr apart ↦ set_but part n (value (field part n)) m apart ∙ is.same m there ∙ sym (set_but whole n (value (field whole n)) m apart)
          ];
          part_fields = set_fields part n (value (field part n)) good is.part_fields;
          whole_fields = set_fields whole n (value (field whole n)) good is.whole_fields;
        }

    step_beside : (whole : Entries) → SameBeside names (set_to whole n (value (field whole n))) whole
    step_beside whole m not = set_but whole n (value (field whole n)) m (λ level. not (subst (HasName names) (sym level) has))

  -- ---- a mask

  taken_part : (input part whole : Entries) (path : List (List ℕ)) → IsTouched names path → StandsFor names part whole → StandsFor names (taken_over input part path) (taken_over input whole path)
  taken_part input part whole path touched is =
      let n = touched.0 in let p = touched.1 in
      subst (λ q. StandsFor names (taken_over input part q) (taken_over input whole q)) (sym touched.2)
      (subst (λ f. StandsFor names f (taken_over input whole (n ∷ p))) (sym (taken_set input part n p))
      (subst (λ f. StandsFor names (set_to part n (taken_value (value_at input (n ∷ p)) p (field part n))) f) (sym (taken_set input whole n p))
      (step_part n touched.3 (taken_value (value_at input (n ∷ p)) p) part whole is)))

  taken_beside : (input whole : Entries) (path : List (List ℕ)) → IsTouched names path → SameBeside names (taken_over input whole path) whole
  taken_beside input whole path touched =
      let n = touched.0 in let p = touched.1 in
      subst (λ q. SameBeside names (taken_over input whole q) whole) (sym touched.2)
      (subst (λ f. SameBeside names f whole) (sym (taken_set input whole n p))
      (step_beside n touched.3 (taken_value (value_at input (n ∷ p)) p) whole))

  pub masked_part : (input part whole : Entries) (mask : List (List (List ℕ))) → All (IsTouched names) mask → StandsFor names part whole → StandsFor names (masked part input mask) (masked whole input mask)
  masked_part input part whole [] all is = is
  masked_part input part whole (path ∷ mask) all is =
      masked_part input (taken_over input part path) (taken_over input whole path) mask (All-tail (IsTouched names) path mask all)
      (taken_part input part whole path (All-head (IsTouched names) path mask all) is)

  pub masked_beside : (input whole : Entries) (mask : List (List (List ℕ))) → All (IsTouched names) mask → SameBeside names (masked whole input mask) whole
  masked_beside input whole [] all m not = refl
  masked_beside input whole (path ∷ mask) all m not =
      masked_beside input (taken_over input whole path) mask (All-tail (IsTouched names) path mask all) m not
      ∙ taken_beside input whole path (All-head (IsTouched names) path mask all) m not

  -- ---- transforms

  changed_part : (at : Timestamp) (part whole : Entries) (t : Transform) → IsTouched names t.path → StandsFor names part whole → StandsFor names (transformed_by at part t) (transformed_by at whole t)
  changed_part at part whole t touched is =
      let n = touched.0 in let p = touched.1 in
      subst (λ q. StandsFor names (with_value_at part q (changed (value_at part q) t.change at)) (with_value_at whole q (changed (value_at whole q) t.change at))) (sym touched.2)
      (subst (λ f. StandsFor names f (with_value_at whole (n ∷ p) (changed (value_at whole (n ∷ p)) t.change at))) (sym (changed_set at t.change part n p))
      (subst (λ f. StandsFor names (set_to part n (changed_value at t.change p (field part n))) f) (sym (changed_set at t.change whole n p))
      (step_part n touched.3 (changed_value at t.change p) part whole is)))

  changed_beside : (at : Timestamp) (whole : Entries) (t : Transform) → IsTouched names t.path → SameBeside names (transformed_by at whole t) whole
  changed_beside at whole t touched =
      let n = touched.0 in let p = touched.1 in
      subst (λ q. SameBeside names (with_value_at whole q (changed (value_at whole q) t.change at)) whole) (sym touched.2)
      (subst (λ f. SameBeside names f whole) (sym (changed_set at t.change whole n p))
      (step_beside n touched.3 (changed_value at t.change p) whole))

  pub transformed_part : (at : Timestamp) (part whole : Entries) (ts : List Transform) → AreTouched names ts → StandsFor names part whole → StandsFor names (transformed at part ts) (transformed at whole ts)
  transformed_part at part whole [] all is = is
  transformed_part at part whole (t ∷ ts) all is =
      transformed_part at (transformed_by at part t) (transformed_by at whole t) ts (All-tail (λ x. IsTouched names x.path) t ts all)
      (changed_part at part whole t (All-head (λ x. IsTouched names x.path) t ts all) is)

  pub transformed_beside : (at : Timestamp) (whole : Entries) (ts : List Transform) → AreTouched names ts → SameBeside names (transformed at whole ts) whole
  transformed_beside at whole [] all m not = refl
  transformed_beside at whole (t ∷ ts) all m not =
      transformed_beside at (transformed_by at whole t) ts (All-tail (λ x. IsTouched names x.path) t ts all) m not
      ∙ changed_beside at whole t (All-head (λ x. IsTouched names x.path) t ts all) m not

-- what was put back is the whole
pub put_whole : (names part whole old mid new : Entries) → Completes names part old whole → SameBeside names mid old → SameAt names new part → SameBeside names new mid → AreFields new → new ≡ whole
put_whole names part whole old mid new is between here others are = map_laws.alike new whole are is.stands.whole_fields (λ n. elim (has_cases names n) [
  | inl has ↦ here n has ∙ is.stands.same n has
  | inr not ↦ others n not ∙ between n not ∙ sym (is.beside n not)
])

-- ---- what a mask makes of a part, it makes of all

module _ (names : Entries) (mask : List (List (List ℕ))) (touched : All (IsTouched names) mask) where
  item_touched : (path : List (List ℕ)) → Contains mask path → IsTouched names path
  item_touched path there = subst (IsTouched names) there.2 (touched there.0 path there.1)

  untouched : (n : List ℕ) (r : List (List ℕ)) (more : List (List ℕ)) (path : List (List ℕ)) → ¬ (HasName names n) → Contains mask path → path ≡ n ∷ more → ⊥
  untouched n r more path not there is =
      let t = item_touched path there in
      let heads : t.0 ∷ t.1 ≡ n ∷ more = sym t.2 ∙ is in
      let level : t.0 ≡ n = cc in
      not (subst (HasName names) level t.3)

  outside : (n : List ℕ) (r : List (List ℕ)) → ¬ (HasName names n) → ¬ (IsMasked mask (n ∷ r))
  outside n r not is =
      let t = item_touched is.0 is.1 in
      let heads : n ∷ r ≡ t.0 ∷ (t.1 ++ is.2.0) = is.2.1 ∙ ap (λ p. p ++ is.2.0) t.2 in
      let level : t.0 ≡ n = cc in
      not (subst (HasName names) level t.3)

  not_above : (n : List ℕ) (r : List (List ℕ)) → ¬ (HasName names n) → ¬ (IsAboveMask mask (n ∷ r))
  not_above n r not is = untouched n r (r ++ is.2.0 ∷ is.2.1) is.0 not is.1 is.2.2

  not_masked : ¬ (IsMasked mask [])
  not_masked is =
      let t = item_touched is.0 is.1 in
      let no : [] ≡ t.0 ∷ (t.1 ++ is.2.0) = is.2.1 ∙ ap (λ p. p ++ is.2.0) t.2 in
      absurd cc

  top_above : (path : List (List ℕ)) → Contains mask path → IsAboveMask mask []
  top_above path there = let t = item_touched path there in (path, there, (t.0, t.1, t.2))

  module _ (input part whole part' whole' : Entries) (same : SameAt names part whole) (same' : SameAt names part' whole') (beside : SameBeside names whole' whole) (empty : mask ≡ [] → whole' ≡ whole) (of_part : Masked part input mask part') where
    at_same : (f g : Entries) (n : List ℕ) (r : List (List ℕ)) → field f n ≡ field g n → value_at f (n ∷ r) ≡ value_at g (n ∷ r)
    at_same f g n r level = at_first f n r ∙ ap (option_and_then (λ d. value_in d r)) level ∙ sym (at_first g n r)

    masked_at : (path : List (List ℕ)) → IsMasked mask path → value_at whole' path ≡ value_at input path
    masked_at [] is = absurd (not_masked is)
    masked_at (n ∷ r) is = elim (has_cases names n) [
      | inl has ↦ sym (at_same part' whole' n r (same' n has)) ∙ of_part.masked (n ∷ r) is
      | inr not ↦ absurd (outside n r not is)
    ]

    made_at : (path : List (List ℕ)) → ¬ (IsMasked mask path) → IsFilledBelow input mask path → IsMap (value_at whole' path)
    made_at [] not filled = (whole', refl)
    made_at (n ∷ r) out filled = elim (has_cases names n) [
      | inl has ↦ subst IsMap (at_same part' whole' n r (same' n has)) (of_part.made (n ∷ r) out filled)
      | inr not ↦ absurd (not_above n r not (filled.0, filled.1, filled.2))
    ]

    maps_at : (path : List (List ℕ)) → ¬ (IsMasked mask path) → IsMap (value_at whole path) → IsMap (value_at whole' path)
    maps_at [] out map = (whole', refl)
    maps_at (n ∷ r) out map = elim (has_cases names n) [
      | inl has ↦ subst IsMap (at_same part' whole' n r (same' n has)) (of_part.maps (n ∷ r) out (subst IsMap (sym (at_same part whole n r (same n has))) map))
      | inr not ↦ subst IsMap (sym (at_same whole' whole n r (beside n not))) map
    ]

    left_at : (path : List (List ℕ)) → ¬ (IsMasked mask path) → ¬ (IsFilledBelow input mask path) → ¬ (IsMap (value_at whole path)) → value_at whole' path ≡ value_at whole path
    left_at [] out unfilled map = absurd (map (whole, refl))
    left_at (n ∷ r) out unfilled map = elim (has_cases names n) [
      | inl has ↦
          let level = at_same part whole n r (same n has) in
          sym (at_same part' whole' n r (same' n has)) ∙ of_part.left (n ∷ r) out unfilled (λ is. map (subst IsMap level is)) ∙ level
      | inr not ↦ at_same whole' whole n r (beside n not)
    ]

    elsewhere_at : (path : List (List ℕ)) → ¬ (IsMasked mask path) → ¬ (IsAboveMask mask path) → value_at whole' path ≡ value_at whole path
    elsewhere_at [] out above = ap (λ f. value_at f []) (empty (no_items mask (λ path there. above (top_above path there))))
      where
        no_items : (paths : List (List (List ℕ))) → ((path : List (List ℕ)) → ¬ (Contains paths path)) → paths ≡ []
        no_items [] none = refl
        no_items (path ∷ paths) none = absurd (none path (0, omega arith, refl))
    elsewhere_at (n ∷ r) out above = elim (has_cases names n) [
      | inl has ↦ sym (at_same part' whole' n r (same' n has)) ∙ of_part.elsewhere (n ∷ r) out above ∙ at_same part whole n r (same n has)
      | inr not ↦ at_same whole' whole n r (beside n not)
    ]

    pub masked_whole : Masked whole input mask whole'
    masked_whole = record { masked = masked_at; made = made_at; maps = maps_at; left = left_at; elsewhere = elsewhere_at }
