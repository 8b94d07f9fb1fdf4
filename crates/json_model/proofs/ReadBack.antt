-- What is printed of a value that can be stored is of the form, and spells it.
use Rattle.std.proofs.Common.{◌⊎◌, ◌≡◌, ℕ, ◌-◌, ◌<◌, ◌≤◌, suc, List, [], ◌∷◌, ◌++◌, length, get_or, false, not, ◌&&◌, cond, codes, Option, Some, None, is_some, Ordering, Equal, refl, sym, ap, subst, inl, inr, ◌∙◌, append-nil, append_assoc, arith}
use Rattle.std.specs.List.{All, AllPairs}
use Rattle.std.specs.Map.{keys_of}
use Rattle.std.specs.Fmt.{signed_decimal}
use Rattle.std.specs.Ordering.{nat_cmp, match_ordering}
use Rattle.std.specs.Option.{option_and_then}
use Rattle.std.specs.Cmp.Lexicographic.{slice_cmp}
use Rattle.std.proofs.lemmas.Cmp.{nat_list_cmp_total, tied_itself}
use Rattle.std.proofs.lemmas.Bool.{cases_lt}
use Rattle.std.proofs.lemmas.List.{get_or_past}
use Rattle.std.proofs.lemmas.List.Elements.{All-head, All-tail, All-get_or}
use Rattle.serde_json.specs.Data as json
use Rattle.serde_json.specs.Find.{as_object, get_member}
use Rattle.document_keys.specs.Names.{name_text}
use Rattle.document_keys.specs.Order.{TextBefore}
use Rattle.document_keys.specs.Paths.{IsFieldName}
use Rattle.document_keys.proofs.Order.{texts_compute}
use Rattle.value_model.specs.Data.{Data, null, boolean, integer, time, pending, text, bytes, reference, array, map, Items, no_items, item, Members, no_members, member, Entries, members_of, list_of, entries_of, depth, items_depth, members_depth, entries_depth}
use Rattle.value_model.specs.Fields.{with_field}
use Rattle.value_model.specs.Storable.{IsStorable, AreStorableItems, AreStorableMembers, AreStorable, AreStorableBytes}
use Rattle.value_model.specs.Time.{time_text, TimesReadBack}
use Rattle.json_model.specs.declared.place.Place.{Place}
use Rattle.json_model.specs.declared.place.Place.TheVariants as place
use Rattle.json_model.specs.declared.place.Object.TheVariants as object
use Rattle.json_model.specs.declared.place.Series.TheVariants as series
use Rattle.json_model.specs.declared.place.Leaf.TheVariants as leaf
use Rattle.json_model.specs.Bytes.{SpellsBytes, printed_bytes}
use Rattle.json_model.specs.Faults.{FieldsFaults, max_nesting}
use Rattle.json_model.specs.Fits.{Fits, ItemsFit, MembersFit}
use Rattle.json_model.specs.Grammar.{SpellsValue, of_kind, SpellsKind, as_scalar, as_array as by_array, as_map as by_map, no_list, a_list, SpellsItems, no_item, an_item, no_map, a_map, SpellsMembers, no_member, a_member, SpellsFields}
use Rattle.json_model.specs.Members.{is_vector, has_type, is_null, is_left_out, chosen, is_one_known, given, unless_null}
use Rattle.json_model.specs.Numbers.{SpellsWhole, as_text as by_text}
use Rattle.json_model.specs.Origin.{Origin}
use Rattle.json_model.specs.Places.{value_member, value_rows, is_unknown}
use Rattle.json_model.specs.Printed.{printed_value, printed_items, printed_members, printed_fields, values_tree, fields_tree}
use Rattle.json_model.specs.References.{SpellsReference, root_of}
use Rattle.json_model.specs.Trees.{one}
use Rattle.json_model.proofs.Fitting.{fits_clean, object_fits, flat_object_fits}
use Rattle.value_model.proofs.Parts.{items_list, entries_members, members_entries}
use Rattle.value_model.proofs.Places.{compared_below}

-- a tree that spells the value, and is of the form where there are levels enough
record Back (tree : json.Data) (v : Data) : Type 0 where
  spelled : SpellsValue tree v
  fit : (o : Origin) (limit : ℕ) → depth v ≤ limit → Fits o limit (place.Object object.Value) tree

-- a value of one kind
one_back : (name : List ℕ) (inner : json.Data) (v : Data) (p : Place) → value_member name ≡ p → is_unknown p ≡ false → is_left_out p inner ≡ false → SpellsKind p inner v
    → ((o : Origin) (limit : ℕ) → depth v ≤ limit → Fits o limit p inner) → Back (one name inner) v
unfolding Fits
one_back name inner v p at told kept kind fit =
    let only : chosen object.Value (json.member name inner json.no_members) ≡ (name, inner) ∷ [] =
    ap (λ q. cond (not (is_unknown q) && not (is_left_out q inner)) ((name, inner) ∷ []) []) at ∙ (λ i. cond (not (told i) && not (kept i)) ((name, inner) ∷ []) []) in
    record {
      spelled = of_kind (json.member name inner json.no_members) name inner refl only (subst (λ q. SpellsKind q inner v) (sym at) kind);
      fit = λ o limit deep. flat_object_fits o limit object.Value (json.member name inner json.no_members)
          (ap (λ l. not (is_one_known object.Value l)) only ∙ ap (λ q. not (not (is_unknown q))) at ∙ ap (λ b. not (not b)) told) refl refl
          (refl, inr (ap (λ q. is_left_out q inner) at ∙ kept, (tt, subst (λ q. Fits o limit q inner) (sym at) (fit o limit deep))), refl);
    }

same_text : (xs : List ℕ) → slice_cmp nat_cmp xs xs ≡ Equal
same_text xs = tied_itself nat_list_cmp_total xs

given_one : (name : List ℕ) (inner : json.Data) → is_null inner ≡ false → given name (json.member name inner json.no_members) ≡ Some inner
given_one name inner some = ap (λ o. option_and_then unless_null (match_ordering o None (Some inner) None)) (same_text name) ∙ ap (λ b. cond b None (Some inner)) some

-- no field has a reserved name
unless_same : (n : List ℕ) (o : Ordering) (e : json.Data) (rest : Option json.Data) → slice_cmp nat_cmp (codes "__type__") n ≡ o → IsFieldName n → rest ≡ None → match_ordering o rest (Some e) rest ≡ None
unless_same n Equal e rest is names none = absurd (names.free (codes "type", sym (texts_compute.exact (codes "__type__") n is)))
unless_same n _ e rest is names none = none

no_type : (ms : Members) → All IsFieldName (keys_of (entries_of ms)) → get_member (codes "__type__") (printed_members ms) ≡ None
no_type no_members names = refl
no_type (member n d ms) names =
    unless_same n (slice_cmp nat_cmp (codes "__type__") n) (printed_value d) (get_member (codes "__type__") (printed_members ms)) refl (All-head IsFieldName n (keys_of (entries_of ms)) names) (no_type ms (All-tail IsFieldName n (keys_of (entries_of ms)) names))

untyped : (ms : Members) → All IsFieldName (keys_of (entries_of ms)) → is_vector (json.member (codes "fields") (json.object (printed_members ms)) json.no_members) ≡ false
untyped ms names = ap (λ o. has_type (option_and_then as_object o)) (given_one (codes "fields") (json.object (printed_members ms)) refl) ∙ ap (λ o. is_some (option_and_then unless_null o)) (no_type ms names)

printed_some : (v : Data) → is_null (printed_value v) ≡ false
printed_some null = refl
printed_some _ = refl

-- a name that comes after all others goes last
pub put_end : (es rest : Entries) (n : List ℕ) (v : Data) → AllPairs TextBefore (keys_of (es ++ (n, v) ∷ rest)) → with_field es n v ≡ es ++ (n, v) ∷ []
put_end [] rest n v pairs = refl
put_end (e ∷ es) rest n v pairs =
    rw (compared_below e.0 n (first es pairs)) (ap (λ l. e ∷ l) (put_end es rest n v (λ i j d less within. pairs (suc i) (suc j) d (omega arith) (omega arith))))
  where
    at : (fs : Entries) → get_or (keys_of (fs ++ (n, v) ∷ rest)) (length fs) n ≡ n
    at [] = refl
    at (f ∷ fs) = at fs

    long : (fs : Entries) → length fs < length (keys_of (fs ++ (n, v) ∷ rest))
    long [] = omega arith
    long (f ∷ fs) = let more = long fs in omega arith

    first : (fs : Entries) → AllPairs TextBefore (keys_of (e ∷ (fs ++ (n, v) ∷ rest))) → TextBefore e.0 n
    first fs all = let more = long fs in subst (TextBefore e.0) (at fs) (all 0 (suc (length fs)) n (omega arith) (omega arith))

bytes_spelled : (s : List ℕ) → AreStorableBytes s → SpellsBytes (printed_bytes s) s
bytes_spelled s are = record { each = λ i. by i (cases_lt i (length s)); is = inl refl }
  where
    by : (i : ℕ) → (i < length s) ⊎ (length s ≤ i) → get_or s i 0 < 256
    by i (inl within) = All-get_or (λ byte. byte < 256) s i 0 within are.each
    by i (inr past) = rw (get_or_past s i 0 past) (omega arith)

values_some : (ds : json.Items) → is_null (values_tree ds) ≡ false
values_some json.no_items = refl
values_some (json.item d ds) = refl

fields_some : (ms : json.Members) → is_null (fields_tree ms) ≡ false
fields_some json.no_members = refl
fields_some (json.member n d ms) = refl

-- ---- arrays and maps

array_back : (ds : Items) → SpellsItems (printed_items ds) (list_of ds) → SpellsKind (place.Object object.Array) (values_tree (printed_items ds)) (array ds)
array_back no_items items = by_array json.no_members [] refl no_list refl
array_back (item d ds) items =
    by_array (json.member (codes "values") (json.array (printed_items (item d ds))) json.no_members) (list_of (item d ds)) refl (a_list (printed_items (item d ds)) _ refl items) (ap array (sym (items_list (item d ds))))

array_fits : (o : Origin) (limit : ℕ) (ds : Items) → depth (array ds) ≤ limit → ItemsFit o (limit - 1) series.Values (printed_items ds) → Fits o limit (place.Object object.Array) (values_tree (printed_items ds))
unfolding Fits
array_fits o limit no_items deep items = object_fits o limit object.Array json.no_members 1 refl refl refl (omega arith) refl
array_fits o limit (item d ds) deep items = object_fits o limit object.Array _ 1 refl refl refl (omega arith) (refl, inr (refl, (tt, (refl, items))), refl)

map_back : (ms : Members) → SpellsMembers (printed_members ms) [] (entries_of ms) → SpellsKind (place.Object object.Map) (fields_tree (printed_members ms)) (map ms)
map_back no_members members = by_map json.no_members [] refl no_map refl
map_back (member n d ms) members =
    let tree = json.object (printed_members (member n d ms)) in
    by_map (json.member (codes "fields") tree json.no_members) (entries_of (member n d ms)) refl (a_map (printed_members (member n d ms)) tree refl members) (ap map (sym (members_entries (member n d ms))))

fields_fit : (o : Origin) (limit : ℕ) (ms : json.Members) → MembersFit o limit object.Fields [] ms → Fits o limit (place.Object object.Fields) (json.object ms)
fields_fit o limit ms members = flat_object_fits o limit object.Fields ms refl refl refl members

map_fits : (o : Origin) (limit : ℕ) (ms : Members) → depth (map ms) ≤ limit → All IsFieldName (keys_of (entries_of ms)) → MembersFit o (limit - 1) object.Fields [] (printed_members ms) → Fits o limit (place.Object object.Map) (fields_tree (printed_members ms))
unfolding Fits
map_fits o limit no_members deep names members = object_fits o limit object.Map json.no_members 1 refl refl refl (omega arith) refl
map_fits o limit (member n d ms) deep names members =
    object_fits o limit object.Map _ 1 refl (untyped (member n d ms) names) refl (omega arith) (refl, inr (refl, (tt, fields_fit o (limit - 1) (printed_members (member n d ms)) members)), refl)

-- ---- values

mutual
  unfolding Fits value_rows

  value_back : TimesReadBack → (v : Data) → IsStorable v → Back (printed_value v) v
  value_back times null s = one_back (codes "nullValue") _ _ (place.Leaf leaf.Null) refl refl refl (as_scalar (inl refl, refl)) (λ o limit deep. inl refl)
  value_back times (boolean b) s = one_back (codes "booleanValue") _ _ (place.Leaf leaf.Boolean) refl refl refl (as_scalar (b, (refl, refl))) (λ o limit deep. (b, refl))
  value_back times (integer z) s =
      let whole : SpellsWhole (json.string (signed_decimal z)) z = by_text (signed_decimal z) refl (record { fits = s; is = inl refl }) in
      one_back (codes "integerValue") _ _ (place.Leaf leaf.Integer) refl refl refl (as_scalar (z, (whole, refl))) (λ o limit deep. (z, whole))
  value_back times (time t) s = one_back (codes "timestampValue") _ _ (place.Leaf leaf.Time) refl refl refl (as_scalar (t, ((time_text t, (refl, times t s)), refl)))
      (λ o limit deep. (time_text t, (refl, (t, times t s))))
  value_back times (pending t) s = absurd s
  value_back times (text content) s = one_back (codes "stringValue") _ _ (place.Leaf leaf.Text) refl refl refl (as_scalar (content, (refl, refl))) (λ o limit deep. (content, refl))
  value_back times (bytes content) s =
      let is = bytes_spelled content s in
      one_back (codes "bytesValue") _ _ (place.Leaf leaf.Bytes) refl refl refl (as_scalar (content, ((printed_bytes content, (refl, is)), refl)))
      (λ o limit deep. (printed_bytes content, (refl, (content, is))))
  value_back times (reference r) s =
      let is : SpellsReference (name_text (root_of r) r.key) r = record { database = record { project = s.project.sound; name = s.database.sound }; names = s.key.sound; is = refl } in
      one_back (codes "referenceValue") _ _ (place.Leaf leaf.Reference) refl refl refl (as_scalar (r, ((name_text (root_of r) r.key, (refl, is)), refl)))
      (λ o limit deep. (name_text (root_of r) r.key, (refl, (r, is))))
  value_back times (array ds) s =
      one_back (codes "arrayValue") _ _ (place.Object object.Array) refl refl (values_some (printed_items ds)) (array_back ds (items_spelled times ds s.0))
      (λ o limit deep. array_fits o limit ds deep (items_fit times o (limit - 1) ds s.0 (omega arith)))
  value_back times (map ms) s =
      one_back (codes "mapValue") _ _ (place.Object object.Map) refl refl (fields_some (printed_members ms)) (map_back ms (members_spelled times ms s.1 [] s.0.sound.ascending))
      (λ o limit deep. map_fits o limit ms deep s.0.sound.names (members_fit times o (limit - 1) ms s.1 (omega arith) s.0.sound.names))

  pub items_spelled : TimesReadBack → (ds : Items) → AreStorableItems ds → SpellsItems (printed_items ds) (list_of ds)
  items_spelled times no_items s = no_item
  items_spelled times (item d ds) s = an_item (value_back times d s.0).spelled (items_spelled times ds s.1)

  pub items_fit : TimesReadBack → (o : Origin) (limit : ℕ) (ds : Items) → AreStorableItems ds → items_depth ds ≤ limit → ItemsFit o limit series.Values (printed_items ds)
  items_fit times o limit no_items s deep = tt
  items_fit times o limit (item d ds) s deep = ((value_back times d s.0).fit o limit (omega arith), items_fit times o limit ds s.1 (omega arith))

  members_spelled : TimesReadBack → (ms : Members) → AreStorableMembers ms → (start : Entries) → AllPairs TextBefore (keys_of (start ++ entries_of ms)) → SpellsMembers (printed_members ms) start (start ++ entries_of ms)
  members_spelled times no_members s start pairs = subst (SpellsMembers json.no_members start) (sym (append-nil start)) no_member
  members_spelled times (member n d ms) s start pairs =
      let put = put_end start (entries_of ms) n d pairs in
      let joined = append_assoc start ((n, d) ∷ []) (entries_of ms) in
      let rest = members_spelled times ms s.1 (start ++ (n, d) ∷ []) (subst (λ l. AllPairs TextBefore (keys_of l)) (sym joined) pairs) in
      a_member d (printed_some d) (value_back times d s.0).spelled (subst (λ l. SpellsMembers (printed_members ms) l (start ++ (n, d) ∷ entries_of ms)) (sym put) (subst (SpellsMembers (printed_members ms) (start ++ (n, d) ∷ [])) joined rest))

  members_fit : TimesReadBack → (o : Origin) (limit : ℕ) (ms : Members) → AreStorableMembers ms → members_depth ms ≤ limit → All IsFieldName (keys_of (entries_of ms)) → MembersFit o limit object.Fields [] (printed_members ms)
  members_fit times o limit no_members s deep names = refl
  members_fit times o limit (member n d ms) s deep names =
      (refl, inr (printed_some d, (All-head IsFieldName n (keys_of (entries_of ms)) names, (value_back times d s.0).fit o limit (omega arith))), members_fit times o limit ms s.1 (omega arith) (All-tail IsFieldName n (keys_of (entries_of ms)) names))

-- fields that can be stored
pub fields_spelled : TimesReadBack → (es : Entries) → AreStorable es → SpellsFields (printed_fields es) es
fields_spelled times es s = record {
  members = printed_members (members_of es);
  is = refl;
  spelled = subst (SpellsMembers (printed_members (members_of es)) []) (entries_members es)
      (members_spelled times (members_of es) s.1 [] (subst (λ l. AllPairs TextBefore (keys_of l)) (sym (entries_members es)) s.0.sound.ascending));
}

pub printed_fits : TimesReadBack → (o : Origin) (limit : ℕ) (es : Entries) → AreStorable es → entries_depth es ≤ limit → Fits o limit (place.Object object.Fields) (printed_fields es)
printed_fits times o limit es s deep =
    fields_fit o limit (printed_members (members_of es)) (members_fit times o limit (members_of es) s.1 deep (subst (λ l. All IsFieldName (keys_of l)) (sym (entries_members es)) s.0.sound.names))

pub fields_back : TimesReadBack → (o : Origin) (es : Entries) → AreStorable es → entries_depth es ≤ max_nesting → FieldsFaults o (printed_fields es) [] × SpellsFields (printed_fields es) es
fields_back times o es s deep = (fits_clean o max_nesting (place.Object object.Fields) (codes "fields") (printed_fields es) (printed_fits times o max_nesting es s deep), fields_spelled times es s)
