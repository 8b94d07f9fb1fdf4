-- The forms of values and fields, kind by kind: the byte that begins a value tells its kind.
use Rattle.std.proofs.Common.{◌≡◌, ◌≢◌, ℕ, suc, zero, ◌≤◌, Bool, List, [], ◌∷◌, ◌++◌, length, refl, sym, ap, subst, ◌∙◌, append_assoc, arith, ℤ}
use Rattle.std.specs.List.{AllByRecursion, All, flat_map}
use Rattle.std.specs.Map.{keys_of}
use Rattle.std.specs.Str.{IsUtf8}
use Rattle.std.proofs.lemmas.List.Elements.{All-head, All-tail, All-from_recursion, recursion_from_All}
use Rattle.document_keys.specs.Paths.{IsFieldName}
use Rattle.value_model.specs.Data as kind
use Rattle.value_model.specs.Data.{Data, Items, Members, Entries, items_of, list_of, members_of, entries_of, array_of, map_of, items_depth, entries_depth}
use Rattle.value_model.specs.Storable.{IsStorable, AreStorableItems, AreStorableMembers}
use Rattle.value_model.specs.declared.timestamp.Timestamp.{Timestamp}
use Rattle.value_model.specs.declared.reference.RefName.{RefName}
use Rattle.value_model.proofs.Parts.{list_items, items_list, entries_members, members_entries}
use Rattle.record_parts.specs.Spelling.{number, text, many, value, items, members, entry, fields, AreSpelled, IsNameText, IsSpelledValue, AreSpelledFields}
use Rattle.record_parts.specs.Reading.{BeginsNone}
use Rattle.record_parts.proofs.Wide.{IsUnique}
use Rattle.record_parts.proofs.Forms.{unique_narrower}
use Rattle.record_parts.proofs.Basics.{flag, whole_number, moment, text_form, plain_bytes, field_name, document_name}
use Rattle.record_parts.proofs.Combine.{Form, Made, IsKind, HasKind, has_kind, IsTagged, empty, both, list, unique_kinds, tag_first, no_tag, other_tag}

-- the byte of a kind
abbrev pub tag_of : Data → ℕ
tag_of kind.null = 0
tag_of (kind.boolean b) = 1
tag_of (kind.integer z) = 2
tag_of (kind.time t) = 3
tag_of (kind.pending t) = 4
tag_of (kind.text s) = 5
tag_of (kind.bytes s) = 6
tag_of (kind.reference r) = 7
tag_of (kind.array ds) = 8
tag_of (kind.map ms) = 9

pub null_is : (d : Data) → tag_of d ≡ 0 → d ≡ kind.null
null_is kind.null e = refl
null_is d e = absurd (omega (arith, e))

pub boolean_is : (d : Data) → tag_of d ≡ 1 → (b : Bool) × (d ≡ kind.boolean b)
boolean_is (kind.boolean b) e = (b, refl)
boolean_is d e = absurd (omega (arith, e))

pub integer_is : (d : Data) → tag_of d ≡ 2 → (z : ℤ) × (d ≡ kind.integer z)
integer_is (kind.integer z) e = (z, refl)
integer_is d e = absurd (omega (arith, e))

pub time_is : (d : Data) → tag_of d ≡ 3 → (t : Timestamp) × (d ≡ kind.time t)
time_is (kind.time t) e = (t, refl)
time_is d e = absurd (omega (arith, e))

pub text_is : (d : Data) → tag_of d ≡ 5 → (s : List ℕ) × (d ≡ kind.text s)
text_is (kind.text s) e = (s, refl)
text_is d e = absurd (omega (arith, e))

pub bytes_is : (d : Data) → tag_of d ≡ 6 → (s : List ℕ) × (d ≡ kind.bytes s)
bytes_is (kind.bytes s) e = (s, refl)
bytes_is d e = absurd (omega (arith, e))

pub reference_is : (d : Data) → tag_of d ≡ 7 → (r : RefName) × (d ≡ kind.reference r)
reference_is (kind.reference r) e = (r, refl)
reference_is d e = absurd (omega (arith, e))

pub array_is : (d : Data) → tag_of d ≡ 8 → (ds : Items) × (d ≡ kind.array ds)
array_is (kind.array ds) e = (ds, refl)
array_is d e = absurd (omega (arith, e))

pub map_is : (d : Data) → tag_of d ≡ 9 → (ms : Members) × (d ≡ kind.map ms)
map_is (kind.map ms) e = (ms, refl)
map_is d e = absurd (omega (arith, e))

pub value_tagged : IsTagged value tag_of
unfolding value
value_tagged kind.null = refl
value_tagged (kind.boolean b) = refl
value_tagged (kind.integer z) = refl
value_tagged (kind.time t) = refl
value_tagged (kind.pending t) = refl
value_tagged (kind.text s) = refl
value_tagged (kind.bytes s) = refl
value_tagged (kind.reference r) = refl
value_tagged (kind.array ds) = refl
value_tagged (kind.map ms) = refl

-- no other byte begins a value that can be stored
pub tag_small : (d : Data) → tag_of d ≤ 9
tag_small kind.null = omega arith
tag_small (kind.integer z) = omega arith
tag_small d = omega arith

pub not_pending : (d : Data) → IsStorable d → tag_of d ≢ 4
not_pending (kind.pending t) holds e = holds
not_pending d holds e = absurd (omega (arith, e))

pub no_bytes : (limit : ℕ) (bytes : List ℕ) → length bytes ≡ 0 → BeginsNone value (IsSpelledValue limit) bytes
no_bytes limit [] none = no_tag value_tagged [] refl
no_bytes limit (byte ∷ bytes) none = absurd (omega (arith, none))

pub value_other : (limit tag : ℕ) → tag ≢ 0 → tag ≢ 1 → tag ≢ 2 → tag ≢ 3 → tag ≢ 5 → tag ≢ 6 → tag ≢ 7 → tag ≢ 8 → tag ≢ 9 → (bytes : List ℕ) → BeginsNone value (IsSpelledValue limit) (tag ∷ bytes)
value_other limit tag a b c d e f g h i bytes = other_tag value_tagged (tag ∷ bytes) tag bytes refl (λ v fits is.
    let small = tag_small v in
    let four : tag ≢ 4 = λ four. not_pending v fits.storable (is ∙ four) in
    absurd (omega (arith, is, small, a, b, c, d, e, f, g, h, i, four)))

-- ---- kinds without values inside

null_made : (d : Data) → tag_of d ≡ 0 → Made (λ _. kind.null) empty d
null_made d tag = record { content = tt; is = null_is d tag; fits = tt }

pub null_kind : (limit : ℕ) → IsKind value (IsSpelledValue limit) (0 ∷ []) (λ _. kind.null) empty
unfolding value
null_kind limit = record { on = λ x. refl; fits = λ x fits. record { storable = tt; nested = omega arith }; back = λ d rest bytes e fits. null_made d (tag_first value_tagged d rest bytes 0 e) }

boolean_made : (d : Data) → tag_of d ≡ 1 → Made kind.boolean flag d
boolean_made d tag = let is = boolean_is d tag in record { content = is.0; is = is.1; fits = tt }

pub boolean_kind : (limit : ℕ) → IsKind value (IsSpelledValue limit) (1 ∷ []) kind.boolean flag
unfolding value
boolean_kind limit = record { on = λ x. refl; fits = λ x fits. record { storable = tt; nested = omega arith }; back = λ d rest bytes e fits. boolean_made d (tag_first value_tagged d rest bytes 1 e) }

integer_made : (d : Data) → tag_of d ≡ 2 → IsStorable d → Made kind.integer whole_number d
integer_made d tag holds = let is = integer_is d tag in record { content = is.0; is = is.1; fits = subst IsStorable is.1 holds }

pub integer_kind : (limit : ℕ) → IsKind value (IsSpelledValue limit) (2 ∷ []) kind.integer whole_number
unfolding value
integer_kind limit = record { on = λ x. refl; fits = λ x fits. record { storable = fits; nested = omega arith }; back = λ d rest bytes e fits. integer_made d (tag_first value_tagged d rest bytes 2 e) fits.storable }

time_made : (d : Data) → tag_of d ≡ 3 → IsStorable d → Made kind.time moment d
time_made d tag holds = let is = time_is d tag in record { content = is.0; is = is.1; fits = subst IsStorable is.1 holds }

pub time_kind : (limit : ℕ) → IsKind value (IsSpelledValue limit) (3 ∷ []) kind.time moment
unfolding value
time_kind limit = record { on = λ x. refl; fits = λ x fits. record { storable = fits; nested = omega arith }; back = λ d rest bytes e fits. time_made d (tag_first value_tagged d rest bytes 3 e) fits.storable }

text_made : (d : Data) → tag_of d ≡ 5 → IsStorable d → Made kind.text text_form d
text_made d tag holds = let is = text_is d tag in record { content = is.0; is = is.1; fits = let held = subst IsStorable is.1 holds in record { utf8 = held.utf8; many = held.count } }

pub text_kind : (limit : ℕ) → IsKind value (IsSpelledValue limit) (5 ∷ []) kind.text text_form
unfolding value
text_kind limit = record { on = λ x. refl; fits = λ x fits. record { storable = record { utf8 = fits.utf8; count = fits.many }; nested = omega arith }; back = λ d rest bytes e fits. text_made d (tag_first value_tagged d rest bytes 5 e) fits.storable }

bytes_made : (d : Data) → tag_of d ≡ 6 → IsStorable d → Made kind.bytes plain_bytes d
bytes_made d tag holds = let is = bytes_is d tag in record { content = is.0; is = is.1; fits = subst IsStorable is.1 holds }

pub bytes_kind : (limit : ℕ) → IsKind value (IsSpelledValue limit) (6 ∷ []) kind.bytes plain_bytes
unfolding value
bytes_kind limit = record { on = λ x. refl; fits = λ x fits. record { storable = fits; nested = omega arith }; back = λ d rest bytes e fits. bytes_made d (tag_first value_tagged d rest bytes 6 e) fits.storable }

reference_made : (d : Data) → tag_of d ≡ 7 → IsStorable d → Made kind.reference document_name d
reference_made d tag holds = let is = reference_is d tag in record { content = is.0; is = is.1; fits = subst IsStorable is.1 holds }

pub reference_kind : (limit : ℕ) → IsKind value (IsSpelledValue limit) (7 ∷ []) kind.reference document_name
unfolding value
reference_kind limit = record { on = λ x. refl; fits = λ x fits. record { storable = fits; nested = omega arith }; back = λ d rest bytes e fits. reference_made d (tag_first value_tagged d rest bytes 7 e) fits.storable }

-- ---- arrays

-- values nested at most so deep, given that no spelling of one is a front of another's
abbrev pub values : (limit : ℕ) → IsUnique value (IsSpelledValue limit) → Form Data
values limit unique = record { spell = value; Fits = IsSpelledValue limit; unique = unique }

items_flat : (ds : Items) → items ds ≡ flat_map value (list_of ds)
unfolding items
items_flat kind.no_items = refl
items_flat (kind.item d ds) = ap (λ (r : List ℕ). value d ++ r) (items_flat ds)

items_fit : (limit : ℕ) (ds : List Data) → AllByRecursion (IsSpelledValue limit) ds → AreStorableItems (items_of ds) × (items_depth (items_of ds) ≤ limit)
items_fit limit [] all = (tt, omega arith)
items_fit limit (d ∷ ds) all = let rest = items_fit limit ds all.1 in ((all.0.storable, rest.0), omega (arith, all.0.nested, rest.1))

fit_items : (limit : ℕ) (ds : Items) → AreStorableItems ds → items_depth ds ≤ limit → AllByRecursion (IsSpelledValue limit) (list_of ds)
fit_items limit kind.no_items holds nested = tt
fit_items limit (kind.item d ds) holds nested = (record { storable = holds.0; nested = omega (arith, nested) }, fit_items limit ds holds.1 (omega (arith, nested)))

pub array_value : (ds : List Data) → value (array_of ds) ≡ 8 ∷ many value ds
unfolding value
array_value ds = ap (λ (r : List ℕ). 8 ∷ r) (ap (λ (xs : List Data). number (length xs) ++ items (items_of ds)) (list_items ds)
    ∙ ap (λ (r : List ℕ). number (length ds) ++ r) (items_flat (items_of ds) ∙ ap (flat_map value) (list_items ds)))

array_back : (limit : ℕ) (ds : Items) → IsSpelledValue (suc limit) (kind.array ds) → AreSpelled (IsSpelledValue limit) (list_of ds)
array_back limit ds fits = record { count = fits.storable.1; each = All-from_recursion (IsSpelledValue limit) (list_of ds) (fit_items limit ds fits.storable.0 (omega (arith, fits.nested))) }

array_made : (limit : ℕ) (u : IsUnique value (IsSpelledValue limit)) (d : Data) → tag_of d ≡ 8 → IsSpelledValue (suc limit) d → Made array_of (list (values limit u)) d
array_made limit u d tag fits =
    let is = array_is d tag in
    record { content = list_of is.0; is = is.1 ∙ ap kind.array (sym (items_list is.0)); fits = array_back limit is.0 (subst (IsSpelledValue (suc limit)) is.1 fits) }

array_fits : (limit : ℕ) (ds : List Data) → AreSpelled (IsSpelledValue limit) ds → IsSpelledValue (suc limit) (array_of ds)
array_fits limit ds fits = let f = items_fit limit ds (recursion_from_All (IsSpelledValue limit) ds fits.each) in record { storable = (f.0, rw (list_items ds) fits.count); nested = omega (arith, f.1) }

pub array_kind : (limit : ℕ) (u : IsUnique value (IsSpelledValue limit)) → IsKind value (IsSpelledValue (suc limit)) (8 ∷ []) array_of (list (values limit u))
array_kind limit u = record { on = array_value; fits = array_fits limit; back = λ d rest bytes e fits. array_made limit u d (tag_first value_tagged d rest bytes 8 e) fits }

pub no_array : (bytes : List ℕ) → BeginsNone value (IsSpelledValue 0) (8 ∷ bytes)
no_array bytes d more b =
    let is = array_is d (tag_first value_tagged d more bytes 8 (sym b.parts)) in
    let fits : IsSpelledValue 0 (kind.array is.0) = subst (IsSpelledValue 0) is.1 b.fits in
    omega (arith, fits.nested)

-- ---- fields and maps

-- a field that has a spelling, as contracts see it
pub record IsSpelledEntry (limit : ℕ) (e : List ℕ × Data) : Type 0 where
  pub name : IsNameText e.0
  pub value : IsSpelledValue limit e.1

unique_entry : (limit : ℕ) → IsUnique value (IsSpelledValue limit) → IsUnique entry (IsSpelledEntry limit)
unfolding entry
unique_entry limit u a b s t fits_a fits_b e = (both field_name (values limit u)).unique a b s t (fits_a.name, fits_a.value) (fits_b.name, fits_b.value) e

members_flat : (ms : Members) → members ms ≡ flat_map entry (entries_of ms)
unfolding members entry
members_flat kind.no_members = refl
members_flat (kind.member n d ms) = ap (λ (r : List ℕ). text n ++ (value d ++ r)) (members_flat ms) ∙ sym (append_assoc (text n) (value d) (flat_map entry (entries_of ms)))

pub map_value : (es : Entries) → value (map_of es) ≡ 9 ∷ fields es
unfolding value fields
map_value es = ap (λ (r : List ℕ). 9 ∷ r) (ap (λ (xs : Entries). number (length xs) ++ members (members_of es)) (entries_members es)
    ∙ ap (λ (r : List ℕ). number (length es) ++ r) (members_flat (members_of es) ∙ ap (flat_map entry) (entries_members es)))

spelled_each : (limit : ℕ) (es : Entries) → All IsFieldName (keys_of es) → All IsUtf8 (keys_of es) → AreStorableMembers (members_of es) → entries_depth es ≤ limit → AllByRecursion (IsSpelledEntry limit) es
spelled_each limit [] names utf8 holds nested = tt
spelled_each limit (e ∷ es) names utf8 holds nested = (
  record { name = record { utf8 = All-head IsUtf8 e.0 (keys_of es) utf8; field = All-head IsFieldName e.0 (keys_of es) names }; value = record { storable = holds.0; nested = omega (arith, nested) } },
  spelled_each limit es (All-tail IsFieldName e.0 (keys_of es) names) (All-tail IsUtf8 e.0 (keys_of es) utf8) holds.1 (omega (arith, nested)),
)

pub spelled_entries : (limit : ℕ) (es : Entries) → AreSpelledFields limit es → AreSpelled (IsSpelledEntry limit) es
spelled_entries limit es fits = record { count = fits.storable.0.count; each = All-from_recursion (IsSpelledEntry limit) es (spelled_each limit es fits.storable.0.sound.names fits.storable.0.utf8 fits.storable.1 fits.nested) }

pub unique_entries : (limit : ℕ) → IsUnique value (IsSpelledValue limit) → IsUnique fields (AreSpelled (IsSpelledEntry limit))
unfolding fields
unique_entries limit u = (list (record { spell = entry; Fits = IsSpelledEntry limit; unique = unique_entry limit u })).unique

pub unique_fields_of : (limit : ℕ) → IsUnique value (IsSpelledValue limit) → IsUnique fields (AreSpelledFields limit)
unique_fields_of limit u = unique_narrower fields (AreSpelled (IsSpelledEntry limit)) (AreSpelledFields limit) (spelled_entries limit) (unique_entries limit u)

abbrev pub fields_of_values : (limit : ℕ) → IsUnique value (IsSpelledValue limit) → Form Entries
fields_of_values limit u = record { spell = fields; Fits = AreSpelledFields limit; unique = unique_fields_of limit u }

map_fits : (limit : ℕ) (es : Entries) → AreSpelledFields limit es → IsSpelledValue (suc limit) (map_of es)
map_fits limit es fits = record { storable = (rw (entries_members es) fits.storable.0, fits.storable.1); nested = omega (arith, fits.nested) }

map_back : (limit : ℕ) (ms : Members) → IsSpelledValue (suc limit) (kind.map ms) → AreSpelledFields limit (entries_of ms)
map_back limit ms fits = record { storable = (fits.storable.0, rw (members_entries ms) fits.storable.1); nested = rw (members_entries ms) (omega (arith, fits.nested)) }

map_made : (limit : ℕ) (u : IsUnique value (IsSpelledValue limit)) (d : Data) → tag_of d ≡ 9 → IsSpelledValue (suc limit) d → Made map_of (fields_of_values limit u) d
map_made limit u d tag fits =
    let is = map_is d tag in
    record { content = entries_of is.0; is = is.1 ∙ ap kind.map (sym (members_entries is.0)); fits = map_back limit is.0 (subst (IsSpelledValue (suc limit)) is.1 fits) }

pub map_kind : (limit : ℕ) (u : IsUnique value (IsSpelledValue limit)) → IsKind value (IsSpelledValue (suc limit)) (9 ∷ []) map_of (fields_of_values limit u)
map_kind limit u = record { on = map_value; fits = map_fits limit; back = λ d rest bytes e fits. map_made limit u d (tag_first value_tagged d rest bytes 9 e) fits }

pub no_map : (bytes : List ℕ) → BeginsNone value (IsSpelledValue 0) (9 ∷ bytes)
no_map bytes d more b =
    let is = map_is d (tag_first value_tagged d more bytes 9 (sym b.parts)) in
    let fits : IsSpelledValue 0 (kind.map is.0) = subst (IsSpelledValue 0) is.1 b.fits in
    omega (arith, fits.nested)

-- ---- one value at the front

-- the kind of a value, given those of arrays and maps
value_kinds : (limit : ℕ) → ((ds : Items) → IsSpelledValue limit (kind.array ds) → HasKind value (IsSpelledValue limit) (kind.array ds)) → ((ms : Members) → IsSpelledValue limit (kind.map ms) → HasKind value (IsSpelledValue limit) (kind.map ms))
    → (d : Data) → IsSpelledValue limit d → HasKind value (IsSpelledValue limit) d
value_kinds limit arrays maps kind.null fits = has_kind (null_kind limit) kind.null (null_made kind.null refl)
value_kinds limit arrays maps (kind.boolean x) fits = has_kind (boolean_kind limit) (kind.boolean x) (boolean_made (kind.boolean x) refl)
value_kinds limit arrays maps (kind.integer x) fits = has_kind (integer_kind limit) (kind.integer x) (integer_made (kind.integer x) refl fits.storable)
value_kinds limit arrays maps (kind.time x) fits = has_kind (time_kind limit) (kind.time x) (time_made (kind.time x) refl fits.storable)
value_kinds limit arrays maps (kind.text x) fits = has_kind (text_kind limit) (kind.text x) (text_made (kind.text x) refl fits.storable)
value_kinds limit arrays maps (kind.bytes x) fits = has_kind (bytes_kind limit) (kind.bytes x) (bytes_made (kind.bytes x) refl fits.storable)
value_kinds limit arrays maps (kind.reference x) fits = has_kind (reference_kind limit) (kind.reference x) (reference_made (kind.reference x) refl fits.storable)
value_kinds limit arrays maps (kind.pending x) fits = absurd fits.storable
value_kinds limit arrays maps (kind.array x) fits = arrays x fits
value_kinds limit arrays maps (kind.map x) fits = maps x fits

pub unique_value : (limit : ℕ) → IsUnique value (IsSpelledValue limit)
unique_value zero = unique_kinds value (IsSpelledValue zero) (value_kinds zero (λ ds fits. absurd (omega (arith, fits.nested))) (λ ms fits. absurd (omega (arith, fits.nested))))
unique_value (suc limit) =
    let u = unique_value limit in
    unique_kinds value (IsSpelledValue (suc limit)) (value_kinds (suc limit) (λ ds fits. has_kind (array_kind limit u) (kind.array ds) (array_made limit u (kind.array ds) refl fits))
    (λ ms fits. has_kind (map_kind limit u) (kind.map ms) (map_made limit u (kind.map ms) refl fits)))

abbrev pub value_within : ℕ → Form Data
value_within limit = values limit (unique_value limit)

abbrev pub fields_within : ℕ → Form Entries
fields_within limit = fields_of_values limit (unique_value limit)
