-- Reading and writing fields, and what is inside values.
use Rattle.std.proofs.Common.{◌≡◌, ℕ, suc, ◌≤◌, ◌<◌, List, [], ◌∷◌, ◌++◌, length, take, get_or, ◌+◌, refl, sym, ap, ◌∙◌, append_assoc, arith}
use Rattle.std.specs.List.{AllByRecursion, All, flat_map}
use Rattle.std.specs.Map.{keys_of}
use Rattle.std.specs.Str.{IsUtf8}
use Rattle.std.proofs.lemmas.List.{take_more, flat_map_more, take_all}
use Rattle.std.proofs.lemmas.List.Elements.{All-nil, All-cons, All-from_recursion, recursion_from_All}
use Rattle.value_model.specs.Data.{Data, Entries, members_of, entries_depth, array_of, map_of}
use Rattle.value_model.specs.Fields.{AreFields}
use Rattle.value_model.specs.Named.{fields_data}
use Rattle.value_model.specs.Storable.{AreStorableMembers}
use Rattle.value_model.specs.declared.fields.Field.{Field}
use Rattle.record_parts.specs.Spelling.{number, text, many, value, entry, fields, AreSpelled, IsSpelledValue, AreSpelledFields}
use Rattle.record_parts.specs.Kinds.{field, IsSpelledField}
use Rattle.record_parts.specs.Reading.{Begins, BeginsNone}
use Rattle.record_parts.proofs.Wide.{IsUnique}
use Rattle.record_parts.proofs.Forms.{narrower_none, narrower_other}
use Rattle.record_parts.proofs.Basics.{field_name}
use Rattle.record_parts.proofs.Values.{IsSpelledEntry, array_kind, map_kind, spelled_entries, unique_value, unique_entries, value_within, fields_within}
use Rattle.record_parts.proofs.Combine.{Form, Made, IsKind, has_kind, both, list, unique_kinds, kind_read, kind_none}

-- ---- one field

abbrev pub field_parts : ℕ → Form (List ℕ × Data)
field_parts limit = both field_name (value_within limit)

abbrev pub field_of_parts : List ℕ × Data → Field
field_of_parts p = record { name = p.0; value = p.1 }

field_made : (limit : ℕ) (f : Field) → IsSpelledField limit f → Made field_of_parts (field_parts limit) f
field_made limit f fits = record { content = (f.name, f.value); is = refl; fits = (fits.name, fits.value) }

pub field_kind : (limit : ℕ) → IsKind field (IsSpelledField limit) [] field_of_parts (field_parts limit)
unfolding entry
field_kind limit = record { on = λ x. refl; fits = λ x fits. record { name = fits.0; value = fits.1 }; back = λ f rest bytes e fits. field_made limit f fits }

pub unique_field : (limit : ℕ) → IsUnique field (IsSpelledField limit)
unique_field limit = unique_kinds field (IsSpelledField limit) (λ f fits. has_kind (field_kind limit) f (field_made limit f fits))

abbrev pub field_form : ℕ → Form Field
field_form limit = record { spell = field; Fits = IsSpelledField limit; unique = unique_field limit }

-- ---- fields

-- fields of the code, and as they are seen
abbrev to_fields : Entries → List Field
to_fields [] = []
to_fields (e ∷ es) = record { name = e.0; value = e.1 } ∷ to_fields es

flat_to : (es : Entries) → flat_map field (to_fields es) ≡ flat_map entry es
flat_to [] = refl
flat_to (e ∷ es) = ap (λ (r : List ℕ). entry e ++ r) (flat_to es)

flat_from : (fs : List Field) → flat_map field fs ≡ flat_map entry (fields_data fs)
flat_from [] = refl
flat_from (f ∷ fs) = ap (λ (r : List ℕ). field f ++ r) (flat_from fs)

length_to : (es : Entries) → length (to_fields es) ≡ length es
length_to [] = refl
length_to (e ∷ es) = omega (arith, length_to es)

length_from : (fs : List Field) → length (fields_data fs) ≡ length fs
length_from [] = refl
length_from (f ∷ fs) = omega (arith, length_from fs)

each_to : (limit : ℕ) (es : Entries) → AllByRecursion (IsSpelledEntry limit) es → AllByRecursion (IsSpelledField limit) (to_fields es)
each_to limit [] all = tt
each_to limit (e ∷ es) all = (record { name = all.0.name; value = all.0.value }, each_to limit es all.1)

each_from : (limit : ℕ) (fs : List Field) → AllByRecursion (IsSpelledField limit) fs → AllByRecursion (IsSpelledEntry limit) (fields_data fs)
each_from limit [] all = tt
each_from limit (f ∷ fs) all = (record { name = all.0.name; value = all.0.value }, each_from limit fs all.1)

data_to : (es : Entries) → es ≡ fields_data (to_fields es)
data_to [] = refl
data_to (e ∷ es) = ap (λ (xs : Entries). e ∷ xs) (data_to es)

entries_made : (limit : ℕ) (es : Entries) → AreSpelled (IsSpelledEntry limit) es → Made fields_data (list (field_form limit)) es
entries_made limit es fits = record {
  content = to_fields es;
  is = data_to es;
  fits = record { count = omega (arith, length_to es, fits.count); each = All-from_recursion (IsSpelledField limit) (to_fields es) (each_to limit es (recursion_from_All (IsSpelledEntry limit) es fits.each)) };
}

-- fields in whatever order
entries_kind : (limit : ℕ) → IsKind fields (AreSpelled (IsSpelledEntry limit)) [] fields_data (list (field_form limit))
unfolding fields
entries_kind limit = record {
  on = λ fs. ap (λ (n : ℕ). number n ++ flat_map entry (fields_data fs)) (length_from fs) ∙ ap (λ (r : List ℕ). number (length fs) ++ r) (sym (flat_from fs));
  fits = λ fs fits. record { count = omega (arith, length_from fs, fits.count); each = All-from_recursion (IsSpelledEntry limit) (fields_data fs) (each_from limit fs (recursion_from_All (IsSpelledField limit) fs fits.each)) };
  back = λ es rest bytes e fits. entries_made limit es fits;
}

pub fields_none : (limit : ℕ) (bytes : List ℕ) → BeginsNone (many field) (AreSpelled (IsSpelledField limit)) bytes → BeginsNone fields (AreSpelledFields limit) bytes
fields_none limit bytes none = narrower_none fields (AreSpelled (IsSpelledEntry limit)) (AreSpelledFields limit) (spelled_entries limit) bytes (kind_none [] fields_data (list (field_form limit)) (entries_kind limit) bytes none)

pub fields_not : (limit : ℕ) (bytes : List ℕ) (fs : List Field) (rest : List ℕ) → Begins (many field) (AreSpelled (IsSpelledField limit)) bytes fs rest → ¬ (AreFields (fields_data fs)) → BeginsNone fields (AreSpelledFields limit) bytes
fields_not limit bytes fs rest first not =
    narrower_other fields (AreSpelled (IsSpelledEntry limit)) (AreSpelledFields limit) (spelled_entries limit) (unique_entries limit (unique_value limit)) bytes (fields_data fs) rest
    (kind_read [] fields_data (list (field_form limit)) (entries_kind limit) bytes fs rest first) (λ fits. not fits.storable.0.sound)

record AreHeld (limit : ℕ) (es : Entries) : Type 0 where
  utf8 : All IsUtf8 (keys_of es)
  storable : AreStorableMembers (members_of es)
  nested : entries_depth es ≤ limit

held : (limit : ℕ) (es : Entries) → AllByRecursion (IsSpelledEntry limit) es → AreHeld limit es
held limit [] all = record { utf8 = All-nil IsUtf8; storable = tt; nested = omega arith }
held limit (e ∷ es) all =
    let rest = held limit es all.1 in
    record { utf8 = All-cons IsUtf8 e.0 (keys_of es) all.0.name.utf8 rest.utf8; storable = (all.0.value.storable, rest.storable); nested = omega (arith, all.0.value.nested, rest.nested) }

pub fields_read : (limit : ℕ) (bytes : List ℕ) (fs : List Field) (content : Entries) (rest : List ℕ) → Begins (many field) (AreSpelled (IsSpelledField limit)) bytes fs rest → content ≡ fields_data fs → AreFields content
    → Begins fields (AreSpelledFields limit) bytes content rest
fields_read limit bytes fs content rest first same sound =
    let b = kind_read [] fields_data (list (field_form limit)) (entries_kind limit) bytes fs rest first in
    let h = held limit (fields_data fs) (recursion_from_All (IsSpelledEntry limit) (fields_data fs) b.fits.each) in
    rw same (record { parts = b.parts; fits = record { storable = (record { sound = rw same at sound; utf8 = h.utf8; count = b.fits.count }, h.storable); nested = h.nested } })

-- ---- values with values inside, where they may be nested that deep

pub array_done : (limit l : ℕ) (bytes : List ℕ) (ds : List Data) (rest : List ℕ) → limit ≡ suc l → Begins (many value) (AreSpelled (IsSpelledValue l)) bytes ds rest → Begins value (IsSpelledValue limit) (8 ∷ bytes) (array_of ds) rest
array_done limit l bytes ds rest is b = rw is (kind_read (8 ∷ []) array_of (list (value_within l)) (array_kind l (unique_value l)) bytes ds rest b)

pub array_not : (limit l : ℕ) (bytes : List ℕ) → limit ≡ suc l → BeginsNone (many value) (AreSpelled (IsSpelledValue l)) bytes → BeginsNone value (IsSpelledValue limit) (8 ∷ bytes)
array_not limit l bytes is none = rw is (kind_none (8 ∷ []) array_of (list (value_within l)) (array_kind l (unique_value l)) bytes none)

pub map_done : (limit l : ℕ) (bytes : List ℕ) (es : Entries) (rest : List ℕ) → limit ≡ suc l → Begins fields (AreSpelledFields l) bytes es rest → Begins value (IsSpelledValue limit) (9 ∷ bytes) (map_of es) rest
map_done limit l bytes es rest is b = rw is (kind_read (9 ∷ []) map_of (fields_within l) (map_kind l (unique_value l)) bytes es rest b)

pub map_not : (limit l : ℕ) (bytes : List ℕ) → limit ≡ suc l → BeginsNone fields (AreSpelledFields l) bytes → BeginsNone value (IsSpelledValue limit) (9 ∷ bytes)
map_not limit l bytes is none = rw is (kind_none (9 ∷ []) map_of (fields_within l) (map_kind l (unique_value l)) bytes none)

-- ---- writing fields

pub field_put : (start before middle after : List ℕ) (fs : List Field) (i : ℕ) (f : Field) → i < length fs → f ≡ get_or fs i f → before ≡ start ++ flat_map field (take i fs) → middle ≡ before ++ text f.name
    → after ≡ middle ++ value f.value → after ≡ start ++ flat_map field (take (i + 1) fs)
unfolding entry
field_put start before middle after fs i f below at so_far first second =
    let longer : take (i + 1) fs ≡ take i fs ++ f ∷ [] = take_more fs i f below ∙ ap (λ (x : Field). take i fs ++ x ∷ []) (sym at) in
    let whole : after ≡ before ++ field f = second ∙ ap (λ (r : List ℕ). r ++ value f.value) first ∙ append_assoc before (text f.name) (value f.value) in
    whole ∙ ap (λ (b : List ℕ). b ++ field f) so_far ∙ flat_map_more field start (take i fs) f ∙ ap (λ (xs : List Field). start ++ flat_map field xs) (sym longer)

pub fields_put : (old out : List ℕ) (fs : List Field) (es : Entries) (i : ℕ) → length fs ≤ i → fields_data fs ≡ es → out ≡ (old ++ number (length fs)) ++ flat_map field (take i fs) → out ≡ old ++ fields es
unfolding fields
fields_put old out fs es i done same is =
    is ∙ ap (λ (xs : List Field). (old ++ number (length fs)) ++ flat_map field xs) (take_all i fs done) ∙ append_assoc old (number (length fs)) (flat_map field fs)
    ∙ ap (λ (r : List ℕ). old ++ (number (length fs) ++ r)) (flat_from fs) ∙ ap (λ (n : ℕ). old ++ (number n ++ flat_map entry (fields_data fs))) (sym (length_from fs))
    ∙ ap (λ (xs : Entries). old ++ (number (length xs) ++ flat_map entry xs)) same
