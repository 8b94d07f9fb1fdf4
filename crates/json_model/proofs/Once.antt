-- A tree spells one value at most.
use Rattle.std.proofs.Common.{◌≡◌, ℕ, zero, suc, ℤ, pos, codes, Option, ◌==◌, ◌++◌, ◌%◌, ◌/◌, ◌*◌, ◌+◌, List, [], ◌∷◌, length, map, replicate, slice_index, cond, Ok, refl, sym, ap, subst, inl, inr, ◌∙◌}
use Rattle.std.proofs.lemmas.List.{map-append}
use Rattle.std.proofs.Math.ListN as listn
use Rattle.base64.specs.GeneralPurpose.{encode_of, decode_of}
use Rattle.base64.specs.Engines.{standard, standard_no_pad, standard_pad_indifferent, standard_no_pad_indifferent, url_safe}
use Rattle.base64.specs.Rfc4648.{encode_symbols, padding_len}
use Rattle.base64.proofs.EngineFacts.{decode_of-encode_of}
use Rattle.json_model.specs.Bytes.{SpellsBytes}
use Rattle.std.proofs.lemmas.List.Elements.{All-weaker}
use Rattle.serde_json.specs.Data as json
use Rattle.document_keys.specs.Names.{IsPart, IsSegment, name_text}
use Rattle.document_keys.proofs.Lawful.{named_once}
use Rattle.value_model.specs.Data.{Data, boolean, integer, time, text, bytes, reference, array_of, map_of, Entries}
use Rattle.value_model.specs.Fields.{with_field}
use Rattle.value_model.specs.declared.timestamp.Timestamp.{Timestamp}
use Rattle.value_model.specs.Time.{time_of}
use Rattle.value_model.specs.declared.reference.RefName.{RefName}
use Rattle.json_model.specs.declared.place.Place.{Place}
use Rattle.json_model.specs.declared.place.Object.TheVariants as object
use Rattle.json_model.specs.declared.place.Leaf.{Leaf}
use Rattle.json_model.specs.declared.place.Leaf.TheVariants as leaf
use Rattle.json_model.specs.Grammar.{SpellsTime, SpellsScalar, SpellsValue, of_kind, SpellsKind, as_scalar, as_array as by_array, as_map as by_map, SpellsList, no_list, a_list, SpellsItems, no_item, an_item, SpellsMap, no_map, a_map, SpellsMembers, no_member, left_out, a_member, SpellsFields}
use Rattle.json_model.specs.Members.{given, chosen}
use Rattle.json_model.specs.Numbers.{SpellsInteger, IsNumber, SpellsWhole, as_number, as_text}
use Rattle.json_model.specs.Places.{value_member}
use Rattle.json_model.specs.References.{SpellsReference, root_of}
use Rattle.json_model.proofs.Numerals.{spells_one_integer}
use Rattle.json_model.proofs.Referred.{under_name, one_database}

-- ---- bytes

-- the symbol of the standard alphabet in place of one of the URL alphabet
abbrev to_standard : ℕ → ℕ
to_standard c = cond (c == 45) 43 (cond (c == 95) 47 c)

map_replicate : (n c : ℕ) → map to_standard (replicate n c) ≡ replicate n (to_standard c)
map_replicate zero c = refl
map_replicate (suc n) c = ap (λ l. to_standard c ∷ l) (map_replicate n c)

symbol : (t : List ℕ) (i : ℕ) → to_standard (slice_index t i) ≡ slice_index (map to_standard t) i
symbol t i = sym (listn.get_or-map to_standard t i 0)

symbols_mapped : (t m : List ℕ) → map to_standard (encode_symbols t m) ≡ encode_symbols (map to_standard t) m
unfolding encode_symbols
symbols_mapped t [] = refl
symbols_mapped t (a ∷ []) = λ i. symbol t (a / 4) i ∷ symbol t (a % 4 * 16) i ∷ []
symbols_mapped t (a ∷ b ∷ []) = λ i. symbol t (a / 4) i ∷ symbol t (a % 4 * 16 + b / 16) i ∷ symbol t (b % 16 * 4) i ∷ []
symbols_mapped t (a ∷ b ∷ c ∷ rest) = λ i. symbol t (a / 4) i ∷ symbol t (a % 4 * 16 + b / 16) i ∷ symbol t (b % 16 * 4 + c / 64) i ∷ symbol t (c % 64) i ∷ symbols_mapped t rest i

standard_kept : map to_standard standard.encode_table ≡ standard.encode_table
standard_kept = refl

url_mapped : map to_standard url_safe.encode_table ≡ standard.encode_table
url_mapped = refl

-- under a table that becomes the standard one, symbols and padding become the standard ones
mapped : (t m pad : List ℕ) → map to_standard t ≡ standard.encode_table → map to_standard pad ≡ pad → map to_standard (encode_symbols t m ++ pad) ≡ encode_symbols standard.encode_table m ++ pad
mapped t m pad table kept = map-append to_standard (encode_symbols t m) pad ∙ (λ i. (symbols_mapped t m ∙ ap (λ s. encode_symbols s m) table) i ++ kept i)

-- the bytes that a text spells are decoded from its standard symbols, whatever the padding
decoded : (content those : List ℕ) → SpellsBytes content those → decode_of standard_pad_indifferent (map to_standard content) ≡ Ok those
decoded content those spelled = elim spelled.is [
  | inl is ↦ padded (ap (map to_standard) is ∙ mapped standard.encode_table those (replicate (padding_len (length those)) 61) standard_kept (map_replicate _ 61))
  | inr others ↦ elim others [
    | inl is ↦ bare (ap (map to_standard) is ∙ mapped standard.encode_table those [] standard_kept refl)
    | inr urls ↦ elim urls [
      | inl is ↦ padded (ap (map to_standard) is ∙ mapped url_safe.encode_table those (replicate (padding_len (length those)) 61) url_mapped (map_replicate _ 61))
      | inr is ↦ bare (ap (map to_standard) is ∙ mapped url_safe.encode_table those [] url_mapped refl)
    ]
  ]
]
  where
    padded : map to_standard content ≡ encode_of standard those → decode_of standard_pad_indifferent (map to_standard content) ≡ Ok those
    padded is = ap (decode_of standard_pad_indifferent) is ∙ decode_of-encode_of standard_pad_indifferent those tt spelled.each

    bare : map to_standard content ≡ encode_of standard_no_pad those → decode_of standard_pad_indifferent (map to_standard content) ≡ Ok those
    bare is = ap (decode_of standard_no_pad_indifferent) is ∙ decode_of-encode_of standard_no_pad_indifferent those tt spelled.each

-- a text spells one list of bytes at most
pub bytes_once : (content a b : List ℕ) → SpellsBytes content a → SpellsBytes content b → a ≡ b
bytes_once content a b one two = let e = sym (decoded content a one) ∙ decoded content b two in cc

-- ---- numbers, references and the other scalars

same_text : (d : json.Data) (a b : List ℕ) → d ≡ json.string a → d ≡ json.string b → a ≡ b
same_text d a b one two = let e = sym one ∙ two in cc

number_once : (d : json.Data) (y z : ℤ) → IsNumber d y → IsNumber d z → y ≡ z
number_once d y z (inl one) (inl two) = let e = sym one.1 ∙ two.1 in let n : one.0 ≡ two.0 = cc in one.2 ∙ ap pos n ∙ sym two.2
number_once d y z (inl one) (inr two) = let e = sym one.1 ∙ two in cc
number_once d y z (inr one) (inl two) = let e = sym one ∙ two.1 in cc
number_once d y z (inr one) (inr two) = let e = sym one ∙ two in cc

no_text_number : (d : json.Data) (z : ℤ) (content : List ℕ) → IsNumber d z → d ≡ json.string content → ⊥
no_text_number d z content (inl one) is = let e = sym one.1 ∙ is in cc
no_text_number d z content (inr one) is = let e = sym one ∙ is in cc

pub whole_once : (d : json.Data) (y z : ℤ) → SpellsWhole d y → SpellsWhole d z → y ≡ z
whole_once d y z (as_number fits one) (as_number fits_too two) = number_once d y z one two
whole_once d y z (as_number fits one) (as_text content at spelled) = absurd (no_text_number d y content one at)
whole_once d y z (as_text content at spelled) (as_number fits two) = absurd (no_text_number d z content two at)
whole_once d y z (as_text content at one) (as_text other at_too two) = spells_one_integer content y z one (subst (λ t. SpellsInteger t z) (same_text d other content at_too at) two)

pub reference_once : (content : List ℕ) (a b : RefName) → SpellsReference content a → SpellsReference content b → a ≡ b
reference_once content a b one two =
    let here = under_name (root_of a) content a.key one.names.some one.is in
    let there = under_name (root_of b) content b.key two.names.some two.is in
    let root = one_database content (root_of a) (root_of b) one.database two.database here there in
    let texts : name_text (root_of a) a.key ≡ name_text (root_of a) b.key = sym one.is ∙ two.is ∙ ap (λ r. name_text r b.key) (sym root) in
    let keys = named_once (root_of a) a.key b.key (All-weaker IsSegment IsPart (λ s is. is.part) a.key one.names.segments) (All-weaker IsSegment IsPart (λ s is. is.part) b.key two.names.segments) texts in
    λ i. record { project = (root i).project; database = (root i).name; key = keys i }

pub time_once : (d : json.Data) (a b : Timestamp) → SpellsTime d a → SpellsTime d b → a ≡ b
time_once d a b one two = let e = sym one.1.1 ∙ ap time_of (same_text d one.0 two.0 one.1.0 two.1.0) ∙ two.1.1 in cc

scalar_once : (kind : Leaf) (d : json.Data) (v w : Data) → SpellsScalar kind d v → SpellsScalar kind d w → v ≡ w
scalar_once leaf.Null d v w s t = s.1 ∙ sym t.1
scalar_once leaf.Boolean d v w s t = let e = sym s.1.0 ∙ t.1.0 in let is : s.0 ≡ t.0 = cc in s.1.1 ∙ ap boolean is ∙ sym t.1.1
scalar_once leaf.Integer d v w s t = s.1.1 ∙ ap integer (whole_once d s.0 t.0 s.1.0 t.1.0) ∙ sym t.1.1
scalar_once leaf.Time d v w s t = s.1.1 ∙ ap time (time_once d s.0 t.0 s.1.0 t.1.0) ∙ sym t.1.1
scalar_once leaf.Text d v w s t = s.1.1 ∙ ap text (same_text d s.0 t.0 s.1.0 t.1.0) ∙ sym t.1.1
scalar_once leaf.Bytes d v w s t =
    let one = s.1.0 in
    let two = t.1.0 in
    s.1.1 ∙ ap bytes (bytes_once one.0 s.0 t.0 one.1.1 (subst (λ c. SpellsBytes c t.0) (same_text d two.0 one.0 two.1.0 one.1.0) two.1.1)) ∙ sym t.1.1
scalar_once leaf.Reference d v w s t =
    let one = s.1.0 in
    let two = t.1.0 in
    s.1.1 ∙ ap reference (reference_once one.0 s.0 t.0 one.1.1 (subst (λ c. SpellsReference c t.0) (same_text d two.0 one.0 two.1.0 one.1.0) two.1.1)) ∙ sym t.1.1
scalar_once _ d v w s t = absurd s

-- ---- trees

same_object : (d : json.Data) (ms ns : json.Members) → d ≡ json.object ms → d ≡ json.object ns → ms ≡ ns
same_object d ms ns one two = let e = sym one ∙ two in cc

same_array : (d : json.Data) (xs ys : json.Items) → d ≡ json.array xs → d ≡ json.array ys → xs ≡ ys
same_array d xs ys one two = let e = sym one ∙ two in cc

abbrev head_name : List (List ℕ × json.Data) → List ℕ
head_name [] = []
head_name (e ∷ es) = e.0

abbrev head_tree : List (List ℕ × json.Data) → json.Data
head_tree [] = json.null
head_tree (e ∷ es) = e.1

-- what a value's only kind spells
kind_in : (d : json.Data) (ms : json.Members) (name : List ℕ) (inner : json.Data) (v : Data) → d ≡ json.object ms → chosen object.Value ms ≡ (name, inner) ∷ [] → SpellsValue d v → SpellsKind (value_member name) inner v
kind_in d ms name inner v is kinds (of_kind ns other e at those spelled) =
    let same : (other, e) ∷ [] ≡ (name, inner) ∷ [] = sym those ∙ ap (chosen object.Value) (same_object d ns ms at is) ∙ kinds in
    let names : other ≡ name = ap head_name same in
    let trees : e ≡ inner = ap head_tree same in
    subst (λ n. SpellsKind (value_member n) inner v) names (subst (λ t. SpellsKind (value_member other) t v) trees spelled)

mutual
  pub value_once : (d : json.Data) (v w : Data) → SpellsValue d v → SpellsValue d w → v ≡ w
  value_once d v w (of_kind ms name inner at kinds spelled) second = kind_once _ inner v w spelled (kind_in d ms name inner w at kinds second)

  kind_once : (p : Place) (d : json.Data) (v w : Data) → SpellsKind p d v → SpellsKind p d w → v ≡ w
  kind_once _ d v w (as_scalar {kind = k} s) (as_scalar t) = scalar_once k d v w s t
  kind_once _ d v w (by_array ms ds at list means) (by_array ns vs at_too list_too means_too) =
      means ∙ ap array_of (list_once _ ds vs list (subst (λ m. SpellsList (given (codes "values") m) vs) (same_object d ns ms at_too at) list_too)) ∙ sym means_too
  kind_once _ d v w (by_map ms es at fields means) (by_map ns fs at_too fields_too means_too) =
      means ∙ ap map_of (map_once _ es fs fields (subst (λ m. SpellsMap (given (codes "fields") m) fs) (same_object d ns ms at_too at) fields_too)) ∙ sym means_too

  pub list_once : (o : Option json.Data) (vs ws : List Data) → SpellsList o vs → SpellsList o ws → vs ≡ ws
  list_once o vs ws no_list no_list = refl
  list_once o vs ws (a_list items d at spelled) (a_list others e at_too spelled_too) = items_once items vs ws spelled (subst (λ l. SpellsItems l ws) (same_array d others items at_too at) spelled_too)

  items_once : (items : json.Items) (vs ws : List Data) → SpellsItems items vs → SpellsItems items ws → vs ≡ ws
  items_once items vs ws no_item no_item = refl
  items_once items vs ws (an_item first rest) (an_item first_too rest_too) =
      let one = value_once _ _ _ first first_too in
      let more = items_once _ _ _ rest rest_too in
      λ i. one i ∷ more i

  map_once : (o : Option json.Data) (es fs : Entries) → SpellsMap o es → SpellsMap o fs → es ≡ fs
  map_once o es fs no_map no_map = refl
  map_once o es fs (a_map ms d at spelled) (a_map ns e at_too spelled_too) = members_once ms [] es fs spelled (subst (λ m. SpellsMembers m [] fs) (same_object d ns ms at_too at) spelled_too)

  members_once : (ms : json.Members) (old es fs : Entries) → SpellsMembers ms old es → SpellsMembers ms old fs → es ≡ fs
  members_once ms old es fs no_member no_member = refl
  members_once ms old es fs (left_out is rest) (left_out is_too rest_too) = members_once _ old es fs rest rest_too
  members_once ms old es fs (left_out is rest) (a_member v some spelled rest_too) = let e = sym is ∙ some in cc
  members_once ms old es fs (a_member v some spelled rest) (left_out is rest_too) = let e = sym is ∙ some in cc
  members_once ms old es fs (a_member {name = n} {ms = more} v some spelled rest) (a_member w some_too spelled_too rest_too) =
      let one = value_once _ v w spelled spelled_too in
      members_once more (with_field old n v) es fs rest (subst (λ x. SpellsMembers more (with_field old n x) fs) (sym one) rest_too)

-- an object spells its fields once
pub spells_fields_once : (d : json.Data) (a b : Entries) → SpellsFields d a → SpellsFields d b → a ≡ b
spells_fields_once d a b one two = members_once one.members [] a b one.spelled (subst (λ m. SpellsMembers m [] b) (same_object d two.members one.members two.is one.is) two.spelled)
