-- when values are printed the same, by their kinds, their items and their fields
use Rattle.std.proofs.Common.{◌≡◌, ◌≢◌, ◌↔◌, ◌∙◌, inl, inr, ℕ, ◌+◌, ◌<◌, List, [], ◌∷◌, ◌++◌, length, get_or, take, map as each, refl, sym, ap}
use Rattle.std.proofs.lemmas.List.{get_or-map, map_more, get_or_default}
use Rattle.value_model.specs.declared.fields.Field.{Field}
use Rattle.value_model.specs.declared.value.Kind.{Kind}
use Rattle.value_model.specs.declared.value.Kind.TheVariants as kind
use Rattle.value_model.specs.Data.{Data, null, boolean, integer, time, pending, text, bytes, reference, array, map, Items, item, Members, member, Entries, items_of, members_of, list_of, entries_of, array_of, map_of}
use Rattle.value_model.specs.Named.{fields_data}
use Rattle.value_model.specs.View.{kind_data}
use Rattle.views.specs.Printed.{AreNullOrEqual, printed_value, printed_items, printed_members, printed_fields}

-- what is printed as a value that isn't null, an array or a map is that value
unprinted : (d p : Data) → printed_value d ≡ p → p ≢ null → ((xs : Items) → p ≢ array xs) → ((ms : Members) → p ≢ map ms) → d ≡ p
unprinted null p e n a m = e
unprinted (boolean x) p e n a m = e
unprinted (integer x) p e n a m = e
unprinted (time x) p e n a m = e
unprinted (pending x) p e n a m = absurd (n (sym e))
unprinted (text x) p e n a m = e
unprinted (bytes x) p e n a m = e
unprinted (reference x) p e n a m = e
unprinted (array xs) p e n a m = absurd (a (printed_items xs) (sym e))
unprinted (map ms) p e n a m = absurd (m (printed_members ms) (sym e))

-- the other is printed as this one, which is of one of the other kinds
plainly : (d p : Data) → p ≡ printed_value d → p ≢ null → ((xs : Items) → p ≢ array xs) → ((ms : Members) → p ≢ map ms) → AreNullOrEqual p d
plainly d p e n a m = inr (sym (unprinted d p (sym e) n a m))

-- only an array is printed as an array, and only a map as a map
array_printed : (d : Data) (xs : Items) → ((ys : Items) → d ≢ array ys) → array xs ≡ printed_value d → ⊥
array_printed null xs n e = cc
array_printed (boolean x) xs n e = cc
array_printed (integer x) xs n e = cc
array_printed (time x) xs n e = cc
array_printed (pending x) xs n e = cc
array_printed (text x) xs n e = cc
array_printed (bytes x) xs n e = cc
array_printed (reference x) xs n e = cc
array_printed (array ys) xs n e = n ys refl
array_printed (map ms) xs n e = cc

map_printed : (d : Data) (xs : Members) → ((ys : Members) → d ≢ map ys) → map xs ≡ printed_value d → ⊥
map_printed null xs n e = cc
map_printed (boolean x) xs n e = cc
map_printed (integer x) xs n e = cc
map_printed (time x) xs n e = cc
map_printed (pending x) xs n e = cc
map_printed (text x) xs n e = cc
map_printed (bytes x) xs n e = cc
map_printed (reference x) xs n e = cc
map_printed (array ys) xs n e = cc
map_printed (map ms) xs n e = n ms refl

-- values that aren't both arrays and aren't both maps
record Apart (a b : Data) : Type 0 where
  pub arrays : (xs ys : Items) → a ≡ array xs → b ≡ array ys → ⊥
  pub maps : (xs ys : Members) → a ≡ map xs → b ≡ map ys → ⊥

null_or_equal : (a b : Data) → Apart a b → printed_value a ≡ printed_value b → AreNullOrEqual a b
null_or_equal null b apart e = inl (refl, sym e)
null_or_equal (boolean x) b apart e = plainly b (boolean x) e (λ q. cc) (λ xs q. cc) (λ ms q. cc)
null_or_equal (integer x) b apart e = plainly b (integer x) e (λ q. cc) (λ xs q. cc) (λ ms q. cc)
null_or_equal (time x) b apart e = plainly b (time x) e (λ q. cc) (λ xs q. cc) (λ ms q. cc)
null_or_equal (pending x) b apart e = inl (refl, sym e)
null_or_equal (text x) b apart e = plainly b (text x) e (λ q. cc) (λ xs q. cc) (λ ms q. cc)
null_or_equal (bytes x) b apart e = plainly b (bytes x) e (λ q. cc) (λ xs q. cc) (λ ms q. cc)
null_or_equal (reference x) b apart e = plainly b (reference x) e (λ q. cc) (λ xs q. cc) (λ ms q. cc)
null_or_equal (array xs) b apart e = absurd (array_printed b (printed_items xs) (λ ys is. apart.arrays xs ys refl is) e)
null_or_equal (map ms) b apart e = absurd (map_printed b (printed_members ms) (λ ys is. apart.maps ms ys refl is) e)

same_printed : (a b : Data) → AreNullOrEqual a b → printed_value a ≡ printed_value b
same_printed a b or = elim or [ inl nulls ↦ nulls.0 ∙ sym nulls.1 | inr same ↦ ap printed_value same ]

-- the same of two kinds, as the code tells them
array_kind : (k : Kind) (xs : Items) → ((v : _) → k ≢ kind.Array v) → kind_data k ≡ array xs → ⊥
array_kind kind.Null xs n e = cc
array_kind (kind.Boolean b) xs n e = cc
array_kind (kind.Integer b) xs n e = cc
array_kind (kind.Time b) xs n e = cc
array_kind (kind.Pending b) xs n e = cc
array_kind (kind.Text b) xs n e = cc
array_kind (kind.Bytes b) xs n e = cc
array_kind (kind.Reference b) xs n e = cc
array_kind (kind.Array v) xs n e = n v refl
array_kind (kind.Map fields) xs n e = cc

map_kind : (k : Kind) (xs : Members) → ((v : _) → k ≢ kind.Map v) → kind_data k ≡ map xs → ⊥
map_kind kind.Null xs n e = cc
map_kind (kind.Boolean b) xs n e = cc
map_kind (kind.Integer b) xs n e = cc
map_kind (kind.Time b) xs n e = cc
map_kind (kind.Pending b) xs n e = cc
map_kind (kind.Text b) xs n e = cc
map_kind (kind.Bytes b) xs n e = cc
map_kind (kind.Reference b) xs n e = cc
map_kind (kind.Array v) xs n e = cc
map_kind (kind.Map fields) xs n e = n fields refl

items_print : (ds : List Data) → printed_items (items_of ds) ≡ items_of (each printed_value ds)
items_print [] = refl
items_print (d ∷ ds) = ap (item (printed_value d)) (items_print ds)

members_print : (es : Entries) → printed_members (members_of es) ≡ members_of (printed_fields es)
members_print [] = refl
members_print (e ∷ es) = ap (member e.0 (printed_value e.1)) (members_print es)

listed : (ds : List Data) → list_of (items_of ds) ≡ ds
listed [] = refl
listed (d ∷ ds) = ap (λ xs. d ∷ xs) (listed ds)

entered : (es : Entries) → entries_of (members_of es) ≡ es
entered [] = refl
entered (e ∷ es) = ap (λ xs. e ∷ xs) (entered es)

-- an array is printed with its items printed, and a map with its fields printed
pub arrays_print : (xs ys : List Data) → (printed_value (array_of xs) ≡ printed_value (array_of ys)) ↔ (each printed_value xs ≡ each printed_value ys)
arrays_print xs ys = (
  λ same. let is : items_of (each printed_value xs) ≡ items_of (each printed_value ys) = cc (items_print xs, items_print ys) in
      sym (listed (each printed_value xs)) ∙ ap list_of is ∙ listed (each printed_value ys),
  λ same. ap array (items_print xs) ∙ ap array_of same ∙ sym (ap array (items_print ys)),
)

pub maps_print : (xs ys : Entries) → (printed_value (map_of xs) ≡ printed_value (map_of ys)) ↔ (printed_fields xs ≡ printed_fields ys)
maps_print xs ys = (
  λ same. let is : members_of (printed_fields xs) ≡ members_of (printed_fields ys) = cc (members_print xs, members_print ys) in
      sym (entered (printed_fields xs)) ∙ ap entries_of is ∙ entered (printed_fields ys),
  λ same. ap map (members_print xs) ∙ ap map_of same ∙ sym (ap map (members_print ys)),
)

-- the two kinds aren't both arrays and aren't both maps
pub record ApartKinds (k l : Kind) : Type 0 where
  pub arrays : (v w : _) → k ≡ kind.Array v → l ≡ kind.Array w → ⊥
  pub maps : (v w : _) → k ≡ kind.Map v → l ≡ kind.Map w → ⊥

pub array_first : (k l : Kind) (v : _) → k ≡ kind.Array v → ((w : _) → l ≢ kind.Array w) → ApartKinds k l
array_first k l v is not = record { arrays = λ a b p q. not b q; maps = λ a b p q. cc }

pub map_first : (k l : Kind) (v : _) → k ≡ kind.Map v → ((w : _) → l ≢ kind.Map w) → ApartKinds k l
map_first k l v is not = record { arrays = λ a b p q. cc; maps = λ a b p q. not b q }

pub neither_first : (k l : Kind) → ((v : _) → k ≢ kind.Array v) → ((v : _) → k ≢ kind.Map v) → ApartKinds k l
neither_first k l not nor = record { arrays = λ a b p q. not a p; maps = λ a b p q. nor a p }

array_apart : (k l : Kind) → ApartKinds k l → (xs ys : Items) → kind_data k ≡ array xs → kind_data l ≡ array ys → ⊥
array_apart (kind.Array v) l apart xs ys e f = array_kind l ys (λ w is. apart.arrays v w refl is) f
array_apart kind.Null l apart xs ys e f = cc
array_apart (kind.Boolean b) l apart xs ys e f = cc
array_apart (kind.Integer b) l apart xs ys e f = cc
array_apart (kind.Time b) l apart xs ys e f = cc
array_apart (kind.Pending b) l apart xs ys e f = cc
array_apart (kind.Text b) l apart xs ys e f = cc
array_apart (kind.Bytes b) l apart xs ys e f = cc
array_apart (kind.Reference b) l apart xs ys e f = cc
array_apart (kind.Map fields) l apart xs ys e f = cc

map_apart : (k l : Kind) → ApartKinds k l → (xs ys : Members) → kind_data k ≡ map xs → kind_data l ≡ map ys → ⊥
map_apart (kind.Map v) l apart xs ys e f = map_kind l ys (λ w is. apart.maps v w refl is) f
map_apart kind.Null l apart xs ys e f = cc
map_apart (kind.Boolean b) l apart xs ys e f = cc
map_apart (kind.Integer b) l apart xs ys e f = cc
map_apart (kind.Time b) l apart xs ys e f = cc
map_apart (kind.Pending b) l apart xs ys e f = cc
map_apart (kind.Text b) l apart xs ys e f = cc
map_apart (kind.Bytes b) l apart xs ys e f = cc
map_apart (kind.Reference b) l apart xs ys e f = cc
map_apart (kind.Array v) l apart xs ys e f = cc

pub kinds_print : (k l : Kind) → ApartKinds k l → AreNullOrEqual (kind_data k) (kind_data l) ↔ (printed_value (kind_data k) ≡ printed_value (kind_data l))
kinds_print k l apart = (
  same_printed (kind_data k) (kind_data l),
  null_or_equal (kind_data k) (kind_data l) (record { arrays = array_apart k l apart; maps = map_apart k l apart }),
)

-- lists of values, and of fields, that differ at one place
pub values_apart : (xs ys : List Data) (i : ℕ) (d e : Data) → i < length xs → i < length ys → d ≡ get_or xs i d → e ≡ get_or ys i e → (printed_value d ≡ printed_value e → ⊥) → each printed_value xs ≡ each printed_value ys → ⊥
values_apart xs ys i d e a b here there differ same =
    let first : get_or (each printed_value xs) i null ≡ printed_value d = get_or-map printed_value xs i d null a ∙ ap printed_value (sym here) in
    let second : get_or (each printed_value ys) i null ≡ printed_value e = get_or-map printed_value ys i e null b ∙ ap printed_value (sym there) in
    differ (sym first ∙ ap (λ zs. get_or zs i null) same ∙ second)

-- a field as it is printed
abbrev printed_field : Field → List ℕ × Data
printed_field f = (f.name, printed_value f.value)

fields_print : (fs : List Field) → printed_fields (fields_data fs) ≡ each printed_field fs
fields_print [] = refl
fields_print (f ∷ fs) = ap (λ xs. printed_field f ∷ xs) (fields_print fs)

fields_at : (xs ys : List Field) (i : ℕ) (d e f g : Field) → i < length xs → i < length ys → printed_fields (fields_data xs) ≡ printed_fields (fields_data ys) → printed_field (get_or xs i d) ≡ printed_field (get_or ys i e)
fields_at xs ys i d e f g a b same =
    let is : each printed_field xs ≡ each printed_field ys = sym (fields_print xs) ∙ same ∙ fields_print ys in
    sym (get_or-map printed_field xs i d (printed_field d) a) ∙ ap (λ zs. get_or zs i (printed_field d)) is ∙ get_or-map printed_field ys i e (printed_field d) b

pub names_apart : (xs ys : List Field) (i : ℕ) (d e : Field) → i < length xs → i < length ys → d ≡ get_or xs i d → e ≡ get_or ys i e → (d.name ≡ e.name → ⊥) → printed_fields (fields_data xs) ≡ printed_fields (fields_data ys) → ⊥
names_apart xs ys i d e a b here there differ same =
    let at = fields_at xs ys i d e d e a b same in
    differ (ap (λ (f : Field). f.name) here ∙ ap (λ (p : List ℕ × Data). p.0) at ∙ sym (ap (λ (f : Field). f.name) there))

pub field_values_apart : (xs ys : List Field) (i : ℕ) (d e : Field) → i < length xs → i < length ys → (printed_value (get_or xs i d).value ≡ printed_value (get_or ys i e).value → ⊥) → printed_fields (fields_data xs) ≡ printed_fields (fields_data ys) → ⊥
field_values_apart xs ys i d e a b differ same = differ (ap (λ (p : List ℕ × Data). p.1) (fields_at xs ys i d e d e a b same))

-- one field more
pub fields_on : (xs ys : List Field) (i : ℕ) (d e f g : Field) → i < length xs → i < length ys → (get_or xs i d).name ≡ (get_or ys i e).name → printed_value (get_or xs i f).value ≡ printed_value (get_or ys i g).value
    → printed_fields (fields_data (take i xs)) ≡ printed_fields (fields_data (take i ys)) → printed_fields (fields_data (take (i + 1) xs)) ≡ printed_fields (fields_data (take (i + 1) ys))
fields_on xs ys i d e f g a b names values front =
    let same : (get_or xs i f).name ≡ (get_or ys i g).name = ap (λ (x : Field). x.name) (get_or_default xs i f d a) ∙ names ∙ ap (λ (x : Field). x.name) (get_or_default ys i e g b) in
    let one : ◌≡◌ {A = List ℕ × Data} (printed_field (get_or xs i f)) (printed_field (get_or ys i g)) = λ k. (same k, values k) in
    let before : each printed_field (take i xs) ≡ each printed_field (take i ys) = sym (fields_print (take i xs)) ∙ front ∙ fields_print (take i ys) in
    fields_print (take (i + 1) xs) ∙ map_more printed_field xs i f a ∙ (λ k. before k ++ one k ∷ []) ∙ sym (map_more printed_field ys i g b) ∙ sym (fields_print (take (i + 1) ys))
