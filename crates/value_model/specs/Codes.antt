-- How deep proofs go into a value, and the code by which they tell values apart. No meaning stands here.
use Rattle.std.specs.Prelude.{◌≡◌, refl, ℕ, zero, suc, max, ℤ, pos, negsuc, Bool, true, false, List, [], ◌∷◌}
use Rattle.std.proofs.Common.{ap}
use Rattle.std.specs.Coded.{Coded, code_by, coded×, coded_list, coded_ℕ}
use base.Stored.{Gv, gnil, gnum, gcons}
use denote.Struct.Codes.{itself}
use Rattle.value_model.specs.declared.reference.RefName.{RefName}
use Rattle.value_model.specs.declared.timestamp.Timestamp.{Timestamp}
use Rattle.value_model.specs.Data.{Data, null, boolean, integer, time, pending, text, bytes, reference, array, map, Items, no_items, item, Members, no_members, member, Entries, members_of, items_of}

-- how many steps lead from a value to its innermost part, where fields, and what is shared, are steps of their own
abbrev mutual
  pub data_size : Data → ℕ
  data_size null = 0
  data_size (boolean b) = 0
  data_size (integer n) = 0
  data_size (time t) = 0
  data_size (pending t) = 0
  data_size (text s) = 0
  data_size (bytes s) = 0
  data_size (reference r) = 0
  data_size (array ds) = suc (items_size ds)
  data_size (map ms) = suc (suc (members_size ms))

  pub items_size : Items → ℕ
  items_size no_items = 0
  items_size (item d ds) = max (suc (data_size d)) (items_size ds)

  pub members_size : Members → ℕ
  members_size no_members = 0
  members_size (member n d ms) = max (suc (data_size d)) (members_size ms)

abbrev pub entries_size : Entries → ℕ
entries_size es = members_size (members_of es)

-- of shared fields, and of shared values
abbrev pub shared_size : Entries → ℕ
shared_size es = suc (entries_size es)

abbrev pub list_size : List Data → ℕ
list_size ds = items_size (items_of ds)

-- the number, and the halves, of a tree of numbers
abbrev pub number : Gv → ℕ
number gnil = 0
number (gnum n) = n
number (gcons a b) = 0

abbrev pub left : Gv → Gv
left gnil = gnil
left (gnum n) = gnil
left (gcons a b) = a

abbrev pub right : Gv → Gv
right gnil = gnil
right (gnum n) = gnil
right (gcons a b) = b

abbrev pub from_bool : Bool → Gv
from_bool false = gnum 0
from_bool true = gnum 1

abbrev pub to_bool : ℕ → Bool
to_bool zero = false
to_bool (suc n) = true

pub bool_back : (b : Bool) → to_bool (number (from_bool b)) ≡ b
bool_back false = refl
bool_back true = refl

abbrev pub from_int : ℤ → Gv
from_int (pos n) = gcons (gnum 0) (gnum n)
from_int (negsuc n) = gcons (gnum 1) (gnum n)

abbrev pub signed : ℕ → ℕ → ℤ
signed zero n = pos n
signed (suc m) n = negsuc n

abbrev pub to_int : Gv → ℤ
to_int g = signed (number (left g)) (number (right g))

pub int_back : (n : ℤ) → to_int (from_int n) ≡ n
int_back (pos n) = refl
int_back (negsuc n) = refl

abbrev pub from_time : Timestamp → Gv
from_time t = gcons (from_int t.seconds) (gnum t.nanos)

abbrev pub to_time : Gv → Timestamp
to_time g = record { seconds = to_int (left g); nanos = number (right g) }

pub time_back : (t : Timestamp) → to_time (from_time t) ≡ t
time_back t = λ i. record { seconds = int_back t.seconds i; nanos = t.nanos }

abbrev pub from_text : List ℕ → Gv
from_text [] = gnil
from_text (n ∷ ns) = gcons (gnum n) (from_text ns)

abbrev pub to_text : Gv → List ℕ
to_text gnil = []
to_text (gnum n) = []
to_text (gcons a b) = number a ∷ to_text b

pub text_back : (ns : List ℕ) → to_text (from_text ns) ≡ ns
text_back [] = refl
text_back (n ∷ ns) = ap (λ t. n ∷ t) (text_back ns)

abbrev pub from_texts : List (List ℕ) → Gv
from_texts [] = gnil
from_texts (s ∷ ss) = gcons (from_text s) (from_texts ss)

abbrev pub to_texts : Gv → List (List ℕ)
to_texts gnil = []
to_texts (gnum n) = []
to_texts (gcons a b) = to_text a ∷ to_texts b

pub texts_back : (ss : List (List ℕ)) → to_texts (from_texts ss) ≡ ss
texts_back [] = refl
texts_back (s ∷ ss) = λ i. text_back s i ∷ texts_back ss i

abbrev pub from_name : RefName → Gv
from_name r = gcons (from_text r.project) (gcons (from_text r.database) (from_texts r.key))

abbrev pub to_name : Gv → RefName
to_name g = record { project = to_text (left g); database = to_text (left (right g)); key = to_texts (right (right g)) }

pub name_back : (r : RefName) → to_name (from_name r) ≡ r
name_back r = λ i. record { project = text_back r.project i; database = text_back r.database i; key = texts_back r.key i }

abbrev mutual
  pub encode : Data → Gv
  encode null = gcons (gnum 0) gnil
  encode (boolean b) = gcons (gnum 1) (from_bool b)
  encode (integer n) = gcons (gnum 2) (from_int n)
  encode (time t) = gcons (gnum 3) (from_time t)
  encode (pending t) = gcons (gnum 4) (from_time t)
  encode (text s) = gcons (gnum 5) (from_text s)
  encode (bytes s) = gcons (gnum 6) (from_text s)
  encode (reference r) = gcons (gnum 7) (from_name r)
  encode (array ds) = gcons (gnum 8) (encode_items ds)
  encode (map ms) = gcons (gnum 9) (encode_members ms)

  pub encode_items : Items → Gv
  encode_items no_items = gnil
  encode_items (item d ds) = gcons (encode d) (encode_items ds)

  pub encode_members : Members → Gv
  encode_members no_members = gnil
  encode_members (member n d ms) = gcons (gcons (from_text n) (encode d)) (encode_members ms)

abbrev mutual
  pub decode : Gv → Data
  decode gnil = null
  decode (gnum n) = null
  decode (gcons gnil g) = null
  decode (gcons (gcons a b) g) = null
  decode (gcons (gnum zero) g) = null
  decode (gcons (gnum (suc zero)) g) = boolean (to_bool (number g))
  decode (gcons (gnum (suc (suc zero))) g) = integer (to_int g)
  decode (gcons (gnum (suc (suc (suc zero)))) g) = time (to_time g)
  decode (gcons (gnum (suc (suc (suc (suc zero))))) g) = pending (to_time g)
  decode (gcons (gnum (suc (suc (suc (suc (suc zero)))))) g) = text (to_text g)
  decode (gcons (gnum (suc (suc (suc (suc (suc (suc zero))))))) g) = bytes (to_text g)
  decode (gcons (gnum (suc (suc (suc (suc (suc (suc (suc zero)))))))) g) = reference (to_name g)
  decode (gcons (gnum (suc (suc (suc (suc (suc (suc (suc (suc zero))))))))) g) = array (decode_items g)
  decode (gcons (gnum (suc (suc (suc (suc (suc (suc (suc (suc (suc n)))))))))) g) = map (decode_members g)

  pub decode_items : Gv → Items
  decode_items gnil = no_items
  decode_items (gnum n) = no_items
  decode_items (gcons a b) = item (decode a) (decode_items b)

  pub decode_members : Gv → Members
  decode_members gnil = no_members
  decode_members (gnum n) = no_members
  decode_members (gcons gnil b) = no_members
  decode_members (gcons (gnum n) b) = no_members
  decode_members (gcons (gcons n a) b) = member (to_text n) (decode a) (decode_members b)

mutual
  pub data_back : (d : Data) → decode (encode d) ≡ d
  data_back null = refl
  data_back (boolean b) = ap boolean (bool_back b)
  data_back (integer n) = ap integer (int_back n)
  data_back (time t) = ap time (time_back t)
  data_back (pending t) = ap pending (time_back t)
  data_back (text s) = ap text (text_back s)
  data_back (bytes s) = ap bytes (text_back s)
  data_back (reference r) = ap reference (name_back r)
  data_back (array ds) = ap array (items_back ds)
  data_back (map ms) = ap map (members_back ms)

  pub items_back : (ds : Items) → decode_items (encode_items ds) ≡ ds
  items_back no_items = refl
  items_back (item d ds) = λ i. item (data_back d i) (items_back ds i)

  pub members_back : (ms : Members) → decode_members (encode_members ms) ≡ ms
  members_back no_members = refl
  members_back (member n d ms) = λ i. member (text_back n i) (data_back d i) (members_back ms i)

abbrev pub data_code : Coded Data
data_code = code_by Gv itself encode decode data_back

abbrev pub entries_code : Coded Entries
entries_code = coded_list (coded× (coded_list coded_ℕ) data_code)

abbrev pub list_code : Coded (List Data)
list_code = coded_list data_code
