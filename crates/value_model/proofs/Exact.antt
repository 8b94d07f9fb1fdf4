-- a comparison of values by recursion, and that it computes their order
use Rattle.std.proofs.Common.{◌≡◌, ◌∙◌, inl, inr, ℕ, ◌<◌, ◌≤◌, Bool, true, false, Ordering, Less, Equal, Greater, List, [], ◌∷◌, ◌++◌, refl, sym, ap, subst, arith}
use Rattle.std.specs.Cmp.{IsTotalOrder, nat_cmp_is, tied_itself}
use Rattle.std.specs.Cmp.Lexicographic.{slice_cmp}
use Rattle.std.specs.Ordering.{ordering_then, ordering_reverse, nat_cmp, int_cmp, bool_cmp}
use Rattle.std.proofs.lemmas.Bool.{cases_lt}
use Rattle.std.proofs.lemmas.Cmp.{ranked}
use Rattle.document_keys.specs.Order.{ListBefore, differs, ends, TextBefore, Ranks}
use Rattle.document_keys.proofs.Order.{Computes, texts_compute, paths_compute}
use Rattle.value_model.specs.declared.reference.RefName.{RefName}
use Rattle.value_model.specs.declared.timestamp.Timestamp.{Timestamp}
use Rattle.value_model.specs.Data.{Data, null, boolean, integer, time, pending, text, bytes, reference, array, map, Items, no_items, item, Members, no_members, member, Entries, items_of, list_of, members_of, entries_of, array_of, map_of}
use Rattle.value_model.specs.Order.{rank, whole_path, Before, kind_first, false_first, number_below, time_earlier, write_earlier, text_first, bytes_first, path_first, item_first, array_ends, name_first, value_first, map_ends, RanksValues}
use Rattle.value_model.proofs.Parts.{items_list, members_entries}
use Rattle.value_model.proofs.Scalars.{then_less, then_equal, then_reverse, then_chain, ints_compute, time_cmp, times_compute}

abbrev pub name_cmp : RefName → RefName → Ordering
name_cmp r s = slice_cmp (slice_cmp nat_cmp) (whole_path r) (whole_path s)

abbrev mutual
  pub cmp : Data → Data → Ordering
  cmp null null = Equal
  cmp (boolean a) (boolean b) = bool_cmp a b
  cmp (integer m) (integer n) = int_cmp m n
  cmp (time t) (time u) = time_cmp t u
  cmp (pending t) (pending u) = time_cmp t u
  cmp (text s) (text t) = slice_cmp nat_cmp s t
  cmp (bytes s) (bytes t) = slice_cmp nat_cmp s t
  cmp (reference r) (reference s) = name_cmp r s
  cmp (array xs) (array ys) = cmp_items xs ys
  cmp (map ms) (map ns) = cmp_members ms ns
  cmp a b = nat_cmp (rank a) (rank b)

  pub cmp_items : Items → Items → Ordering
  cmp_items no_items no_items = Equal
  cmp_items no_items (item y ys) = Less
  cmp_items (item x xs) no_items = Greater
  cmp_items (item x xs) (item y ys) = ordering_then (cmp x y) (cmp_items xs ys)

  pub cmp_members : Members → Members → Ordering
  cmp_members no_members no_members = Equal
  cmp_members no_members (member n y ns) = Less
  cmp_members (member m x ms) no_members = Greater
  cmp_members (member m x ms) (member n y ns) = ordering_then (ordering_then (slice_cmp nat_cmp m n) (cmp x y)) (cmp_members ms ns)

-- ---- only the same values are equal

bool_exact : (a b : Bool) → bool_cmp a b ≡ Equal → a ≡ b
bool_exact false false e = refl
bool_exact false true e = cc
bool_exact true false e = cc
bool_exact true true e = refl

segments_exact : (r s : RefName) → whole_path r ≡ whole_path s → r ≡ s
segments_exact r s e =
    let project : r.project ≡ s.project = cc in
    let database : r.database ≡ s.database = cc in
    let key : r.key ≡ s.key = cc in
    λ i. record { project = project i; database = database i; key = key i }

mutual
  exact : (a b : Data) → cmp a b ≡ Equal → a ≡ b
  exact null null e = refl
  exact (boolean a) (boolean b) e = ap boolean (bool_exact a b e)
  exact (integer m) (integer n) e = ap integer (ints_compute.exact m n e)
  exact (time t) (time u) e = ap time (times_compute.exact t u e)
  exact (pending t) (pending u) e = ap pending (times_compute.exact t u e)
  exact (text s) (text t) e = ap text (texts_compute.exact s t e)
  exact (bytes s) (bytes t) e = ap bytes (texts_compute.exact s t e)
  exact (reference r) (reference s) e = ap reference (segments_exact r s (paths_compute.exact (whole_path r) (whole_path s) e))
  exact (array xs) (array ys) e = ap array (items_exact xs ys e)
  exact (map ms) (map ns) e = ap map (members_exact ms ns e)
  exact a b e = cc

  items_exact : (xs ys : Items) → cmp_items xs ys ≡ Equal → xs ≡ ys
  items_exact no_items no_items e = refl
  items_exact no_items (item y ys) e = cc
  items_exact (item x xs) no_items e = cc
  items_exact (item x xs) (item y ys) e =
      let both = then_equal (cmp x y) (cmp_items xs ys) e in
      λ i. item (exact x y both.0 i) (items_exact xs ys both.1 i)

  members_exact : (ms ns : Members) → cmp_members ms ns ≡ Equal → ms ≡ ns
  members_exact no_members no_members e = refl
  members_exact no_members (member n y ns) e = cc
  members_exact (member m x ms) no_members e = cc
  members_exact (member m x ms) (member n y ns) e =
      let both = then_equal (ordering_then (slice_cmp nat_cmp m n) (cmp x y)) (cmp_members ms ns) e in
      let field = then_equal (slice_cmp nat_cmp m n) (cmp x y) both.0 in
      let names = texts_compute.exact m n field.0 in
      λ i. member (names i) (exact x y field.1 i) (members_exact ms ns both.1 i)

-- ---- the other way round

bool_flip : (a b : Bool) → bool_cmp a b ≡ ordering_reverse (bool_cmp b a)
bool_flip false false = refl
bool_flip false true = refl
bool_flip true false = refl
bool_flip true true = refl

mutual
  flip : (a b : Data) → cmp a b ≡ ordering_reverse (cmp b a)
  flip null null = refl
  flip (boolean a) (boolean b) = bool_flip a b
  flip (integer m) (integer n) = ints_compute.total.antisymm m n
  flip (time t) (time u) = times_compute.total.antisymm t u
  flip (pending t) (pending u) = times_compute.total.antisymm t u
  flip (text s) (text t) = texts_compute.total.antisymm s t
  flip (bytes s) (bytes t) = texts_compute.total.antisymm s t
  flip (reference r) (reference s) = paths_compute.total.antisymm (whole_path r) (whole_path s)
  flip (array xs) (array ys) = items_flip xs ys
  flip (map ms) (map ns) = members_flip ms ns
  flip a b = refl

  items_flip : (xs ys : Items) → cmp_items xs ys ≡ ordering_reverse (cmp_items ys xs)
  items_flip no_items no_items = refl
  items_flip no_items (item y ys) = refl
  items_flip (item x xs) no_items = refl
  items_flip (item x xs) (item y ys) = (λ i. ordering_then (flip x y i) (items_flip xs ys i)) ∙ sym (then_reverse (cmp y x) (cmp_items ys xs))

  members_flip : (ms ns : Members) → cmp_members ms ns ≡ ordering_reverse (cmp_members ns ms)
  members_flip no_members no_members = refl
  members_flip no_members (member n y ns) = refl
  members_flip (member m x ms) no_members = refl
  members_flip (member m x ms) (member n y ns) =
      (λ i. ordering_then (ordering_then (texts_compute.total.antisymm m n i) (flip x y i)) (members_flip ms ns i))
      ∙ (λ i. ordering_then (sym (then_reverse (slice_cmp nat_cmp n m) (cmp y x)) i) (ordering_reverse (cmp_members ns ms)))
      ∙ sym (then_reverse (ordering_then (slice_cmp nat_cmp n m) (cmp y x)) (cmp_members ns ms))

-- ---- from one to the next

apart_by : (m n : ℕ) → m < n → nat_cmp m n ≡ Less
apart_by m n before = sym (nat_cmp_is m n Less before)

rank_apart : (a b : Data) → rank a < rank b → cmp a b ≡ Less
rank_apart null null less = absurd (omega arith)
rank_apart (boolean a) (boolean b) less = absurd (omega arith)
rank_apart (integer m) (integer n) less = absurd (omega arith)
rank_apart (time t) (time u) less = absurd (omega arith)
rank_apart (pending t) (pending u) less = absurd (omega arith)
rank_apart (text s) (text t) less = absurd (omega arith)
rank_apart (bytes s) (bytes t) less = absurd (omega arith)
rank_apart (reference r) (reference s) less = absurd (omega arith)
rank_apart (array xs) (array ys) less = absurd (omega arith)
rank_apart (map ms) (map ns) less = absurd (omega arith)
rank_apart a b less = apart_by (rank a) (rank b) less

rank_upto : (a b : Data) → cmp a b ≡ Less → rank a ≤ rank b
rank_upto null null e = omega arith
rank_upto (boolean a) (boolean b) e = omega arith
rank_upto (integer m) (integer n) e = omega arith
rank_upto (time t) (time u) e = omega arith
rank_upto (pending t) (pending u) e = omega arith
rank_upto (text s) (text t) e = omega arith
rank_upto (bytes s) (bytes t) e = omega arith
rank_upto (reference r) (reference s) e = omega arith
rank_upto (array xs) (array ys) e = omega arith
rank_upto (map ms) (map ns) e = omega arith
rank_upto a b e = let less : rank a < rank b = ranked (rank a) (rank b) Less (sym e) in omega arith

is_null : (b : Data) → rank b ≡ 0 → b ≡ null
is_null null e = refl
is_null b e = absurd (omega arith)

is_boolean : (b : Data) → rank b ≡ 1 → (x : Bool) × (b ≡ boolean x)
is_boolean (boolean x) e = (x, refl)
is_boolean b e = absurd (omega arith)

is_integer : (b : Data) → rank b ≡ 2 → (x : _) × (b ≡ integer x)
is_integer (integer x) e = (x, refl)
is_integer b e = absurd (omega arith)

is_time : (b : Data) → rank b ≡ 3 → (x : Timestamp) × (b ≡ time x)
is_time (time x) e = (x, refl)
is_time b e = absurd (omega arith)

is_pending : (b : Data) → rank b ≡ 4 → (x : Timestamp) × (b ≡ pending x)
is_pending (pending x) e = (x, refl)
is_pending b e = absurd (omega arith)

is_text : (b : Data) → rank b ≡ 5 → (x : List ℕ) × (b ≡ text x)
is_text (text x) e = (x, refl)
is_text b e = absurd (omega arith)

is_bytes : (b : Data) → rank b ≡ 6 → (x : List ℕ) × (b ≡ bytes x)
is_bytes (bytes x) e = (x, refl)
is_bytes b e = absurd (omega arith)

is_reference : (b : Data) → rank b ≡ 7 → (x : RefName) × (b ≡ reference x)
is_reference (reference x) e = (x, refl)
is_reference b e = absurd (omega arith)

is_array : (b : Data) → rank b ≡ 8 → (x : Items) × (b ≡ array x)
is_array (array x) e = (x, refl)
is_array b e = absurd (omega arith)

is_map : (b : Data) → rank b ≡ 9 → (x : Members) × (b ≡ map x)
is_map (map x) e = (x, refl)
is_map b e = absurd (omega arith)

-- three values of one kind
by_kind : {A : Type 0} (K : A → Data) (x : A) (b c : Data) → ((y : A) × (b ≡ K y)) → ((z : A) × (c ≡ K z)) → ((y z : A) → cmp (K x) (K y) ≡ Less → cmp (K y) (K z) ≡ Less → cmp (K x) (K z) ≡ Less) → cmp (K x) b ≡ Less → cmp b c ≡ Less → cmp (K x) c ≡ Less
by_kind K x b c (y, eb) (z, ec) chain ab bc = ap (λ d. cmp (K x) d) ec ∙ chain y z (ap (λ d. cmp (K x) d) (sym eb) ∙ ab) ((λ i. cmp (sym eb i) (sym ec i)) ∙ bc)

kinds : (a b c : Data) → (rank b ≡ rank a → rank c ≡ rank a → cmp a c ≡ Less) → cmp a b ≡ Less → cmp b c ≡ Less → cmp a c ≡ Less
kinds a b c kin ab bc =
    let low = rank_upto a b ab in
    let high = rank_upto b c bc in
    elim (cases_lt (rank a) (rank c)) [ inl less ↦ rank_apart a c less | inr level ↦ kin (omega arith) (omega arith) ]

bool_chain : (x y z : Bool) → bool_cmp x y ≡ Less → bool_cmp y z ≡ Less → bool_cmp x z ≡ Less
bool_chain false false z e f = cc
bool_chain false true false e f = cc
bool_chain false true true e f = cc
bool_chain true false z e f = cc
bool_chain true true z e f = cc

mutual
  chain : (a b c : Data) → cmp a b ≡ Less → cmp b c ≡ Less → cmp a c ≡ Less
  chain null b c ab bc = kinds null b c (λ eb ec. let impossible : cmp null null ≡ Less = ap (λ d. cmp null d) (sym (is_null b eb)) ∙ ab in cc) ab bc
  chain (boolean x) b c ab bc = kinds (boolean x) b c (λ eb ec. by_kind boolean x b c (is_boolean b eb) (is_boolean c ec) (bool_chain x) ab bc) ab bc
  chain (integer x) b c ab bc = kinds (integer x) b c (λ eb ec. by_kind integer x b c (is_integer b eb) (is_integer c ec) (ints_compute.total.trans x) ab bc) ab bc
  chain (time x) b c ab bc = kinds (time x) b c (λ eb ec. by_kind time x b c (is_time b eb) (is_time c ec) (times_compute.total.trans x) ab bc) ab bc
  chain (pending x) b c ab bc = kinds (pending x) b c (λ eb ec. by_kind pending x b c (is_pending b eb) (is_pending c ec) (times_compute.total.trans x) ab bc) ab bc
  chain (text x) b c ab bc = kinds (text x) b c (λ eb ec. by_kind text x b c (is_text b eb) (is_text c ec) (texts_compute.total.trans x) ab bc) ab bc
  chain (bytes x) b c ab bc = kinds (bytes x) b c (λ eb ec. by_kind bytes x b c (is_bytes b eb) (is_bytes c ec) (texts_compute.total.trans x) ab bc) ab bc
  chain (reference x) b c ab bc = kinds (reference x) b c (λ eb ec. by_kind reference x b c (is_reference b eb) (is_reference c ec) (λ y z. paths_compute.total.trans (whole_path x) (whole_path y) (whole_path z)) ab bc) ab bc
  chain (array xs) b c ab bc = kinds (array xs) b c (λ eb ec. by_kind array xs b c (is_array b eb) (is_array c ec) (items_chain xs) ab bc) ab bc
  chain (map ms) b c ab bc = kinds (map ms) b c (λ eb ec. by_kind map ms b c (is_map b eb) (is_map c ec) (members_chain ms) ab bc) ab bc

  items_chain : (xs ys zs : Items) → cmp_items xs ys ≡ Less → cmp_items ys zs ≡ Less → cmp_items xs zs ≡ Less
  items_chain no_items no_items zs e f = f
  items_chain no_items (item y ys) no_items e f = cc
  items_chain no_items (item y ys) (item z zs) e f = refl
  items_chain (item x xs) no_items zs e f = cc
  items_chain (item x xs) (item y ys) no_items e f = cc
  items_chain (item x xs) (item y ys) (item z zs) e f =
      then_chain (cmp x y) (cmp y z) (cmp x z) (cmp_items xs ys) (cmp_items ys zs) (cmp_items xs zs)
      (chain x y z) (λ h. ap (λ d. cmp d z) (exact x y h)) (λ h. ap (λ d. cmp x d) (sym (exact y z h))) (items_chain xs ys zs) e f

  members_chain : (ms ns os : Members) → cmp_members ms ns ≡ Less → cmp_members ns os ≡ Less → cmp_members ms os ≡ Less
  members_chain no_members no_members os e f = f
  members_chain no_members (member n y ns) no_members e f = cc
  members_chain no_members (member n y ns) (member o z os) e f = refl
  members_chain (member m x ms) no_members os e f = cc
  members_chain (member m x ms) (member n y ns) no_members e f = cc
  members_chain (member m x ms) (member n y ns) (member o z os) e f =
      let names_first : slice_cmp nat_cmp m n ≡ Equal → slice_cmp nat_cmp m o ≡ slice_cmp nat_cmp n o = λ h. ap (λ k. slice_cmp nat_cmp k o) (texts_compute.exact m n h) in
      let names_second : slice_cmp nat_cmp n o ≡ Equal → slice_cmp nat_cmp m o ≡ slice_cmp nat_cmp m n = λ h. ap (λ k. slice_cmp nat_cmp m k) (sym (texts_compute.exact n o h)) in
      let field_first : ordering_then (slice_cmp nat_cmp m n) (cmp x y) ≡ Equal → ordering_then (slice_cmp nat_cmp m o) (cmp x z) ≡ ordering_then (slice_cmp nat_cmp n o) (cmp y z) =
      λ h. let both = then_equal (slice_cmp nat_cmp m n) (cmp x y) h in λ i. ordering_then (names_first both.0 i) (cmp (exact x y both.1 i) z) in
      let field_second : ordering_then (slice_cmp nat_cmp n o) (cmp y z) ≡ Equal → ordering_then (slice_cmp nat_cmp m o) (cmp x z) ≡ ordering_then (slice_cmp nat_cmp m n) (cmp x y) =
      λ h. let both = then_equal (slice_cmp nat_cmp n o) (cmp y z) h in λ i. ordering_then (names_second both.0 i) (cmp x (sym (exact y z both.1) i)) in
      then_chain (ordering_then (slice_cmp nat_cmp m n) (cmp x y)) (ordering_then (slice_cmp nat_cmp n o) (cmp y z)) (ordering_then (slice_cmp nat_cmp m o) (cmp x z))
      (cmp_members ms ns) (cmp_members ns os) (cmp_members ms os)
      (then_chain (slice_cmp nat_cmp m n) (slice_cmp nat_cmp n o) (slice_cmp nat_cmp m o) (cmp x y) (cmp y z) (cmp x z)
      (texts_compute.total.trans m n o) names_first names_second (chain x y z))
      field_first field_second (members_chain ms ns os) e f

pub total : IsTotalOrder cmp
total = record { antisymm = flip; trans = chain; congr = λ x y z e. ap (λ d. cmp d z) (exact x y e) }

pub itself : (a : Data) → cmp a a ≡ Equal
itself a = tied_itself total a

-- ---- from the comparison to the order

bool_below : (a b : Bool) → bool_cmp a b ≡ Less → Before (boolean a) (boolean b)
bool_below false false e = cc
bool_below false true e = false_first
bool_below true false e = cc
bool_below true true e = cc

behind : {A : Type 0} (Below : A → A → Type 0) (x : A) (xs ys : List A) → ListBefore Below xs ys → ListBefore Below (x ∷ xs) (x ∷ ys)
behind Below x _ _ (differs same a b heads tails below) = differs (x ∷ same) a b heads tails below
behind Below x _ _ (ends same b tails) = ends (x ∷ same) b tails

arrays_before : (xs ys : List Data) → ListBefore Before xs ys → Before (array_of xs) (array_of ys)
arrays_before _ _ (differs same x y xs ys before) = item_first same x y xs ys before
arrays_before _ _ (ends same y ys) = array_ends same y ys

items_before : (xs ys : Items) → ListBefore Before (list_of xs) (list_of ys) → Before (array xs) (array ys)
items_before xs ys before =
    subst (λ a. Before (array a) (array ys)) (items_list xs) (subst (λ b. Before (array_of (list_of xs)) (array b)) (items_list ys) (arrays_before (list_of xs) (list_of ys) before))

-- one field is before another: by its name, and then by its value
data FieldBefore : List ℕ × Data → List ℕ × Data → Type 0 where
  by_name : (m n : List ℕ) (x y : Data) → TextBefore m n → FieldBefore (m, x) (n, y)
  by_value : (n : List ℕ) (x y : Data) → Before x y → FieldBefore (n, x) (n, y)

maps_at : (same : Entries) (e f : List ℕ × Data) (es fs : Entries) → FieldBefore e f → Before (map_of (same ++ e ∷ es)) (map_of (same ++ f ∷ fs))
maps_at same _ _ es fs (by_name m n x y before) = name_first same m n x y es fs before
maps_at same _ _ es fs (by_value n x y before) = value_first same n x y es fs before

maps_before : (es fs : Entries) → ListBefore FieldBefore es fs → Before (map_of es) (map_of fs)
maps_before _ _ (differs same e f es fs before) = maps_at same e f es fs before
maps_before _ _ (ends same f fs) = map_ends same f.0 f.1 fs

members_before : (ms ns : Members) → ListBefore FieldBefore (entries_of ms) (entries_of ns) → Before (map ms) (map ns)
members_before ms ns before =
    subst (λ a. Before (map a) (map ns)) (members_entries ms) (subst (λ b. Before (map_of (entries_of ms)) (map b)) (members_entries ns) (maps_before (entries_of ms) (entries_of ns) before))

mutual
  below : (a b : Data) → cmp a b ≡ Less → Before a b
  below null null e = cc
  below (boolean a) (boolean b) e = bool_below a b e
  below (integer m) (integer n) e = number_below (ints_compute.below m n e)
  below (time t) (time u) e = time_earlier (times_compute.below t u e)
  below (pending t) (pending u) e = write_earlier (times_compute.below t u e)
  below (text s) (text t) e = text_first (texts_compute.below s t e)
  below (bytes s) (bytes t) e = bytes_first (texts_compute.below s t e)
  below (reference r) (reference s) e = path_first (paths_compute.below (whole_path r) (whole_path s) e)
  below (array xs) (array ys) e = items_before xs ys (items_below xs ys e)
  below (map ms) (map ns) e = members_before ms ns (members_below ms ns e)
  below a b e = kind_first (ranked (rank a) (rank b) Less (sym e))

  items_below : (xs ys : Items) → cmp_items xs ys ≡ Less → ListBefore Before (list_of xs) (list_of ys)
  items_below no_items no_items e = cc
  items_below no_items (item y ys) e = ends [] y (list_of ys)
  items_below (item x xs) no_items e = cc
  items_below (item x xs) (item y ys) e = elim (then_less (cmp x y) (cmp_items xs ys) e) [
    | inl less ↦ differs [] x y (list_of xs) (list_of ys) (below x y less)
    | inr both ↦ subst (λ z. ListBefore Before (x ∷ list_of xs) (z ∷ list_of ys)) (exact x y both.0) (behind Before x (list_of xs) (list_of ys) (items_below xs ys both.1))
  ]

  members_below : (ms ns : Members) → cmp_members ms ns ≡ Less → ListBefore FieldBefore (entries_of ms) (entries_of ns)
  members_below no_members no_members e = cc
  members_below no_members (member n y ns) e = ends [] (n, y) (entries_of ns)
  members_below (member m x ms) no_members e = cc
  members_below (member m x ms) (member n y ns) e = elim (then_less (ordering_then (slice_cmp nat_cmp m n) (cmp x y)) (cmp_members ms ns) e) [
    | inl less ↦ differs [] (m, x) (n, y) (entries_of ms) (entries_of ns) (elim (then_less (slice_cmp nat_cmp m n) (cmp x y) less) [
      | inl names ↦ by_name m n x y (texts_compute.below m n names)
      | inr values ↦ subst (λ k. FieldBefore (m, x) (k, y)) (texts_compute.exact m n values.0) (by_value m x y (below x y values.1))
    ])
    | inr both ↦
        let level = then_equal (slice_cmp nat_cmp m n) (cmp x y) both.0 in
        let names = texts_compute.exact m n level.0 in
        let fields : ◌≡◌ {A = List ℕ × Data} (m, x) (n, y) = λ i. (names i, exact x y level.1 i) in
        subst (λ z. ListBefore FieldBefore ((m, x) ∷ entries_of ms) (z ∷ entries_of ns)) fields (behind FieldBefore (m, x) (entries_of ms) (entries_of ns) (members_below ms ns both.1))
  ]

-- ---- and back

after_items : (same xs ys : List Data) → cmp_items (items_of (same ++ xs)) (items_of (same ++ ys)) ≡ cmp_items (items_of xs) (items_of ys)
after_items [] xs ys = refl
after_items (x ∷ same) xs ys = ap (λ o. ordering_then o (cmp_items (items_of (same ++ xs)) (items_of (same ++ ys)))) (itself x) ∙ after_items same xs ys

items_end : (same : List Data) (y : Data) (ys : List Data) → cmp_items (items_of same) (items_of (same ++ y ∷ ys)) ≡ Less
items_end [] y ys = refl
items_end (x ∷ same) y ys = ap (λ o. ordering_then o (cmp_items (items_of same) (items_of (same ++ y ∷ ys)))) (itself x) ∙ items_end same y ys

field_itself : (n : List ℕ) (x : Data) → ordering_then (slice_cmp nat_cmp n n) (cmp x x) ≡ Equal
field_itself n x = ap (λ o. ordering_then o (cmp x x)) (tied_itself texts_compute.total n) ∙ itself x

after_members : (same es fs : Entries) → cmp_members (members_of (same ++ es)) (members_of (same ++ fs)) ≡ cmp_members (members_of es) (members_of fs)
after_members [] es fs = refl
after_members (e ∷ same) es fs = ap (λ o. ordering_then o (cmp_members (members_of (same ++ es)) (members_of (same ++ fs)))) (field_itself e.0 e.1) ∙ after_members same es fs

members_end : (same : Entries) (f : List ℕ × Data) (fs : Entries) → cmp_members (members_of same) (members_of (same ++ f ∷ fs)) ≡ Less
members_end [] f fs = refl
members_end (e ∷ same) f fs = ap (λ o. ordering_then o (cmp_members (members_of same) (members_of (same ++ f ∷ fs)))) (field_itself e.0 e.1) ∙ members_end same f fs

less : (a b : Data) → Before a b → cmp a b ≡ Less
less a b (kind_first higher) = rank_apart a b higher
less _ _ false_first = refl
less _ _ (number_below {m} {n} before) = ints_compute.less m n before
less _ _ (time_earlier {t} {u} before) = times_compute.less t u before
less _ _ (write_earlier {t} {u} before) = times_compute.less t u before
less _ _ (text_first {s} {t} before) = texts_compute.less s t before
less _ _ (bytes_first {s} {t} before) = texts_compute.less s t before
less _ _ (path_first {r} {s} before) = paths_compute.less (whole_path r) (whole_path s) before
less _ _ (item_first same x y xs ys before) = after_items same (x ∷ xs) (y ∷ ys) ∙ ap (λ o. ordering_then o (cmp_items (items_of xs) (items_of ys))) (less x y before)
less _ _ (array_ends same y ys) = items_end same y ys
less _ _ (name_first same m n x y es fs before) =
    after_members same ((m, x) ∷ es) ((n, y) ∷ fs) ∙ ap (λ o. ordering_then (ordering_then o (cmp x y)) (cmp_members (members_of es) (members_of fs))) (texts_compute.less m n before)
less _ _ (value_first same n x y es fs before) =
    after_members same ((n, x) ∷ es) ((n, y) ∷ fs)
    ∙ ap (λ o. ordering_then (ordering_then o (cmp x y)) (cmp_members (members_of es) (members_of fs))) (tied_itself texts_compute.total n)
    ∙ ap (λ o. ordering_then o (cmp_members (members_of es) (members_of fs))) (less x y before)
less _ _ (map_ends same n y fs) = members_end same (n, y) fs

pub values_compute : Computes cmp Before
values_compute = record { total = total; exact = exact; below = below; less = less }

-- ---- what a comparison answers

reversed_less : (o : Ordering) → ordering_reverse o ≡ Greater → o ≡ Less
reversed_less Less e = refl
reversed_less Equal e = cc
reversed_less Greater e = cc

neither_first : (a b : Data) (o : Ordering) → cmp a b ≡ o → ¬ (Before a b) → ¬ (Before b a) → o ≡ Equal
neither_first a b Less is first second = absurd (first (below a b is))
neither_first a b Equal is first second = refl
neither_first a b Greater is first second = absurd (second (below b a (reversed_less (cmp b a) (sym (flip a b) ∙ is))))

pub ranks_values : (order : Ordering) (a b : Data) → order ≡ cmp a b → RanksValues order a b
ranks_values order a b is = record {
  less = (λ e. below a b (sym is ∙ e), λ before. is ∙ less a b before);
  greater = (λ e. below b a (reversed_less (cmp b a) (sym (flip a b) ∙ sym is ∙ e)), λ before. is ∙ flip a b ∙ ap ordering_reverse (less b a before));
  equal = (λ e. exact a b (sym is ∙ e), λ e. is ∙ ap (λ d. cmp a d) (sym e) ∙ itself a);
  neither = (λ e. (λ before. let first = less a b before in cc, λ before. let second = flip a b ∙ ap ordering_reverse (less b a before) in cc), λ none. is ∙ neither_first a b (cmp a b) refl none.0 none.1);
}

pub ranked_by : (order : Ordering) (a b : Data) → RanksValues order a b → order ≡ cmp a b
ranked_by Less a b ranks = sym (less a b (ranks.less.0 refl))
ranked_by Equal a b ranks = sym (ap (λ d. cmp a d) (sym (ranks.equal.0 refl)) ∙ itself a)
ranked_by Greater a b ranks = sym (flip a b ∙ ap ordering_reverse (less b a (ranks.greater.0 refl)))

-- ---- lists of values and fields

pub items_cmp : (xs ys : List Data) → cmp_items (items_of xs) (items_of ys) ≡ slice_cmp cmp xs ys
items_cmp [] [] = refl
items_cmp [] (y ∷ ys) = refl
items_cmp (x ∷ xs) [] = refl
items_cmp (x ∷ xs) (y ∷ ys) = ap (λ o. ordering_then (cmp x y) o) (items_cmp xs ys)

abbrev pub field_cmp : List ℕ × Data → List ℕ × Data → Ordering
field_cmp e f = ordering_then (slice_cmp nat_cmp e.0 f.0) (cmp e.1 f.1)

pub members_cmp : (es fs : Entries) → cmp_members (members_of es) (members_of fs) ≡ slice_cmp field_cmp es fs
members_cmp [] [] = refl
members_cmp [] (f ∷ fs) = refl
members_cmp (e ∷ es) [] = refl
members_cmp (e ∷ es) (f ∷ fs) = ap (λ o. ordering_then (field_cmp e f) o) (members_cmp es fs)

-- what a comparison of the paths of two names answers
pub ranked_paths : (order : Ordering) (r s : RefName) → Ranks order (whole_path r) (whole_path s) → order ≡ name_cmp r s
ranked_paths Less r s ranks = sym (paths_compute.less (whole_path r) (whole_path s) (ranks.less.0 refl))
ranked_paths Equal r s ranks = sym (ap (λ p. slice_cmp (slice_cmp nat_cmp) (whole_path r) p) (sym (ranks.equal.0 refl)) ∙ tied_itself paths_compute.total (whole_path r))
ranked_paths Greater r s ranks =
    sym (paths_compute.total.antisymm (whole_path r) (whole_path s) ∙ ap ordering_reverse (paths_compute.less (whole_path s) (whole_path r) (ranks.greater.0 refl)))
