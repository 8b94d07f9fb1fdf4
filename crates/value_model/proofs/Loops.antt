-- the loops of a comparison: over the items of arrays, and over the fields of maps
use Rattle.std.proofs.Common.{◌≡◌, ◌≢◌, ◌∙◌, ℕ, suc, ◌+◌, ◌<◌, true, false, Ordering, Equal, List, [], ◌∷◌, ◌++◌, length, get_or, take, min, refl, sym, ap, arith}
use Rattle.std.specs.Cmp.{tied_itself}
use Rattle.std.specs.Cmp.Lexicographic.{slice_cmp}
use Rattle.std.specs.Ordering.{ordering_then, nat_cmp, is_ne}
use Rattle.std.proofs.lemmas.List.{get_or-map, get_or_default, take_more}
use Rattle.document_keys.proofs.Order.{texts_compute}
use Rattle.value_model.specs.declared.fields.Field.{Field}
use Rattle.value_model.specs.Data.{Data, array_of, map_of}
use Rattle.value_model.specs.Named.{field_data, fields_data}
use Rattle.value_model.specs.Order.{RanksValues}
use Rattle.value_model.proofs.Exact.{cmp, itself, ranks_values, ranked_by, items_cmp, field_cmp, members_cmp}
use Rattle.value_model.proofs.RefNames.{differ, same}
use Rattle.value_model.proofs.Scalars.{decided, slice_at, slice_end}

pub values_apart : (xs ys : List Data) (i : ℕ) (d e : Data) (o : Ordering) → take i xs ≡ take i ys → i < length xs → i < length ys → d ≡ get_or xs i d → e ≡ get_or ys i e → RanksValues o d e → is_ne o ≡ true → RanksValues o (array_of xs) (array_of ys)
values_apart xs ys i d e o front a b here there ranks test =
    ranks_values o (array_of xs) (array_of ys)
    (sym (items_cmp xs ys ∙ slice_at cmp itself xs ys i d e o front a b ((λ k. cmp (sym here k) (sym there k)) ∙ sym (ranked_by o d e ranks)) (differ o test)))

pub values_end : (xs ys : List Data) (i : ℕ) (o : Ordering) → take i xs ≡ take i ys → min (length xs) (length ys) ≡ i → o ≡ nat_cmp (length xs) (length ys) → RanksValues o (array_of xs) (array_of ys)
values_end xs ys i o front is lengths = ranks_values o (array_of xs) (array_of ys) (lengths ∙ sym (items_cmp xs ys ∙ slice_end cmp itself xs ys i front is))

fields_count : (fields : List Field) → length (fields_data fields) ≡ length fields
fields_count [] = refl
fields_count (x ∷ fields) = ap suc (fields_count fields)

field_itself : (e : List ℕ × Data) → field_cmp e e ≡ Equal
field_itself e = ap (λ o. ordering_then o (cmp e.1 e.1)) (tied_itself texts_compute.total e.0) ∙ itself e.1

-- what the comparison of two fields at one place says of the maps
fields_apart : (left right : List Field) (i : ℕ) (d e : Field) (o : Ordering) → take i (fields_data left) ≡ take i (fields_data right) → i < length left → i < length right → field_cmp (field_data (get_or left i d)) (field_data (get_or right i e)) ≡ o → o ≢ Equal → RanksValues o (map_of (fields_data left)) (map_of (fields_data right))
fields_apart left right i d e o front a b is apart =
    let xs = fields_data left in
    let ys = fields_data right in
    let at : field_cmp (get_or xs i (field_data d)) (get_or ys i (field_data e)) ≡ o =
    (λ k. field_cmp (get_or-map field_data left i d (field_data d) a k) (get_or-map field_data right i e (field_data e) b k)) ∙ is in
    let inside = fields_count left in
    let there = fields_count right in
    ranks_values o (map_of xs) (map_of ys) (sym (members_cmp xs ys ∙ slice_at field_cmp field_itself xs ys i (field_data d) (field_data e) o front (omega arith) (omega arith) at apart))

pub names_apart : (left right : List Field) (i : ℕ) (d e : Field) (o : Ordering) → take i (fields_data left) ≡ take i (fields_data right) → i < length left → i < length right → o ≡ slice_cmp nat_cmp (get_or left i d).name (get_or right i e).name → is_ne o ≡ true → RanksValues o (map_of (fields_data left)) (map_of (fields_data right))
names_apart left right i d e o front a b is test =
    let x = get_or left i d in
    let y = get_or right i e in
    fields_apart left right i d e o front a b (ap (λ k. ordering_then k (cmp x.value y.value)) (sym is) ∙ decided o (cmp x.value y.value) (differ o test)) (differ o test)

-- the same names at one place
level_names : (x y : Field) (o : Ordering) → o ≡ slice_cmp nat_cmp x.name y.name → is_ne o ≡ false → slice_cmp nat_cmp x.name y.name ≡ Equal
level_names x y o is test = sym is ∙ same o test

pub fields_differ : (left right : List Field) (i : ℕ) (d e f g : Field) (o p : Ordering) → take i (fields_data left) ≡ take i (fields_data right) → i < length left → i < length right → o ≡ slice_cmp nat_cmp (get_or left i d).name (get_or right i e).name → is_ne o ≡ false → RanksValues p (get_or left i f).value (get_or right i g).value → is_ne p ≡ true → RanksValues p (map_of (fields_data left)) (map_of (fields_data right))
fields_differ left right i d e f g o p front a b is test ranks apart =
    let x = get_or left i f in
    let y = get_or right i g in
    let at : o ≡ slice_cmp nat_cmp x.name y.name = is ∙ (λ k. slice_cmp nat_cmp (get_or_default left i d f a k).name (get_or_default right i e g b k).name) in
    fields_apart left right i f g p front a b (ap (λ k. ordering_then k (cmp x.value y.value)) (level_names x y o at test) ∙ sym (ranked_by p x.value y.value ranks)) (differ p apart)

pub fields_on : (left right : List Field) (i : ℕ) (d e f g : Field) (o p : Ordering) → take i (fields_data left) ≡ take i (fields_data right) → i < length left → i < length right → o ≡ slice_cmp nat_cmp (get_or left i d).name (get_or right i e).name → is_ne o ≡ false → RanksValues p (get_or left i f).value (get_or right i g).value → is_ne p ≡ false → take (i + 1) (fields_data left) ≡ take (i + 1) (fields_data right)
fields_on left right i d e f g o p front a b is test ranks level =
    let x = get_or left i f in
    let y = get_or right i g in
    let at : o ≡ slice_cmp nat_cmp x.name y.name = is ∙ (λ k. slice_cmp nat_cmp (get_or_default left i d f a k).name (get_or_default right i e g b k).name) in
    let names : x.name ≡ y.name = texts_compute.exact x.name y.name (level_names x y o at test) in
    let values : x.value ≡ y.value = ranks.equal.0 (same p level) in
    let xs = fields_data left in
    let ys = fields_data right in
    let inside = fields_count left in
    let there = fields_count right in
    let first : get_or xs i (field_data f) ≡ field_data x = get_or-map field_data left i f (field_data f) a in
    let second : get_or ys i (field_data g) ≡ field_data y = get_or-map field_data right i g (field_data g) b in
    let one : ◌≡◌ {A = List ℕ × Data} (field_data x) (field_data y) = λ k. (names k, values k) in
    let pair = first ∙ one ∙ sym second in
    take_more xs i (field_data f) (omega arith) ∙ (λ k. front k ++ pair k ∷ []) ∙ sym (take_more ys i (field_data g) (omega arith))

pub fields_end : (left right : List Field) (i : ℕ) (o : Ordering) → take i (fields_data left) ≡ take i (fields_data right) → min (length left) (length right) ≡ i → o ≡ nat_cmp (length left) (length right) → RanksValues o (map_of (fields_data left)) (map_of (fields_data right))
fields_end left right i o front is lengths =
    let xs = fields_data left in
    let ys = fields_data right in
    let inside = fields_count left in
    let there = fields_count right in
    ranks_values o (map_of xs) (map_of ys) (lengths ∙ (λ k. nat_cmp (sym inside k) (sym there k)) ∙ sym (members_cmp xs ys ∙ slice_end field_cmp field_itself xs ys i front (omega arith)))
