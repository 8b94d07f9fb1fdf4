-- where a name stands among ascending names, and what a look-up, a put and a removal are there
use Rattle.std.proofs.Common.{◌≡◌, ◌∙◌, inl, inr, ℕ, zero, suc, ◌<◌, ◌≤◌, cond, Ordering, Less, Equal, Greater, Result, Ok, Err, IfOk, IfErr, Some, None, List, [], ◌∷◌, length, get_or, set, refl, sym, ap, subst, arith}
use Rattle.std.specs.Cmp.{tied_itself}
use Rattle.std.specs.Cmp.Lexicographic.{slice_cmp}
use Rattle.std.specs.Ordering.{nat_cmp, is_eq, match_ordering, ordering_index, ordering_reverse}
use Rattle.std.specs.BTreeMap.{is_at}
use Rattle.std.specs.List.{All, AllPairs, AllWithin, HoldsAt, insert, remove}
use Rattle.std.specs.List.Sorted.{IsBinarySearchResult, IsNonDecreasingBy, IsSearchInRange}
use Rattle.std.specs.Map.{keys_of, lookup}
use Rattle.std.proofs.lemmas.Bool.{cases_lt}
use Rattle.std.proofs.lemmas.List.{get_or-map}
use Rattle.std.proofs.lemmas.Map.Views.{All-keys-insert_entry, All-map-remove_entry}
use Rattle.document_keys.specs.Order.{TextBefore}
use Rattle.document_keys.specs.Paths.{IsFieldName}
use Rattle.document_keys.proofs.Order.{texts_compute}
use Rattle.document_keys.proofs.Sets.{ascending-insert, ascending-remove}
use Rattle.value_model.specs.declared.fields.Field.{Field}
use Rattle.value_model.specs.Data.{Data, Entries}
use Rattle.value_model.specs.Fields.{AreFields, IsAt, IsGapFor, field, with_field, without_field}
use Rattle.value_model.specs.Named.{field_data, fields_data}
use Rattle.value_model.proofs.Named.{names_count, name_at}

-- ---- texts that are before one another

reversed_greater : (o : Ordering) → o ≡ Greater → ordering_reverse o ≡ Less
reversed_greater Less e = cc
reversed_greater Equal e = cc
reversed_greater Greater e = refl

pub compared_below : (m n : List ℕ) → TextBefore m n → slice_cmp nat_cmp n m ≡ Greater
compared_below m n before = texts_compute.total.antisymm n m ∙ ap ordering_reverse (texts_compute.less m n before)

pub below_from : (m n : List ℕ) → slice_cmp nat_cmp m n ≡ Greater → TextBefore n m
below_from m n e = texts_compute.below n m (texts_compute.total.antisymm n m ∙ reversed_greater (slice_cmp nat_cmp m n) e)

pub compared_same : (m n : List ℕ) → m ≡ n → slice_cmp nat_cmp n m ≡ Equal
compared_same m n e = ap (λ k. slice_cmp nat_cmp n k) e ∙ tied_itself texts_compute.total n

-- ---- the search

index_most : (o : Ordering) → ordering_index o ≤ 2
index_most Less = omega arith
index_most Equal = omega arith
index_most Greater = omega arith

rises : (x y key : List ℕ) (o : Ordering) → slice_cmp nat_cmp y key ≡ o → TextBefore x y → ordering_index (slice_cmp nat_cmp x key) ≤ ordering_index o
rises x y key Less is before = let l = texts_compute.total.trans x y key (texts_compute.less x y before) is in rw l (omega arith)
rises x y key Equal is before = let l : slice_cmp nat_cmp x key ≡ Less = ap (λ k. slice_cmp nat_cmp x k) (sym (texts_compute.exact y key is)) ∙ texts_compute.less x y before in rw l (omega arith)
rises x y key Greater is before = index_most (slice_cmp nat_cmp x key)

module _ (fields : List Field) (name : List ℕ) (ascending : AllPairs TextBefore (keys_of (fields_data fields))) where
  rising : IsNonDecreasingBy (λ f. ordering_index (slice_cmp nat_cmp f.name name)) fields
  rising i j d upto below =
      let count = names_count fields in
      elim (cases_lt i j) [
        | inl before ↦
            let names = keys_of (fields_data fields) in
            let apart : TextBefore (get_or fields i d).name (get_or fields j d).name =
            subst (λ m. TextBefore m (get_or fields j d).name) (name_at fields i d [] (omega arith)) (subst (λ m. TextBefore (get_or names i []) m) (name_at fields j d [] below) (ascending i j [] before (omega arith))) in
            rises (get_or fields i d).name (get_or fields j d).name name _ refl apart
        | inr notbefore ↦ let same : i ≡ j = omega arith in subst (λ k. ordering_index (slice_cmp nat_cmp (get_or fields k d).name name) ≤ ordering_index (slice_cmp nat_cmp (get_or fields j d).name name)) (sym same) (omega arith)
      ]

  at_here : (d : Field) (i : ℕ) → i < length fields → HoldsAt (λ f. slice_cmp nat_cmp f.name name ≡ Equal) fields i → IsAt (keys_of (fields_data fields)) name i
  at_here d i inside here =
      let count = names_count fields in
      let names = keys_of (fields_data fields) in
      let at : (e : List ℕ) → get_or names i e ≡ name = λ e. name_at fields i d e inside ∙ texts_compute.exact (get_or fields i d).name name (here d) in
      record {
        inside = omega arith;
        below = λ k e low high. subst (λ m. TextBefore (get_or names k e) m) (at e) (ascending k i e high (omega arith));
        here = at;
      }

  found_at : (i : ℕ) (xs : List Field) → xs ≡ fields → i < length fields → HoldsAt (λ f. slice_cmp nat_cmp f.name name ≡ Equal) fields i → IsAt (keys_of (fields_data fields)) name i
  found_at i [] is inside here = let size : 0 ≡ length fields = ap length is in absurd (omega arith)
  found_at i (x ∷ xs) is inside here = at_here x i inside here

  gap_here : (d : Field) (i : ℕ) → i ≤ length fields → AllWithin (λ f. slice_cmp nat_cmp f.name name ≡ Less) fields 0 i → AllWithin (λ f. slice_cmp nat_cmp f.name name ≡ Greater) fields i (length fields) → IsGapFor (keys_of (fields_data fields)) name i
  gap_here d i inside low high =
      let count = names_count fields in
      record {
        inside = omega arith;
        below = λ k e from to. subst (λ m. TextBefore m name) (sym (name_at fields k d e (omega arith))) (texts_compute.below (get_or fields k d).name name (low k d from to));
        above = λ k e from to. let within : k < length fields = omega arith in subst (λ m. TextBefore name m) (sym (name_at fields k d e within)) (below_from (get_or fields k d).name name (high k d from within));
      }

  gap_at : (i : ℕ) (xs : List Field) → xs ≡ fields → i ≤ length fields → AllWithin (λ f. slice_cmp nat_cmp f.name name ≡ Less) fields 0 i → AllWithin (λ f. slice_cmp nat_cmp f.name name ≡ Greater) fields i (length fields) → IsGapFor (keys_of (fields_data fields)) name i
  gap_at i [] is inside low high =
      let size : 0 ≡ length fields = ap length is in
      let count = names_count fields in
      record { inside = omega arith; below = λ k e from to. absurd (omega arith); above = λ k e from to. absurd (omega arith) }
  gap_at i (x ∷ xs) is inside low high = gap_here x i inside low high

  pub found : (result : Result ℕ ℕ) → IsSearchInRange result (length fields) → IsBinarySearchResult (λ f. slice_cmp nat_cmp f.name name) fields result → IfOk result (λ at. IsAt (keys_of (fields_data fields)) name at)
  found (Ok i) inside is = found_at i fields refl inside is
  found (Err i) inside is = tt

  pub missed : (result : Result ℕ ℕ) → IsSearchInRange result (length fields) → IsBinarySearchResult (λ f. slice_cmp nat_cmp f.name name) fields result → IfErr result (λ at. IsGapFor (keys_of (fields_data fields)) name at)
  missed (Ok i) inside is = tt
  missed (Err i) inside is = let split = is rising in gap_at i fields refl inside split.0 split.1

-- ---- one place further in

at_tail : (m n : List ℕ) (ms : List (List ℕ)) (i : ℕ) → IsAt (m ∷ ms) n (suc i) → IsAt ms n i
at_tail m n ms i at = let inside = at.inside in record { inside = omega arith; below = λ k e low high. at.below (suc k) e (omega arith) (omega arith); here = λ e. at.here e }

gap_tail : (m n : List ℕ) (ms : List (List ℕ)) (i : ℕ) → IsGapFor (m ∷ ms) n (suc i) → IsGapFor ms n i
gap_tail m n ms i gap =
    let inside = gap.inside in
    record {
      inside = omega arith;
      below = λ k e low high. gap.below (suc k) e (omega arith) (omega arith);
      above = λ k e low high. gap.above (suc k) e (omega arith) (omega arith);
    }

gap_first : (m n : List ℕ) (ms : List (List ℕ)) → IsGapFor (m ∷ ms) n 0 → IsGapFor ms n 0
gap_first m n ms gap =
    record {
      inside = omega arith;
      below = λ k e low high. absurd (omega arith);
      above = λ k e low high. gap.above (suc k) e (omega arith) (omega arith);
    }

-- ---- what stands at a place

pub field_at : (es : Entries) (n : List ℕ) (i : ℕ) (d : List ℕ × Data) → IsAt (keys_of es) n i → field es n ≡ Some (get_or es i d).1
field_at [] n i d at = let inside = at.inside in absurd (omega arith)
field_at (e ∷ es) n zero d at = ap (λ o. cond (is_eq o) (Some e.1) (lookup (is_at (slice_cmp nat_cmp n)) es)) (compared_same e.0 n (at.here []))
field_at (e ∷ es) n (suc i) d at =
    ap (λ o. cond (is_eq o) (Some e.1) (lookup (is_at (slice_cmp nat_cmp n)) es)) (compared_below e.0 n (at.below 0 [] (omega arith) (omega arith)))
    ∙ field_at es n i d (at_tail e.0 n (keys_of es) i at)

pub no_field : (es : Entries) (n : List ℕ) (i : ℕ) → IsGapFor (keys_of es) n i → field es n ≡ None
no_field [] n i gap = refl
no_field (e ∷ es) n zero gap =
    ap (λ o. cond (is_eq o) (Some e.1) (lookup (is_at (slice_cmp nat_cmp n)) es)) (texts_compute.less n e.0 (gap.above 0 [] (omega arith) (omega arith)))
    ∙ no_field es n zero (gap_first e.0 n (keys_of es) gap)
no_field (e ∷ es) n (suc i) gap =
    ap (λ o. cond (is_eq o) (Some e.1) (lookup (is_at (slice_cmp nat_cmp n)) es)) (compared_below e.0 n (gap.below 0 [] (omega arith) (omega arith)))
    ∙ no_field es n i (gap_tail e.0 n (keys_of es) i gap)

pub put_at : (fields : List Field) (n : List ℕ) (v : Data) (i : ℕ) (d : Field) → IsAt (keys_of (fields_data fields)) n i → with_field (fields_data fields) n v ≡ fields_data (set fields i (record { name = (get_or fields i d).name; value = v }))
put_at [] n v i d at = let inside = at.inside in absurd (omega arith)
put_at (f ∷ fs) n v zero d at =
    ap (λ o. match_ordering o ((n, v) ∷ field_data f ∷ fields_data fs) ((f.name, v) ∷ fields_data fs) (field_data f ∷ with_field (fields_data fs) n v)) (compared_same f.name n (at.here []))
put_at (f ∷ fs) n v (suc i) d at =
    ap (λ o. match_ordering o ((n, v) ∷ field_data f ∷ fields_data fs) ((f.name, v) ∷ fields_data fs) (field_data f ∷ with_field (fields_data fs) n v)) (compared_below f.name n (at.below 0 [] (omega arith) (omega arith)))
    ∙ ap (λ es. field_data f ∷ es) (put_at fs n v i d (at_tail f.name n (keys_of (fields_data fs)) i at))

pub put_gap : (fields : List Field) (n : List ℕ) (v : Data) (i : ℕ) → IsGapFor (keys_of (fields_data fields)) n i → with_field (fields_data fields) n v ≡ fields_data (insert fields i (record { name = n; value = v }))
put_gap [] n v zero gap = refl
put_gap [] n v (suc i) gap = let inside = gap.inside in absurd (omega arith)
put_gap (f ∷ fs) n v zero gap =
    ap (λ o. match_ordering o ((n, v) ∷ field_data f ∷ fields_data fs) ((f.name, v) ∷ fields_data fs) (field_data f ∷ with_field (fields_data fs) n v)) (texts_compute.less n f.name (gap.above 0 [] (omega arith) (omega arith)))
put_gap (f ∷ fs) n v (suc i) gap =
    ap (λ o. match_ordering o ((n, v) ∷ field_data f ∷ fields_data fs) ((f.name, v) ∷ fields_data fs) (field_data f ∷ with_field (fields_data fs) n v)) (compared_below f.name n (gap.below 0 [] (omega arith) (omega arith)))
    ∙ ap (λ es. field_data f ∷ es) (put_gap fs n v i (gap_tail f.name n (keys_of (fields_data fs)) i gap))

pub remove_at : (fields : List Field) (n : List ℕ) (i : ℕ) → IsAt (keys_of (fields_data fields)) n i → without_field (fields_data fields) n ≡ fields_data (remove fields i)
remove_at [] n i at = let inside = at.inside in absurd (omega arith)
remove_at (f ∷ fs) n zero at = ap (λ o. cond (is_eq o) (fields_data fs) (field_data f ∷ without_field (fields_data fs) n)) (compared_same f.name n (at.here []))
remove_at (f ∷ fs) n (suc i) at =
    ap (λ o. cond (is_eq o) (fields_data fs) (field_data f ∷ without_field (fields_data fs) n)) (compared_below f.name n (at.below 0 [] (omega arith) (omega arith)))
    ∙ ap (λ es. field_data f ∷ es) (remove_at fs n i (at_tail f.name n (keys_of (fields_data fs)) i at))

pub remove_none : (es : Entries) (n : List ℕ) (i : ℕ) → IsGapFor (keys_of es) n i → without_field es n ≡ es
remove_none [] n i gap = refl
remove_none (e ∷ es) n zero gap =
    ap (λ o. cond (is_eq o) es (e ∷ without_field es n)) (texts_compute.less n e.0 (gap.above 0 [] (omega arith) (omega arith)))
    ∙ ap (λ l. e ∷ l) (remove_none es n zero (gap_first e.0 n (keys_of es) gap))
remove_none (e ∷ es) n (suc i) gap =
    ap (λ o. cond (is_eq o) es (e ∷ without_field es n)) (compared_below e.0 n (gap.below 0 [] (omega arith) (omega arith)))
    ∙ ap (λ l. e ∷ l) (remove_none es n i (gap_tail e.0 n (keys_of es) i gap))

-- ---- they stay fields

set_names : (fields : List Field) (i : ℕ) (d : Field) (v : Data) → keys_of (fields_data (set fields i (record { name = (get_or fields i d).name; value = v }))) ≡ keys_of (fields_data fields)
set_names [] i d v = refl
set_names (f ∷ fs) zero d v = refl
set_names (f ∷ fs) (suc i) d v = ap (λ ns. f.name ∷ ns) (set_names fs i d v)

pub set_fields : (fields : List Field) (i : ℕ) (d : Field) (v : Data) → AreFields (fields_data fields) → AreFields (fields_data (set fields i (record { name = (get_or fields i d).name; value = v })))
set_fields fields i d v are =
    record {
      names = subst (λ ns. All IsFieldName ns) (sym (set_names fields i d v)) are.names;
      ascending = subst (λ ns. AllPairs TextBefore ns) (sym (set_names fields i d v)) are.ascending;
    }

insert_names : (fields : List Field) (i : ℕ) (f : Field) → keys_of (fields_data (insert fields i f)) ≡ insert (keys_of (fields_data fields)) i f.name
insert_names [] zero f = refl
insert_names [] (suc i) f = refl
insert_names (x ∷ xs) zero f = refl
insert_names (x ∷ xs) (suc i) f = ap (λ ns. x.name ∷ ns) (insert_names xs i f)

pub insert_fields : (fields : List Field) (n : List ℕ) (v : Data) (i : ℕ) → AreFields (fields_data fields) → IsFieldName n → IsGapFor (keys_of (fields_data fields)) n i → AreFields (fields_data (insert fields i (record { name = n; value = v })))
insert_fields fields n v i are good gap =
    record {
      names = subst (λ es. All IsFieldName (keys_of es)) (put_gap fields n v i gap) (All-keys-insert_entry (slice_cmp nat_cmp) n v IsFieldName (fields_data fields) are.names good);
      ascending = subst (λ ns. AllPairs TextBefore ns) (sym (insert_names fields i (record { name = n; value = v }))) (ascending-insert texts_compute (keys_of (fields_data fields)) i n are.ascending gap.inside gap.below gap.above);
    }

remove_names : (fields : List Field) (i : ℕ) → keys_of (fields_data (remove fields i)) ≡ remove (keys_of (fields_data fields)) i
remove_names [] zero = refl
remove_names [] (suc i) = refl
remove_names (x ∷ xs) zero = refl
remove_names (x ∷ xs) (suc i) = ap (λ ns. x.name ∷ ns) (remove_names xs i)

pub remove_fields : (fields : List Field) (n : List ℕ) (i : ℕ) → AreFields (fields_data fields) → IsAt (keys_of (fields_data fields)) n i → AreFields (fields_data (remove fields i))
remove_fields fields n i are at =
    record {
      names = subst (λ es. All IsFieldName (keys_of es)) (remove_at fields n i at) (All-map-remove_entry (is_at (slice_cmp nat_cmp n)) (λ e. e.0) IsFieldName (fields_data fields) are.names);
      ascending = subst (λ ns. AllPairs TextBefore ns) (sym (remove_names fields i)) (ascending-remove texts_compute (keys_of (fields_data fields)) i are.ascending at.inside);
    }

-- ---- the calls, over the fields that the code holds; shown are the same fields, lent

module _ (shown items : List Field) (text name : List ℕ) (same : shown ≡ items) (spelled : text ≡ name) where
  pub place_here : (i : ℕ) → IsAt (keys_of (fields_data shown)) text i → IsAt (keys_of (fields_data items)) name i
  place_here i at = subst (λ fs. IsAt (keys_of (fields_data fs)) name i) same (subst (λ n. IsAt (keys_of (fields_data shown)) n i) spelled at)

  pub gap_between : (i : ℕ) → IsGapFor (keys_of (fields_data shown)) text i → IsGapFor (keys_of (fields_data items)) name i
  gap_between i gap = subst (λ fs. IsGapFor (keys_of (fields_data fs)) name i) same (subst (λ n. IsGapFor (keys_of (fields_data shown)) n i) spelled gap)

  pub got : (i : ℕ) (x : Field) → IsAt (keys_of (fields_data shown)) text i → x ≡ get_or items i x → Some x.value ≡ field (fields_data items) name
  got i x at is =
      let here = place_here i at in
      let count = names_count items in
      let inside = here.inside in
      let stands : get_or (fields_data items) i (field_data x) ≡ field_data x = get_or-map field_data items i x (field_data x) (omega arith) ∙ ap field_data (sym is) in
      ap (λ e. Some e.1) (sym stands) ∙ sym (field_at (fields_data items) name i (field_data x) here)

  pub got_none : (i : ℕ) → IsGapFor (keys_of (fields_data shown)) text i → None ≡ field (fields_data items) name
  got_none i gap = sym (no_field (fields_data items) name i (gap_between i gap))

  module _ (new : List Field) (value : Data) (i : ℕ) (d : Field) where
    pub put_done : IsAt (keys_of (fields_data shown)) text i → new ≡ set items i (record { name = (get_or items i d).name; value = value }) → fields_data new ≡ with_field (fields_data items) name value
    put_done at is = ap fields_data is ∙ sym (put_at items name value i d (place_here i at))

    pub put_kept : new ≡ set items i (record { name = (get_or items i d).name; value = value }) → AreFields (fields_data items) → AreFields (fields_data new)
    put_kept is are = subst (λ fs. AreFields (fields_data fs)) (sym is) (set_fields items i d value are)

    pub insert_done : IsGapFor (keys_of (fields_data shown)) text i → new ≡ insert items i (record { name = name; value = value }) → fields_data new ≡ with_field (fields_data items) name value
    insert_done gap is = ap fields_data is ∙ sym (put_gap items name value i (gap_between i gap))

    pub insert_kept : IsGapFor (keys_of (fields_data shown)) text i → new ≡ insert items i (record { name = name; value = value }) → IsFieldName name → AreFields (fields_data items) → AreFields (fields_data new)
    insert_kept gap is good are = subst (λ fs. AreFields (fields_data fs)) (sym is) (insert_fields items name value i are good (gap_between i gap))

  pub remove_done : (new : List Field) (i : ℕ) → IsAt (keys_of (fields_data shown)) text i → new ≡ remove items i → fields_data new ≡ without_field (fields_data items) name
  remove_done new i at is = ap fields_data is ∙ sym (remove_at items name i (place_here i at))

  pub remove_kept : (new : List Field) (i : ℕ) → IsAt (keys_of (fields_data shown)) text i → new ≡ remove items i → AreFields (fields_data items) → AreFields (fields_data new)
  remove_kept new i at is are = subst (λ fs. AreFields (fields_data fs)) (sym is) (remove_fields items name i are (place_here i at))

  pub remove_missed : (i : ℕ) → IsGapFor (keys_of (fields_data shown)) text i → fields_data items ≡ without_field (fields_data items) name
  remove_missed i gap = sym (remove_none (fields_data items) name i (gap_between i gap))
