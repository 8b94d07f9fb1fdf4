-- fields are a finite map from names to values
use Rattle.std.proofs.Common.{◌≡◌, ◌≢◌, ◌∙◌, ℕ, zero, suc, ◌<◌, false, cond, Ordering, Less, Equal, Greater, Some, None, List, [], ◌∷◌, length, get_or, refl, sym, ap, subst, arith}
use Rattle.std.specs.Cmp.Lexicographic.{slice_cmp}
use Rattle.std.specs.Ordering.{nat_cmp, is_eq, match_ordering}
use Rattle.std.specs.List.{AllPairs}
use Rattle.std.specs.Map.{keys_of}
use Rattle.document_keys.specs.Order.{TextBefore}
use Rattle.document_keys.proofs.Order.{texts_compute}
use Rattle.value_model.specs.Data.{Data, Entries}
use Rattle.value_model.specs.Fields.{IsGapFor, field, with_field, without_field}
use Rattle.value_model.specs.Laws.{FieldsAreAMap}
use Rattle.value_model.proofs.Places.{compared_same, below_from, no_field}

apart_by : (m n : List ℕ) (o : Ordering) → slice_cmp nat_cmp m n ≡ o → m ≢ n → is_eq o ≡ false
apart_by m n Less is other = refl
apart_by m n Equal is other = absurd (other (texts_compute.exact m n is))
apart_by m n Greater is other = refl

-- a field of another name is passed by
pub passed : (e : List ℕ × Data) (es : Entries) (m : List ℕ) → m ≢ e.0 → field (e ∷ es) m ≡ field es m
passed e es m other = ap (λ b. cond b (Some e.1) (field es m)) (apart_by m e.0 (slice_cmp nat_cmp m e.0) refl other)

pub first : (e : List ℕ × Data) (es : Entries) (n : List ℕ) → n ≡ e.0 → field (e ∷ es) n ≡ Some e.1
first e es n same = ap (λ o. cond (is_eq o) (Some e.1) (field es n)) (compared_same e.0 n (sym same))

pub put_here : (es : Entries) (n : List ℕ) (v : Data) → field (with_field es n v) n ≡ Some v
put_here [] n v = first (n, v) [] n refl
put_here (e ∷ es) n v = by (slice_cmp nat_cmp n e.0) refl (put_here es n v)
  where
    by : (o : Ordering) → slice_cmp nat_cmp n e.0 ≡ o → field (with_field es n v) n ≡ Some v → field (match_ordering o ((n, v) ∷ e ∷ es) ((e.0, v) ∷ es) (e ∷ with_field es n v)) n ≡ Some v
    by Less is rest = first (n, v) (e ∷ es) n refl
    by Equal is rest = first (e.0, v) es n (texts_compute.exact n e.0 is)
    by Greater is rest = ap (λ o. cond (is_eq o) (Some e.1) (field (with_field es n v) n)) is ∙ rest

pub put_elsewhere : (es : Entries) (n : List ℕ) (v : Data) (m : List ℕ) → m ≢ n → field (with_field es n v) m ≡ field es m
put_elsewhere [] n v m other = passed (n, v) [] m other
put_elsewhere (e ∷ es) n v m other = by (slice_cmp nat_cmp n e.0) refl (put_elsewhere es n v m other)
  where
    by : (o : Ordering) → slice_cmp nat_cmp n e.0 ≡ o → field (with_field es n v) m ≡ field es m → field (match_ordering o ((n, v) ∷ e ∷ es) ((e.0, v) ∷ es) (e ∷ with_field es n v)) m ≡ field (e ∷ es) m
    by Less is rest = passed (n, v) (e ∷ es) m other
    by Equal is rest =
        let apart : m ≢ e.0 = λ same. other (same ∙ sym (texts_compute.exact n e.0 is)) in
        passed (e.0, v) es m apart ∙ sym (passed e es m apart)
    by Greater is rest = ap (λ r. cond (is_eq (slice_cmp nat_cmp m e.0)) (Some e.1) r) rest

pub tail_pairs : (n : List ℕ) (ns : List (List ℕ)) → AllPairs TextBefore (n ∷ ns) → AllPairs TextBefore ns
tail_pairs n ns all i j d before below = all (suc i) (suc j) d (omega arith) (omega arith)

pub gap_after : (n : List ℕ) (ns : List (List ℕ)) → AllPairs TextBefore (n ∷ ns) → IsGapFor ns n 0
gap_after n ns all = record {
  inside = omega arith;
  below = λ k d low high. absurd (omega arith);
  above = λ k d low high. all 0 (suc k) d (omega arith) (omega arith);
}

above_all : (m n : List ℕ) (ns : List (List ℕ)) → TextBefore m n → AllPairs TextBefore (n ∷ ns) → (k : ℕ) (d : List ℕ) → k < length (n ∷ ns) → TextBefore m (get_or (n ∷ ns) k d)
above_all m n ns before all zero d below = before
above_all m n ns before all (suc k) d below =
    texts_compute.below m (get_or ns k d) (texts_compute.total.trans m n (get_or ns k d) (texts_compute.less m n before) (texts_compute.less n (get_or ns k d) (all 0 (suc k) d (omega arith) below)))

pub gap_under : (m n : List ℕ) (ns : List (List ℕ)) → TextBefore m n → AllPairs TextBefore (n ∷ ns) → IsGapFor (n ∷ ns) m 0
gap_under m n ns before all = record {
  inside = omega arith;
  below = λ k d low high. absurd (omega arith);
  above = λ k d low high. above_all m n ns before all k d high;
}

pub removed_here : (es : Entries) (n : List ℕ) → AllPairs TextBefore (keys_of es) → field (without_field es n) n ≡ None
removed_here [] n all = refl
removed_here (e ∷ es) n all = by (slice_cmp nat_cmp n e.0) refl (removed_here es n (tail_pairs e.0 (keys_of es) all))
  where
    by : (o : Ordering) → slice_cmp nat_cmp n e.0 ≡ o → field (without_field es n) n ≡ None → field (cond (is_eq o) es (e ∷ without_field es n)) n ≡ None
    by Less is rest = ap (λ o. cond (is_eq o) (Some e.1) (field (without_field es n) n)) is ∙ rest
    by Equal is rest = no_field es n 0 (subst (λ k. IsGapFor (keys_of es) k 0) (sym (texts_compute.exact n e.0 is)) (gap_after e.0 (keys_of es) all))
    by Greater is rest = ap (λ o. cond (is_eq o) (Some e.1) (field (without_field es n) n)) is ∙ rest

pub removed_elsewhere : (es : Entries) (n m : List ℕ) → m ≢ n → field (without_field es n) m ≡ field es m
removed_elsewhere [] n m other = refl
removed_elsewhere (e ∷ es) n m other = by (slice_cmp nat_cmp n e.0) refl (removed_elsewhere es n m other)
  where
    by : (o : Ordering) → slice_cmp nat_cmp n e.0 ≡ o → field (without_field es n) m ≡ field es m → field (cond (is_eq o) es (e ∷ without_field es n)) m ≡ field (e ∷ es) m
    by Less is rest = ap (λ r. cond (is_eq (slice_cmp nat_cmp m e.0)) (Some e.1) r) rest
    by Equal is rest = sym (passed e es m (λ same. other (same ∙ sym (texts_compute.exact n e.0 is))))
    by Greater is rest = ap (λ r. cond (is_eq (slice_cmp nat_cmp m e.0)) (Some e.1) r) rest

-- two maps that answer alike, past their first fields of one name
tails_alike : (e f : List ℕ × Data) (es fs : Entries) → e.0 ≡ f.0 → AllPairs TextBefore (keys_of (e ∷ es)) → AllPairs TextBefore (keys_of (f ∷ fs)) → ((n : List ℕ) → field (e ∷ es) n ≡ field (f ∷ fs) n) → (n : List ℕ) (o : Ordering) → slice_cmp nat_cmp n e.0 ≡ o → field es n ≡ field fs n
tails_alike e f es fs names a b same n Equal is =
    let level = texts_compute.exact n e.0 is in
    no_field es n 0 (subst (λ k. IsGapFor (keys_of es) k 0) (sym level) (gap_after e.0 (keys_of es) a))
    ∙ sym (no_field fs n 0 (subst (λ k. IsGapFor (keys_of fs) k 0) (sym (level ∙ names)) (gap_after f.0 (keys_of fs) b)))
tails_alike e f es fs names a b same n Less is =
    let apart : n ≢ e.0 = λ level. let tied = compared_same e.0 n (sym level) in cc (tied, is) in
    sym (passed e es n apart) ∙ same n ∙ passed f fs n (λ level. apart (level ∙ sym names))
tails_alike e f es fs names a b same n Greater is =
    let apart : n ≢ e.0 = λ level. let tied = compared_same e.0 n (sym level) in cc (tied, is) in
    sym (passed e es n apart) ∙ same n ∙ passed f fs n (λ level. apart (level ∙ sym names))

alike : (es fs : Entries) → AllPairs TextBefore (keys_of es) → AllPairs TextBefore (keys_of fs) → ((n : List ℕ) → field es n ≡ field fs n) → es ≡ fs
alike [] [] a b same = refl
alike [] (f ∷ fs) a b same = let here = first f fs f.0 refl in let told = same f.0 in cc (here, told)
alike (e ∷ es) [] a b same = let here = first e es e.0 refl in let told = same e.0 in cc (here, told)
alike (e ∷ es) (f ∷ fs) a b same = by (slice_cmp nat_cmp e.0 f.0) refl (alike es fs (tail_pairs e.0 (keys_of es) a) (tail_pairs f.0 (keys_of fs) b))
  where
    by : (o : Ordering) → slice_cmp nat_cmp e.0 f.0 ≡ o → (((n : List ℕ) → field es n ≡ field fs n) → es ≡ fs) → e ∷ es ≡ f ∷ fs
    by Less is rest =
        let here = first e es e.0 refl in
        let none = no_field (f ∷ fs) e.0 0 (gap_under e.0 f.0 (keys_of fs) (texts_compute.below e.0 f.0 is) b) in
        let told = same e.0 in
        cc (here, none, told)
    by Equal is rest =
        let names = texts_compute.exact e.0 f.0 is in
        let tails = rest (λ n. tails_alike e f es fs names a b same n (slice_cmp nat_cmp n e.0) refl) in
        let values : Some e.1 ≡ Some f.1 = sym (first e es e.0 refl) ∙ same e.0 ∙ first f fs e.0 names in
        let value : e.1 ≡ f.1 = cc in
        λ i. (names i, value i) ∷ tails i
    by Greater is rest =
        let here = first f fs f.0 refl in
        let none = no_field (e ∷ es) f.0 0 (gap_under f.0 e.0 (keys_of es) (below_from e.0 f.0 is) a) in
        let told = same f.0 in
        cc (here, none, told)

pub map_laws : FieldsAreAMap
map_laws = record {
  put_here = put_here;
  put_elsewhere = put_elsewhere;
  removed_here = λ es n are. removed_here es n are.ascending;
  removed_elsewhere = removed_elsewhere;
  alike = λ es fs a b same. alike es fs a.ascending b.ascending same;
}
