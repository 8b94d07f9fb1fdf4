-- places by key, one write more
use Rattle.std.proofs.Common.{◌≡◌, ◌∙◌, ◌+◌, ◌<◌, ◌≤◌, ◌⊎◌, leb, ℕ, inl, inr, Bool, true, false, cond, nat_eq, List, length, get_or, slice_set, Some, refl, sym, ap, subst, arith}
use Rattle.std.specs.Cmp.Lexicographic.{lists_ties, pointwise, slice_cmp, texts_ties}
use Rattle.std.specs.Map.{lookup}
use Rattle.std.specs.Option.{unwrap_or}
use Rattle.std.specs.Ordering.{nat_cmp}
use Rattle.std.proofs.lemmas.Bool.Decides.{leb_tells}
use Rattle.std.proofs.lemmas.List.{get_or-set_same, get_or-set_other, get_or_default, length-set}
use Rattle.document_keys.specs.KeySet.{is_key}
use Rattle.mutations.specs.declared.write.Write.{Write}
use Rattle.keyed_writes.specs.Keyed.{AreLinked, IsNext}
use Rattle.mutations.specs.Written.{written_key}

-- the test of a table by hash, segment for segment, is that of the order
pub same_test : pointwise (pointwise nat_eq) ≡ is_key
same_test = λ i key other. lists_ties (slice_cmp nat_cmp) texts_ties key other i

-- one number isn't above another, or is
abbrev Sides : ℕ → ℕ → Type 0
Sides a b = ((leb a b ≡ true) × (a ≤ b)) ⊎ ((leb a b ≡ false) × (b < a))

module _ (writes : List Write) (key : List (List ℕ)) where
  -- the writes at these places don't have the key
  abbrev pub Lack : ℕ → ℕ → Type 0
  Lack from place = (i : ℕ) (w : Write) → from ≤ i → i < place → is_key (written_key (get_or writes i w)) key ≡ false

  -- a write that has the key is the next one
  pub found_here : (from place : ℕ) (w : Write) → from ≤ place → place < length writes → w ≡ get_or writes place w → is_key (written_key w) key ≡ true → Lack from place → IsNext writes key from place
  found_here from place w behind below is named lack = record {
    behind = behind;
    within = omega arith;
    passed = lack;
    there = λ v under. ap (λ x. is_key (written_key x) key) (get_or_default writes place v w below ∙ sym is) ∙ named;
  }

  -- one that hasn't is passed over
  pub lack_more : (from place : ℕ) (w : Write) → place < length writes → w ≡ get_or writes place w → is_key (written_key w) key ≡ false → Lack from place → Lack from (place + 1)
  lack_more from place w below is other lack i v behind before =
      elim (leb_tells place i) [
        | inl at ↦ let same : i ≡ place = omega (arith, at.1, before) in ap (λ n. is_key (written_key (get_or writes n v)) key) same ∙ ap (λ x. is_key (written_key x) key) (get_or_default writes place v w below ∙ sym is) ∙ other
        | inr past ↦ lack i v behind past.1
      ]

  pub none_found : (from : ℕ) → from ≤ length writes → Lack from (length writes) → IsNext writes key from (length writes)
  none_found from behind lack = record { behind = behind; within = omega arith; passed = lack; there = λ v under. absurd (omega (arith, under)) }

module _ (writes : List Write) (from place : ℕ) (w : Write) (below : place < length writes) (is : w ≡ get_or writes place w) (next_to : from ≡ place + 1) where
  -- the write before has another key
  further : (key : List (List ℕ)) (found : ℕ) → is_key (written_key w) key ≡ false → IsNext writes key from found → IsNext writes key place found
  further key found other was = record {
    behind = let b = was.behind in omega (arith, b, next_to);
    within = was.within;
    passed = λ i v behind before. by i v before (leb_tells (place + 1) i) behind;
    there = was.there;
  }
    where
      by : (i : ℕ) (v : Write) → i < found → Sides (place + 1) i → place ≤ i → is_key (written_key (get_or writes i v)) key ≡ false
      by i v before (inl past) behind = was.passed i v (omega (arith, past.1, next_to)) before
      by i v before (inr at) behind = let same : i ≡ place = omega (arith, at.1, behind) in ap (λ n. is_key (written_key (get_or writes n v)) key) same ∙ ap (λ x. is_key (written_key x) key) (get_or_default writes place v w below ∙ sym is) ∙ other

  -- one write more is linked
  pub linked_more : (key : List (List ℕ)) (firsts after : List (List (List ℕ) × ℕ)) (nexts : List ℕ) (next : ℕ) → key ≡ written_key w → next ≡ unwrap_or (lookup (is_key key) firsts) (length writes)
      → ((q : List (List ℕ)) → lookup (is_key q) after ≡ cond (is_key key q) (Some place) (lookup (is_key q) firsts)) → AreLinked from writes firsts nexts → AreLinked place writes after (slice_set nexts place next)
  linked_more key firsts after nexts next of_write found put was = record {
    first = λ q. subst (λ o. IsNext writes q place (unwrap_or o (length writes))) (sym (put q)) (first_by q (is_key key q) refl);
    long = length-set nexts place next ∙ was.long;
    next = λ i v n behind under. next_by i v n under (leb_tells (place + 1) i) behind;
  }
    where
      first_by : (q : List (List ℕ)) (b : Bool) → is_key key q ≡ b → IsNext writes q place (unwrap_or (cond b (Some place) (lookup (is_key q) firsts)) (length writes))
      first_by q true e = found_here writes q place place w (omega arith) below is (ap (λ k. is_key k q) (sym of_write) ∙ e) (λ i v behind before. absurd (omega (arith, behind, before)))
      first_by q false e = further q (unwrap_or (lookup (is_key q) firsts) (length writes)) (ap (λ k. is_key k q) (sym of_write) ∙ e) (was.first q)

      here : (v : Write) → IsNext writes (written_key (get_or writes place v)) (place + 1) next
      here v =
          subst (λ x. IsNext writes (written_key x) (place + 1) next) (is ∙ get_or_default writes place w v below)
          (subst (λ k. IsNext writes k (place + 1) next) of_write
          (subst (λ f. IsNext writes key f next) next_to (subst (IsNext writes key from) (sym found) (was.first key))))

      next_by : (i : ℕ) (v : Write) (n : ℕ) → i < length writes → Sides (place + 1) i → place ≤ i → IsNext writes (written_key (get_or writes i v)) (i + 1) (get_or (slice_set nexts place next) i n)
      next_by i v n under (inl past) behind =
          subst (IsNext writes (written_key (get_or writes i v)) (i + 1)) (sym (get_or-set_other nexts place i next n (λ same. let p = past.1 in omega (arith, p, same)))) (was.next i v n (omega (arith, past.1, next_to)) under)
      next_by i v n under (inr at) behind =
          let same : i ≡ place = omega (arith, at.1, behind) in
          let inside : place < length nexts = let l = was.long in omega (arith, l, below) in
          subst (λ j. IsNext writes (written_key (get_or writes j v)) (j + 1) (get_or (slice_set nexts place next) j n)) (sym same)
          (subst (IsNext writes (written_key (get_or writes place v)) (place + 1)) (sym (get_or-set_same nexts place next n inside)) (here v))
