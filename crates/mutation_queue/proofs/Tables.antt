-- what a table lists after a change at one key
use Rattle.std.proofs.Common.{◌≡◌, ◌∙◌, ℕ, Bool, true, false, cond, IsTrue, List, Option, Some, None, Ordering, Less, Equal, Greater, nat_eq, refl, sym, ap, subst}
use Rattle.std.specs.FinMap.{slice_cmp-IsAntisymmetric, nat_cmp-IsAntisymmetric}
use Rattle.std.specs.Cmp.{tied_itself}
use Rattle.std.specs.Cmp.Lexicographic.{lists_ties, lists_total, nat_list_cmp_total, pointwise, slice_cmp, texts_ties}
use Rattle.std.specs.Map.{lookup}
use Rattle.std.specs.Ordering.{is_eq, nat_cmp}
use Rattle.std.specs.Option.{is_some, IsSome}
use Rattle.document_keys.specs.KeySet.{is_key}
use Rattle.mutation_queue.specs.Places.{Places, Table, listed_in, room_in, value_at}

is_equal : (o : Ordering) → is_eq o ≡ true → o ≡ Equal
is_equal Less e = cc
is_equal Equal e = refl
is_equal Greater e = cc

-- two keys that tie are the same
pub one_key : (key other : List (List ℕ)) → is_key key other ≡ true → key ≡ other
one_key key other e = slice_cmp-IsAntisymmetric (slice_cmp-IsAntisymmetric nat_cmp-IsAntisymmetric) key other (is_equal _ e)

pub same_itself : (key : List (List ℕ)) → is_key key key ≡ true
same_itself key = ap is_eq (tied_itself (lists_total nat_list_cmp_total) key)

-- the test of a table by hash, segment for segment, is that of the order
pub same_test : pointwise (pointwise nat_eq) ≡ is_key
same_test = λ i key other. lists_ties (slice_cmp nat_cmp) texts_ties key other i

-- what a table by hash finds is the key's value
pub found : (table : Table) (key : List (List ℕ)) → lookup (pointwise (pointwise nat_eq) key) table ≡ value_at table key
found table key = ap (λ test. lookup (test key) table) same_test

-- a change at one key
pub changed : (old new : Table) (key : List (List ℕ)) (w : Option Places) (q : List (List ℕ)) → lookup (pointwise (pointwise nat_eq) q) new ≡ cond (pointwise (pointwise nat_eq) key q) w (lookup (pointwise (pointwise nat_eq) q) old) → value_at new q ≡ cond (is_key key q) w (value_at old q)
changed old new key w q is = subst (λ test. lookup (test q) new ≡ cond (test key q) w (lookup (test q) old)) same_test is

-- one change at a key after another there
pub changed_twice : (old middle new : Table) (key : List (List ℕ)) (v w : Option Places) (q : List (List ℕ)) → value_at middle q ≡ cond (is_key key q) v (value_at old q) → value_at new q ≡ cond (is_key key q) w (value_at middle q) → value_at new q ≡ cond (is_key key q) w (value_at old q)
changed_twice old middle new key v w q first second = second ∙ ap (λ o. cond (is_key key q) w o) first ∙ last (is_key key q)
  where
    last : (b : Bool) → cond b w (cond b v (value_at old q)) ≡ cond b w (value_at old q)
    last true = refl
    last false = refl

module _ (old new : Table) (key q : List (List ℕ)) (w : Option Places) where
  -- the places of every key, where those of one are made anew from its old ones
  pub put_listed : (g : List ℕ → List ℕ) → value_at new q ≡ cond (is_key key q) w (value_at old q) → listed_in w ≡ g (listed_in (value_at old key)) → listed_in (value_at new q) ≡ cond (is_key key q) (g (listed_in (value_at old q))) (listed_in (value_at old q))
  put_listed g is made = by (is_key key q) refl
    where
      by : (b : Bool) → is_key key q ≡ b → listed_in (value_at new q) ≡ cond b (g (listed_in (value_at old q))) (listed_in (value_at old q))
      by true e = ap listed_in (is ∙ ap (λ b. cond b w (value_at old q)) e) ∙ made ∙ ap (λ k. g (listed_in (value_at old k))) (one_key key q e)
      by false e = ap listed_in (is ∙ ap (λ b. cond b w (value_at old q)) e)

  -- no places change
  pub still_listed : value_at new q ≡ cond (is_key key q) w (value_at old q) → listed_in w ≡ listed_in (value_at old key) → listed_in (value_at new q) ≡ listed_in (value_at old q)
  still_listed is made = put_listed (λ l. l) is made ∙ same (is_key key q)
    where
      same : (b : Bool) → cond b (listed_in (value_at old q)) (listed_in (value_at old q)) ≡ listed_in (value_at old q)
      same true = refl
      same false = refl

  -- no room is lost
  pub still_room : value_at new q ≡ cond (is_key key q) w (value_at old q) → (IsTrue (room_in (value_at old key)) → IsTrue (room_in w)) → IsTrue (room_in (value_at old q)) → IsTrue (room_in (value_at new q))
  still_room is held had = by (is_key key q) refl
    where
      by : (b : Bool) → is_key key q ≡ b → IsTrue (room_in (value_at new q))
      by true e = subst (λ o. IsTrue (room_in o)) (sym (is ∙ ap (λ b. cond b w (value_at old q)) e)) (held (subst (λ k. IsTrue (room_in (value_at old k))) (sym (one_key key q e)) had))
      by false e = subst (λ o. IsTrue (room_in o)) (sym (is ∙ ap (λ b. cond b w (value_at old q)) e)) had

  pub put_others : value_at new q ≡ cond (is_key key q) w (value_at old q) → is_key key q ≡ false → value_at new q ≡ value_at old q
  put_others is other = is ∙ ap (λ b. cond b w (value_at old q)) other

  -- where the key has no places, every key keeps its own
  pub none_listed : (g : List ℕ → List ℕ) → value_at new q ≡ value_at old q → listed_in (value_at old key) ≡ g (listed_in (value_at old key)) → listed_in (value_at new q) ≡ cond (is_key key q) (g (listed_in (value_at old q))) (listed_in (value_at old q))
  none_listed g is none = by (is_key key q) refl
    where
      by : (b : Bool) → is_key key q ≡ b → listed_in (value_at new q) ≡ cond b (g (listed_in (value_at old q))) (listed_in (value_at old q))
      by true e = ap listed_in is ∙ subst (λ k. listed_in (value_at old k) ≡ g (listed_in (value_at old k))) (one_key key q e) none
      by false e = ap listed_in is

pub put_here : (old new : Table) (key : List (List ℕ)) (w : Option Places) → value_at new key ≡ cond (is_key key key) w (value_at old key) → value_at new key ≡ w
put_here old new key w is = is ∙ ap (λ b. cond b w (value_at old key)) (same_itself key)

pub none_of : {A : Type 0} (o : Option A) → is_some o ≡ false → o ≡ None
none_of None e = refl
none_of (Some x) e = cc

pub some_of : {A : Type 0} (o : Option A) (x : A) → o ≡ Some x → IsSome o
some_of o x e = subst IsSome (sym e) refl
