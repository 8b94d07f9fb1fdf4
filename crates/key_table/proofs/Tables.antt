-- what a table holds after a change at one key
use Rattle.std.proofs.Common.{◌≡◌, ◌∙◌, ℕ, Bool, true, false, cond, nat_eq, IsTrue, List, Option, Some, None, refl, sym, ap, subst}
use Rattle.std.specs.BTreeSet.{BTreeSet}
use Rattle.std.specs.Cmp.Lexicographic.{lists_ties, pointwise, slice_cmp, texts_ties}
use Rattle.std.specs.Map.{lookup}
use Rattle.std.specs.Option.{IfSome, is_some, option_and_then, option_map}
use Rattle.std.specs.Ordering.{nat_cmp}
use Rattle.document_keys.specs.KeySet.{is_key}
use Rattle.document_keys.specs.Names.{IsKey}
use Rattle.document_keys.proofs.Exact.{key_is, key_same}
use Rattle.key_table.specs.Table.{AreInOrder, HasKeysOf, Orders, Pairs, Puts, has_key, ordered, value_at}

-- the test of a table by hash, segment for segment, is that of the order
pub same_test : pointwise (pointwise nat_eq) ≡ is_key
same_test = λ i key other. lists_ties (slice_cmp nat_cmp) texts_ties key other i

module _ {V : Type 0} where
  -- what a table by hash finds is the key's value
  pub found : (table : Pairs V) (key : List (List ℕ)) → lookup (pointwise (pointwise nat_eq) key) table ≡ value_at table key
  found table key = ap (λ test. lookup (test key) table) same_test

  none_of : (o : Option V) → is_some o ≡ false → o ≡ None
  none_of None e = refl
  none_of (Some x) e = cc

  -- the order by each key
  pub same_ordered : (table : Pairs V) (order : Option (BTreeSet (List (List ℕ)))) → IfSome order (λ set. HasKeysOf table set.keys) → (q : List (List ℕ)) → IfSome (ordered order q) (λ had. had ≡ has_key table q)
  same_ordered table None same q = tt
  same_ordered table (Some set) same q = same q

  pub ordered_same : (table : Pairs V) (order : Option (BTreeSet (List (List ℕ)))) → ((q : List (List ℕ)) → IfSome (ordered order q) (λ had. had ≡ has_key table q)) → IfSome order (λ set. HasKeysOf table set.keys)
  ordered_same table None same = tt
  ordered_same table (Some set) same = same

  module _ (old new : Pairs V) (key : List (List ℕ)) (w : Option V) where
    -- one key has the value w, or none, and every other the one that it had
    pub changed : ((q : List (List ℕ)) → lookup (pointwise (pointwise nat_eq) q) new ≡ cond (pointwise (pointwise nat_eq) key q) w (lookup (pointwise (pointwise nat_eq) q) old)) → (q : List (List ℕ)) → value_at new q ≡ cond (is_key key q) w (value_at old q)
    changed is = subst (λ test. (q : List (List ℕ)) → lookup (test q) new ≡ cond (test key q) w (lookup (test q) old)) same_test is

    -- the keys stay in order where the one that changes is put there, or taken away
    pub still_in_order : (order after : Option (BTreeSet (List (List ℕ)))) → ((q : List (List ℕ)) → value_at new q ≡ cond (is_key key q) w (value_at old q)) → Orders key (is_some w) order after
        → (IsTrue (is_some w) → IsKey key) → AreInOrder old order → AreInOrder new after
    still_in_order order after is moved of_key were = record {
      of_documents = λ q there. document q (is_key key q) refl there;
      same = ordered_same new after (λ q. still q (is_key key q) (ordered order q) (ordered after q) (is q) (moved q) (same_ordered old order were.same q));
    }
      where
        document : (q : List (List ℕ)) (b : Bool) → is_key key q ≡ b → IsTrue (has_key new q) → IsKey q
        document q true e there = subst IsKey (key_is key q e) (of_key (subst (λ o. IsTrue (is_some o)) (is q ∙ ap (λ b. cond b w (value_at old q)) e) there))
        document q false e there = were.of_documents q (subst (λ o. IsTrue (is_some o)) (is q ∙ ap (λ b. cond b w (value_at old q)) e) there)

        still : (q : List (List ℕ)) (b : Bool) (o n : Option Bool) → value_at new q ≡ cond b w (value_at old q) → n ≡ option_map (λ had. cond b (is_some w) had) o → IfSome o (λ had. had ≡ has_key old q) → IfSome n (λ had. had ≡ has_key new q)
        still q b None n is moved had = subst (λ x. IfSome x (λ had. had ≡ has_key new q)) (sym moved) tt
        still q true (Some x) n is moved had = subst (λ x. IfSome x (λ had. had ≡ has_key new q)) (sym moved) (ap is_some (sym is))
        still q false (Some x) n is moved had = subst (λ x. IfSome x (λ had. had ≡ has_key new q)) (sym moved) (had ∙ ap is_some (sym is))

  -- a table keeps its keys in order where the one that changes was there, and stays
  module _ (old new : Pairs V) (key : List (List ℕ)) (w : V) where
    pub stays : (order : Option (BTreeSet (List (List ℕ)))) → ((q : List (List ℕ)) → value_at new q ≡ cond (is_key key q) (Some w) (value_at old q)) → IsTrue (has_key old key) → AreInOrder old order → AreInOrder new order
    stays order is there were = still_in_order old new key (Some w) order order is (λ q. put q (is_key key q) refl (ordered order q) (same_ordered old order were.same q)) (λ some. were.of_documents key there) were
      where
        put : (q : List (List ℕ)) (b : Bool) → is_key key q ≡ b → (o : Option Bool) → IfSome o (λ had. had ≡ has_key old q) → o ≡ option_map (λ had. cond b true had) o
        put q b e None had = refl
        put q true e (Some x) had = ap Some (had ∙ subst (λ k. has_key old k ≡ true) (key_is key q e) there)
        put q false e (Some x) had = refl

  module _ (old new : Pairs V) where
    pub same_values : ((q : List (List ℕ)) → lookup (pointwise (pointwise nat_eq) q) new ≡ lookup (pointwise (pointwise nat_eq) q) old) → (q : List (List ℕ)) → value_at new q ≡ value_at old q
    same_values is = subst (λ test. (q : List (List ℕ)) → lookup (test q) new ≡ lookup (test q) old) same_test is

    -- the order of the pairs may change
    pub reordered : (order : Option (BTreeSet (List (List ℕ)))) → ((q : List (List ℕ)) → value_at new q ≡ value_at old q) → AreInOrder old order → AreInOrder new order
    reordered order is were = record {
      of_documents = λ q there. were.of_documents q (subst (λ o. IsTrue (is_some o)) (is q) there);
      same = ordered_same new order (λ q. subst (λ o. IfSome (ordered order q) (λ had. had ≡ is_some o)) (sym (is q)) (same_ordered old order were.same q));
    }

  -- what a change at one key shows to those who read the values through f
  module _ (old new : Pairs V) (key : List (List ℕ)) (w : V) (puts : Puts key (Some w) old new) where
    pub put_there : value_at new key ≡ Some w
    put_there = puts key ∙ ap (λ b. cond b (Some w) (value_at old key)) (key_same key key refl)

    pub keys_stay : (q : List (List ℕ)) → IsTrue (has_key old q) → IsTrue (has_key new q)
    keys_stay q had = by (is_key key q) refl
      where
        by : (b : Bool) → is_key key q ≡ b → IsTrue (has_key new q)
        by true e = ap is_some (puts q ∙ ap (λ b. cond b (Some w) (value_at old q)) e)
        by false e = ap is_some (puts q ∙ ap (λ b. cond b (Some w) (value_at old q)) e) ∙ had

    -- a value that shows nothing, where none was
    pub shows_nothing : {W : Type 0} (f : V → Option W) → f w ≡ None → has_key old key ≡ false → (q : List (List ℕ)) → option_and_then f (value_at new q) ≡ option_and_then f (value_at old q)
    shows_nothing f nothing none q = by (is_key key q) refl
      where
        by : (b : Bool) → is_key key q ≡ b → option_and_then f (value_at new q) ≡ option_and_then f (value_at old q)
        by true e =
            let none_there : value_at old q ≡ None = none_of (value_at old q) (subst (λ k. has_key old k ≡ false) (key_is key q e) none) in
            ap (option_and_then f) (puts q ∙ ap (λ b. cond b (Some w) (value_at old q)) e) ∙ nothing ∙ sym (ap (option_and_then f) none_there)
        by false e = ap (option_and_then f) (puts q ∙ ap (λ b. cond b (Some w) (value_at old q)) e)
