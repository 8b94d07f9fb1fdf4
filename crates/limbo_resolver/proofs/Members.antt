-- membership of keys, as a test and as a fact
use Rattle.std.proofs.Common.{◌≡◌, ◌∙◌, ◌↔◌, inl, inr, suc, Bool, true, false, not, ◌&&◌, ◌||◌, IsTrue, Ordering, Less, Equal, Greater, List, [], ◌∷◌, ◌++◌, refl, sym, ap, arith}
use Rattle.std.specs.Cmp.Lexicographic.{lists_equiv, lists_ties, nat_list_eq_equiv, slice_cmp, texts_ties}
use Rattle.std.specs.List.{Contains, filter}
use Rattle.std.specs.Ordering.{is_eq, nat_cmp}
use Rattle.std.proofs.lemmas.Bool.{or_cases}
use Rattle.std.proofs.lemmas.List.Folds.{list_any-append}
use Rattle.std.proofs.lemmas.Map.Views.{any-filter_same, list_any-from_Contains}
use Rattle.document_keys.proofs.Order.{paths_compute}
use Rattle.limbo_resolver.specs.Limbo.{Key, has, same_key}

pub key_is : (k q : Key) → same_key k q ≡ true → k ≡ q
key_is k q is = paths_compute.exact k q (equal (slice_cmp (slice_cmp nat_cmp) k q) (sym (lists_ties (slice_cmp nat_cmp) texts_ties k q) ∙ is))
  where
    equal : (o : Ordering) → is_eq o ≡ true → o ≡ Equal
    equal Less e = cc
    equal Equal e = refl
    equal Greater e = cc

pub other_way : (a b : Key) → same_key a b ≡ false → same_key b a ≡ false
other_way a b e = (lists_equiv nat_list_eq_equiv).symm b a ∙ e

there : (keys : List Key) (key : Key) → has keys key ≡ true → Contains keys key
there [] key e = cc
there (k ∷ keys) key e = elim (or_cases (same_key key k) (has keys key) e) [
  | inl here ↦ (0, omega arith, sym (key_is key k here))
  | inr later ↦ (let found = there keys key later in (suc found.0, omega (arith, found.1), found.2))
]

pub has_is : (keys : List Key) (key : Key) (answer : Bool) → IsTrue answer ↔ Contains keys key → answer ≡ has keys key
has_is keys key true iff = sym (list_any-from_Contains (lists_equiv nat_list_eq_equiv) key keys (iff.0 refl))
has_is keys key false iff = go (has keys key) refl
  where
    go : (b : Bool) → has keys key ≡ b → false ≡ b
    go true e = iff.1 (there keys key e)
    go false e = refl

-- a filter by membership keeps a key exactly where the test does
pub has_filter : (p : Key → Bool) (keys : List Key) (key : Key) → has (filter p keys) key ≡ (p key && has keys key)
has_filter p keys key = any-filter_same (same_key key) p (p key) (λ k is. ap p (sym (key_is key k is))) keys

-- what is held once what isn't wanted has gone and what is new has come
pub held_is : (wanted held : List Key) (key : Key) → has (filter (has wanted) held ++ filter (λ k. not (has held k)) wanted) key ≡ has wanted key
held_is wanted held key =
    list_any-append (same_key key) (filter (has wanted) held) (filter (λ k. not (has held k)) wanted)
    ∙ ap (λ b. b || has (filter (λ k. not (has held k)) wanted) key) (has_filter (has wanted) held key)
    ∙ ap (λ b. (has wanted key && has held key) || b) (has_filter (λ k. not (has held k)) wanted key)
    ∙ by (has wanted key) (has held key)
  where
    by : (a b : Bool) → ((a && b) || (not b && a)) ≡ a
    by true true = refl
    by true false = refl
    by false true = refl
    by false false = refl
