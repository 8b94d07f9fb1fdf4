-- a key put into an ascending list of keys, and taken out
use Rattle.std.proofs.Common.{◌≡◌, ◌∙◌, inl, inr, Bool, true, false, not, cond, List, [], ◌∷◌, refl, sym, subst}
use Rattle.std.specs.List.{Contains, filter}
use Rattle.std.proofs.lemmas.Bool.{false≢true}
use Rattle.document_keys.specs.KeySet.{IsAscending, is_key, with_key, without_key}
use Rattle.document_keys.proofs.Exact.{key_is, key_same, same_keys, with_ascends, with_inserts, without_ascends, without_removes}
use Rattle.listen_protocol.specs.Calls.{Key}
use Rattle.watch_aggregator.specs.Told.{has_key}
use Rattle.watch_aggregator.proofs.Counted.{any_from, one_of}

pub has_contains : (key : Key) (keys : List Key) → has_key key keys ≡ true → Contains keys key
has_contains key keys e = let found = one_of (is_key key) keys e in subst (Contains keys) (sym (key_is key found.0 found.2)) found.1

pub contains_has : (key : Key) (keys : List Key) → Contains keys key → has_key key keys ≡ true
contains_has key keys has = any_from (is_key key) keys key has (key_same key key refl)

pub has_with : (key : Key) (keys : List Key) → has_key key (with_key key keys) ≡ true
has_with key keys = contains_has key (with_key key keys) ((with_inserts key keys key).1 (inl refl))

pub with_same : (key : Key) (keys : List Key) → IsAscending keys → has_key key keys ≡ true → keys ≡ with_key key keys
with_same key keys ascending has = same_keys keys (with_key key keys) ascending (with_ascends key keys ascending) (λ k. (
  λ there. (with_inserts key keys k).1 (inr there),
  λ there. elim ((with_inserts key keys k).0 there) [ inl same ↦ subst (Contains keys) (sym same) (has_contains key keys has) | inr old ↦ old ],
))

pub without_with : (key : Key) (keys : List Key) → IsAscending keys → has_key key keys ≡ false → without_key key (with_key key keys) ≡ keys
without_with key keys ascending absent = same_keys (without_key key (with_key key keys)) keys (without_ascends key (with_key key keys) (with_ascends key keys ascending)) ascending (λ k. (
  λ there. let p = (without_removes key (with_key key keys) k).0 there in elim ((with_inserts key keys k).0 p.1) [ inl same ↦ absurd (p.0 same) | inr old ↦ old ],
  λ old. (without_removes key (with_key key keys) k).1 (λ same. false≢true (sym absent ∙ contains_has key keys (subst (Contains keys) same old)), (with_inserts key keys k).1 (inr old)),
))

filter_twice : (p : Key → Bool) (keys : List Key) → filter p (filter p keys) ≡ filter p keys
filter_twice p [] = refl
filter_twice p (k ∷ keys) = go (p k) refl (filter_twice p keys)
  where
    go : (b : Bool) → p k ≡ b → filter p (filter p keys) ≡ filter p keys → filter p (cond b (k ∷ filter p keys) (filter p keys)) ≡ cond b (k ∷ filter p keys) (filter p keys)
    go true is rest = rw is (λ i. k ∷ rest i)
    go false is rest = rest

pub without_twice : (key : Key) (keys : List Key) → without_key key (without_key key keys) ≡ without_key key keys
without_twice key keys = filter_twice (λ k. not (is_key key k)) keys
