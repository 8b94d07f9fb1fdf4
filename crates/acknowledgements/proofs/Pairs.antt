-- the key's writes among all, each with its own result
use Rattle.std.proofs.Common.{◌≡◌, ◌∙◌, ℕ, inl, inr, Bool, true, false, cond, Option, Some, None, List, [], ◌∷◌, fold, refl, sym, ap, subst}
use Rattle.std.specs.List.{Contains, filter, zip}
use Rattle.document_keys.specs.KeySet.{is_key}
use Rattle.document_keys.proofs.Exact.{key_is, key_same}
use Rattle.value_model.specs.declared.document.Entry.{Entry}
use Rattle.value_model.specs.declared.timestamp.Timestamp.{Timestamp}
use Rattle.mutations.specs.Acknowledged.{acknowledged, version_in}
use Rattle.mutations.specs.declared.results.WriteResult.{WriteResult}
use Rattle.mutations.specs.declared.write.Write.{Write}
use Rattle.acknowledgements.specs.Acked.{IsVersion, Leaves, answered, left_after, versions}
use Rattle.mutations.specs.Written.{written_key}
use Rattle.acknowledgements.specs.Acked.Leaves.{all_done, applied, passed}
use Rattle.acknowledgements.proofs.Times.{contains_cases, contains_here, contains_none, contains_there}

abbrev Pair : Type 0
Pair = Write × WriteResult

abbrev of_key : List (List ℕ) → List Pair → List Pair
of_key key pairs = filter (λ pair. is_key (written_key pair.0) key) pairs

false_apart : false ≡ true → ⊥
false_apart e = cc

not_key : (own key : List (List ℕ)) → is_key own key ≡ false → ¬ (own ≡ key)
not_key own key not same = false_apart (sym not ∙ key_same own key same)

-- a version of the key's writes, by the pairs
abbrev Named : List (List ℕ) → Timestamp → List Pair → Timestamp → Type 0
Named key commit pairs version = (pair : Pair) × Contains pairs pair × (written_key pair.0 ≡ key) × (version ≡ version_in pair.1 commit)

named_there : (key : List (List ℕ)) (commit version : Timestamp) (pair : Pair) (pairs : List Pair) → Named key commit pairs version → Named key commit (pair ∷ pairs) version
named_there key commit version pair pairs (other, has, of, is) = (other, contains_there pair pairs other has, of, is)

named_from : (key : List (List ℕ)) (commit version : Timestamp) (pairs : List Pair) → Contains (versions commit (of_key key pairs)) version → Named key commit pairs version
named_from key commit version [] has = absurd (contains_none version has)
named_from key commit version (pair ∷ pairs) has = by (is_key (written_key pair.0) key) refl (named_from key commit version pairs) has
  where
    by : (b : Bool) → is_key (written_key pair.0) key ≡ b → (Contains (versions commit (of_key key pairs)) version → Named key commit pairs version) → Contains (versions commit (cond b (pair ∷ of_key key pairs) (of_key key pairs))) version → Named key commit (pair ∷ pairs) version
    by true is rest has = elim (contains_cases (version_in pair.1 commit) (versions commit (of_key key pairs)) version has) [
      | inl e ↦ (pair, contains_here pair pairs, key_is (written_key pair.0) key is, sym e)
      | inr later ↦ named_there key commit version pair pairs (rest later)
    ]
    by false is rest has = named_there key commit version pair pairs (rest has)

from_named : (key : List (List ℕ)) (commit version : Timestamp) (pairs : List Pair) → Named key commit pairs version → Contains (versions commit (of_key key pairs)) version
from_named key commit version [] named = absurd (contains_none named.0 named.1)
from_named key commit version (pair ∷ pairs) (other, has, of, is) = elim (contains_cases pair pairs other has) [
  | inl e ↦ here (is_key (written_key pair.0) key) (key_same (written_key pair.0) key (ap (λ (p : Pair). written_key p.0) e ∙ of)) (is ∙ ap (λ (p : Pair). version_in p.1 commit) (sym e))
  | inr later ↦ there (is_key (written_key pair.0) key) (from_named key commit version pairs (other, later, of, is))
]
  where
    here : (b : Bool) → b ≡ true → version ≡ version_in pair.1 commit → Contains (versions commit (cond b (pair ∷ of_key key pairs) (of_key key pairs))) version
    here true is same = subst (Contains (versions commit (pair ∷ of_key key pairs))) (sym same) (contains_here (version_in pair.1 commit) (versions commit (of_key key pairs)))
    here false is same = absurd (false_apart is)

    there : (b : Bool) → Contains (versions commit (of_key key pairs)) version → Contains (versions commit (cond b (pair ∷ of_key key pairs) (of_key key pairs))) version
    there true has = contains_there (version_in pair.1 commit) (versions commit (of_key key pairs)) version has
    there false has = has

pub version_from : (key : List (List ℕ)) (writes : List Write) (results : List WriteResult) (commit version : Timestamp) → Contains (versions commit (answered key writes results)) version → IsVersion key writes results commit version
version_from key writes results commit version has =
    let (pair, among, of, is) = named_from key commit version (zip writes results) has in
    record { write = pair.0; result = pair.1; both = among; of_key = of; is = is }

pub from_version : (key : List (List ℕ)) (writes : List Write) (results : List WriteResult) (commit version : Timestamp) → IsVersion key writes results commit version → Contains (versions commit (answered key writes results)) version
from_version key writes results commit version of = from_named key commit version (zip writes results) ((of.write, of.result), of.both, of.of_key, of.is)

-- ---- what they leave

leaves_by : (key : List (List ℕ)) (version : Timestamp) (entry : Option Entry) (pairs : List Pair) → Leaves key version entry pairs (fold (left_after version) entry (of_key key pairs))
leaves_by key version entry [] = all_done entry
leaves_by key version entry ((write, result) ∷ pairs) = by (is_key (written_key write) key) refl (leaves_by key version (Some (acknowledged entry write result version)) pairs) (leaves_by key version entry pairs)
  where
    by : (b : Bool) → is_key (written_key write) key ≡ b → Leaves key version (Some (acknowledged entry write result version)) pairs (fold (left_after version) (Some (acknowledged entry write result version)) (of_key key pairs)) → Leaves key version entry pairs (fold (left_after version) entry (of_key key pairs))
        → Leaves key version entry ((write, result) ∷ pairs) (fold (left_after version) entry (cond b ((write, result) ∷ of_key key pairs) (of_key key pairs)))
    by true is made left = applied entry _ write result pairs (key_is (written_key write) key is) made
    by false is made left = passed entry _ write result pairs (not_key (written_key write) key is) left

pub leaves_right : (key : List (List ℕ)) (version : Timestamp) (entry : Option Entry) (writes : List Write) (results : List WriteResult) → Leaves key version entry (zip writes results) (fold (left_after version) entry (answered key writes results))
leaves_right key version entry writes results = leaves_by key version entry (zip writes results)

leaves_is : (key : List (List ℕ)) (version : Timestamp) (entry new : Option Entry) (pairs : List Pair) → Leaves key version entry pairs new → new ≡ fold (left_after version) entry (of_key key pairs)
leaves_is key version entry new pairs (all_done _) = refl
leaves_is key version entry new pairs (applied _ _ write result rest of next) =
    leaves_is key version (Some (acknowledged entry write result version)) new rest next
    ∙ sym (ap (λ b. fold (left_after version) entry (cond b ((write, result) ∷ of_key key rest) (of_key key rest))) (key_same (written_key write) key of))
leaves_is key version entry new pairs (passed _ _ write result rest not next) = by (is_key (written_key write) key) refl (leaves_is key version entry new rest next)
  where
    by : (b : Bool) → is_key (written_key write) key ≡ b → new ≡ fold (left_after version) entry (of_key key rest) → new ≡ fold (left_after version) entry (cond b ((write, result) ∷ of_key key rest) (of_key key rest))
    by true is left = absurd (not (key_is (written_key write) key is))
    by false is left = left

pub leaves_one : (key : List (List ℕ)) (version : Timestamp) (entry new : Option Entry) (writes : List Write) (results : List WriteResult) → Leaves key version entry (zip writes results) new → new ≡ fold (left_after version) entry (answered key writes results)
leaves_one key version entry new writes results leaves = leaves_is key version entry new (zip writes results) leaves

-- what one write or more leave is there
some_left : (version : Timestamp) (entry : Entry) (pairs : List Pair) → fold (left_after version) (Some entry) pairs ≡ None → ⊥
some_left version entry [] is = cc
some_left version entry (pair ∷ pairs) is = some_left version (acknowledged (Some entry) pair.0 pair.1 version) pairs is

pub left_there : (version commit time : Timestamp) (entry : Option Entry) (pairs : List Pair) → Contains (versions commit pairs) time → fold (left_after version) entry pairs ≡ None → ⊥
left_there version commit time entry [] has is = contains_none time has
left_there version commit time entry (pair ∷ pairs) has is = some_left version (acknowledged entry pair.0 pair.1 version) pairs is
