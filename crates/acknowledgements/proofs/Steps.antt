-- one more write of a batch, with its result
use Rattle.std.proofs.Common.{◌≡◌, ◌∙◌, ℕ, ◌+◌, ◌<◌, ◌≤◌, true, false, cond, Option, Some, List, [], ◌∷◌, length, get_or, drop, fold, sym, ap, arith}
use Rattle.std.proofs.lemmas.List.{drop_all, drop_more}
use Rattle.document_keys.specs.KeySet.{is_key}
use Rattle.keyed_writes.specs.Keyed.{IsNext}
use Rattle.keyed_writes.proofs.Passing.{same_up_to}
use Rattle.value_model.specs.declared.document.Entry.{Entry}
use Rattle.value_model.specs.declared.timestamp.Timestamp.{Timestamp}
use Rattle.mutations.specs.declared.results.WriteResult.{WriteResult}
use Rattle.mutations.specs.declared.write.Write.{Write}
use Rattle.mutations.specs.Acknowledged.{acknowledged, version_in}
use Rattle.mutations.specs.Results.{FitsWrite, FitsWrites}
use Rattle.mutations.proofs.Fitting.{fit_length}
use Rattle.acknowledgements.specs.Acked.{answered, greatest, latest, left_after, left_by, versions}
use Rattle.mutations.specs.Written.{written_key}

from : {X : Type 0} (xs : List X) (i : ℕ) (x : X) → i < length xs → x ≡ get_or xs i x → drop i xs ≡ x ∷ drop (i + 1) xs
from xs i x below is = drop_more xs i x below ∙ ap (λ v. v ∷ drop (i + 1) xs) (sym is)

pub first_of : {X : Type 0} (xs : List X) (i : ℕ) → i < length xs → X
first_of [] i below = absurd (omega (arith, below))
first_of (x ∷ xs) i below = x

-- a place among the writes is one among their results
pub within : (writes : List Write) (results : List WriteResult) (i : ℕ) → FitsWrites writes results → i < length writes → i < length results
within writes results i fits below = omega (arith, fit_length FitsWrite writes results fits, below)

pub counted : (key : List (List ℕ)) (writes : List Write) (results : List WriteResult) (i : ℕ) (write : Write) (result : WriteResult) → i < length writes → i < length results → write ≡ get_or writes i write → result ≡ get_or results i result → is_key (written_key write) key ≡ true
    → answered key (drop i writes) (drop i results) ≡ (write, result) ∷ answered key (drop (i + 1) writes) (drop (i + 1) results)
counted key writes results i write result below under is other named =
    rw (from writes i write below is, from results i result under other)
    (ap (λ b. cond b ((write, result) ∷ answered key (drop (i + 1) writes) (drop (i + 1) results)) (answered key (drop (i + 1) writes) (drop (i + 1) results))) named)

pub passed_over : (key : List (List ℕ)) (writes : List Write) (results : List WriteResult) (i : ℕ) (write : Write) → i < length writes → i < length results → write ≡ get_or writes i write → is_key (written_key write) key ≡ false
    → answered key (drop i writes) (drop i results) ≡ answered key (drop (i + 1) writes) (drop (i + 1) results)
passed_over key writes results i write below under is other =
    let result = get_or results i (first_of results i under) in
    rw (from writes i write below is, drop_more results i (first_of results i under) under)
    (ap (λ b. cond b ((write, result) ∷ answered key (drop (i + 1) writes) (drop (i + 1) results)) (answered key (drop (i + 1) writes) (drop (i + 1) results))) other)

-- the latest version so far, one write on
pub later_on : (key : List (List ℕ)) (writes : List Write) (results : List WriteResult) (commit version : Timestamp) (i : ℕ) (write : Write) (result : WriteResult) (found after : Option Timestamp) → i < length writes → i < length results → write ≡ get_or writes i write → result ≡ get_or results i result
    → is_key (written_key write) key ≡ true → version ≡ version_in result commit → after ≡ latest found version → fold latest found (versions commit (answered key (drop i writes) (drop i results))) ≡ greatest key writes results commit
    → fold latest after (versions commit (answered key (drop (i + 1) writes) (drop (i + 1) results))) ≡ greatest key writes results commit
later_on key writes results commit version i write result found after below under is other named of takes so =
    rw (takes, of) (ap (λ pairs. fold latest found (versions commit pairs)) (sym (counted key writes results i write result below under is other named)) ∙ so)

pub later_up_to : (key : List (List ℕ)) (writes : List Write) (results : List WriteResult) (commit : Timestamp) (from place : ℕ) (found : Option Timestamp) → FitsWrites writes results → IsNext writes key from place
    → fold latest found (versions commit (answered key (drop from writes) (drop from results))) ≡ fold latest found (versions commit (answered key (drop place writes) (drop place results)))
later_up_to key writes results commit from place found fits next =
    same_up_to (λ (i : ℕ). fold latest found (versions commit (answered key (drop i writes) (drop i results)))) writes key from place next
    (λ i w below is other. ap (λ pairs. fold latest found (versions commit pairs)) (passed_over key writes results i w below (within writes results i fits below) is other))

-- the entry so far, one write on
pub left_on : (key : List (List ℕ)) (version : Timestamp) (writes : List Write) (results : List WriteResult) (i : ℕ) (write : Write) (result : WriteResult) (first left after : Option Entry) → i < length writes → i < length results → write ≡ get_or writes i write → result ≡ get_or results i result
    → is_key (written_key write) key ≡ true → after ≡ Some (acknowledged left write result version) → left_by key version left (drop i writes) (drop i results) ≡ left_by key version first writes results
    → left_by key version after (drop (i + 1) writes) (drop (i + 1) results) ≡ left_by key version first writes results
left_on key version writes results i write result first left after below under is other named leaves so =
    rw leaves (ap (fold (left_after version) left) (sym (counted key writes results i write result below under is other named)) ∙ so)

pub left_up_to : (key : List (List ℕ)) (version : Timestamp) (writes : List Write) (results : List WriteResult) (from place : ℕ) (left : Option Entry) → FitsWrites writes results → IsNext writes key from place
    → left_by key version left (drop from writes) (drop from results) ≡ left_by key version left (drop place writes) (drop place results)
left_up_to key version writes results from place left fits next =
    same_up_to (λ (i : ℕ). left_by key version left (drop i writes) (drop i results)) writes key from place next
    (λ i w below is other. ap (fold (left_after version) left) (passed_over key writes results i w below (within writes results i fits below) is other))

-- past the last write nothing is left to do
pub none_left : (key : List (List ℕ)) (writes : List Write) (results : List WriteResult) (i : ℕ) → length writes ≤ i → answered key (drop i writes) (drop i results) ≡ []
none_left key writes results i past = ap (λ ws. answered key ws (drop i results)) (drop_all i writes past)
