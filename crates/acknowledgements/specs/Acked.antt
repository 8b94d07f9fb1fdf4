-- What the backend's answer to a batch leaves of one key's entry (WriteResponse, WriteResult).
use Rattle.std.specs.Prelude.{◌≡◌, ℕ, Bool, true, if◌then◌else◌, List, [], ◌∷◌, fold, map, Option, Some, None, option_map}
use Rattle.std.specs.Borrow.{Bor}
use Rattle.std.specs.List.{Contains, filter, zip}
use Rattle.std.specs.Option.{option_and_then}
use Rattle.std.specs.Ordering.{int_cmp, is_lt, nat_cmp, ordering_then}
use Rattle.document_keys.specs.KeySet.{is_key}
use Rattle.value_model.specs.Order.{Earlier}
use Rattle.value_model.specs.Versions.{version_of}
use Rattle.value_model.specs.declared.document.Entry.{Entry}
use Rattle.value_model.specs.declared.timestamp.Timestamp.{Timestamp}
use Rattle.mutations.specs.Acknowledged.{acknowledged, version_in}
use Rattle.mutations.specs.Written.{written_key}
use Rattle.mutations.specs.declared.results.WriteResult.{WriteResult}
use Rattle.mutations.specs.declared.write.Write.{Write}

-- the entry that is lent, if one is
abbrev pub lent_entry : Option (Bor Entry) → Option Entry
lent_entry entry = option_map (λ e. e.now) entry

-- ---- as functions

-- the key's writes, in order, each with its own result
abbrev pub answered : List (List ℕ) → List Write → List WriteResult → List (Write × WriteResult)
answered key writes results = filter (λ pair. is_key (written_key pair.0) key) (zip writes results)

-- the versions of some writes, by their results
abbrev pub versions : Timestamp → List (Write × WriteResult) → List Timestamp
versions commit pairs = map (λ pair. version_in pair.1 commit) pairs

-- one time is before another: by its second, and within a second by its nanosecond
abbrev pub is_earlier : Timestamp → Timestamp → Bool
is_earlier t u = is_lt (ordering_then (int_cmp t.seconds u.seconds) (nat_cmp t.nanos u.nanos))

-- the later of two times, where there are two
abbrev pub latest : Option Timestamp → Timestamp → Option Timestamp
latest None time = Some time
latest (Some other) time = Some (if is_earlier other time then time else other)

-- the greatest version of the key's writes; without a write of the key, none
abbrev pub greatest : List (List ℕ) → List Write → List WriteResult → Timestamp → Option Timestamp
greatest key writes results commit = fold latest None (versions commit (answered key writes results))

-- the entry after a write with its result
abbrev pub left_after : Timestamp → Option Entry → Write × WriteResult → Option Entry
left_after version entry pair = Some (acknowledged entry pair.0 pair.1 version)

-- the key's writes applied in order, each with its own result, at one version
abbrev pub left_by : List (List ℕ) → Timestamp → Option Entry → List Write → List WriteResult → Option Entry
left_by key version entry writes results = fold (left_after version) entry (answered key writes results)

-- there is no entry, or its version is below the time
abbrev pub is_below : Option Entry → Timestamp → Bool
is_below None time = true
is_below (Some entry) time = is_earlier (version_of entry) time

-- the new entry of a key, or none where its entry stays: that is where no write has the key, and where the entry isn't below
-- the greatest version of the key's writes
abbrev pub acked : Option Entry → List (List ℕ) → List Write → List WriteResult → Timestamp → Option Entry
acked entry key writes results commit =
    option_and_then
    (λ version. if is_below entry version then left_by key version entry writes results else None)
    (greatest key writes results commit)

-- ---- as relations

-- the time is the version of a write that has the key
pub record IsVersion (key : List (List ℕ)) (writes : List Write) (results : List WriteResult)
    (commit version : Timestamp) : Type 0 where
  pub write : Write
  pub result : WriteResult
  pub both : Contains (zip writes results) (write, result)
  pub of_key : written_key write ≡ key
  pub is : version ≡ version_in result commit

-- it is such a version, and none is later
pub record IsGreatest (key : List (List ℕ)) (writes : List Write) (results : List WriteResult)
    (commit version : Timestamp) : Type 0 where
  pub one : IsVersion key writes results commit version
  pub last : (other : Timestamp) → IsVersion key writes results commit other → ¬ (Earlier version other)

-- there is no entry, or its version is before the time
abbrev pub IsBelow : Option Entry → Timestamp → Type 0
IsBelow None time = Unit {0}
IsBelow (Some entry) time = Earlier (version_of entry) time

-- writes make another entry of one, in order: each one of the key does, and all others are passed over
pub data Leaves (key : List (List ℕ)) (version : Timestamp)
    : Option Entry → List (Write × WriteResult) → Option Entry → Type 0 where
  all_done : (entry : Option Entry) → Leaves key version entry [] entry
  applied : (entry new : Option Entry) (write : Write) (result : WriteResult) (rest : List (Write × WriteResult))
      → written_key write ≡ key → Leaves key version (Some (acknowledged entry write result version)) rest new
      → Leaves key version entry ((write, result) ∷ rest) new
  passed : (entry new : Option Entry) (write : Write) (result : WriteResult) (rest : List (Write × WriteResult))
      → ¬ (written_key write ≡ key) → Leaves key version entry rest new
      → Leaves key version entry ((write, result) ∷ rest) new

-- The entry anew, or none where it stays. An entry that is below the greatest version of the key's writes is replaced by what
-- these leave, each at that version; any other one stays, and so does one that no write names.
pub record IsAcked (entry : Option Entry) (key : List (List ℕ)) (writes : List Write)
    (results : List WriteResult) (commit : Timestamp) (new : Option Entry) : Type 0 where
  pub replaced : (version : Timestamp) → IsGreatest key writes results commit version → IsBelow entry version
      → Leaves key version entry (zip writes results) new
  pub kept : (version : Timestamp) → IsGreatest key writes results commit version → ¬ (IsBelow entry version)
      → new ≡ None
  pub unnamed : ((version : Timestamp) → ¬ (IsVersion key writes results commit version)) → new ≡ None
