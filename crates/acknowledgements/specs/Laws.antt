-- Laws of what the backend's answer leaves.
use Rattle.std.specs.Prelude.{◌≡◌, ◌↔◌, ℕ, List, Option, Some, None}
use Rattle.value_model.specs.declared.document.Entry.{Entry}
use Rattle.value_model.specs.declared.timestamp.Timestamp.{Timestamp}
use Rattle.mutations.specs.declared.results.WriteResult.{WriteResult}
use Rattle.mutations.specs.declared.write.Write.{Write}
use Rattle.acknowledgements.specs.Acked.{IsAcked, IsBelow, IsGreatest, IsVersion, acked, greatest}

-- the greatest version is one of the key's writes, and no one of these is later; without one there is no such write
pub record GreatestHolds : Type 0 where
  pub some : (key : List (List ℕ)) (writes : List Write) (results : List WriteResult) (commit version : Timestamp)
      → (greatest key writes results commit ≡ Some version) ↔ IsGreatest key writes results commit version
  pub none : (key : List (List ℕ)) (writes : List Write) (results : List WriteResult) (commit : Timestamp)
      → greatest key writes results commit ≡ None
      → (version : Timestamp) → ¬ (IsVersion key writes results commit version)

-- what an answer leaves of an entry is one, and an entry that is below is replaced
pub record AcksHold : Type 0 where
  pub right : (entry : Option Entry) (key : List (List ℕ)) (writes : List Write) (results : List WriteResult)
      (commit : Timestamp) → IsAcked entry key writes results commit (acked entry key writes results commit)
  pub one : (entry : Option Entry) (key : List (List ℕ)) (writes : List Write) (results : List WriteResult)
      (commit : Timestamp) (new other : Option Entry) → IsAcked entry key writes results commit new
      → IsAcked entry key writes results commit other → new ≡ other
  pub stays : (entry : Option Entry) (key : List (List ℕ)) (writes : List Write) (results : List WriteResult)
      (commit : Timestamp) → (acked entry key writes results commit ≡ None)
      ↔ ((version : Timestamp) → IsGreatest key writes results commit version → ¬ (IsBelow entry version))
