-- What a listener sees: the answer over the local documents, what of it is in limbo, and whether it is from
-- the cache.
use Rattle.std.specs.Prelude.{◌≡◌, ◌↔◌, Bool, false, List, [], IsSome}
use Rattle.std.specs.List.{Contains}
use Rattle.std.specs.Option.{ForSome}
use Rattle.value_model.specs.Documents.{DocumentMap}
use Rattle.queries.specs.Answer.{IsAnswer}
use Rattle.queries.specs.Checked.{IsChecked}
use Rattle.agreement.specs.Backend.{Key, Id, Setting}
use Rattle.agreement.specs.Client.{Client}
use Rattle.agreement.specs.Agrees.{IsTouched}

-- A view of the id shows the answer of its query, which was checked, over the local documents. While the id
-- is current, what it shows is in limbo where it is neither among the id's keys nor touched by an unfinished
-- write. It isn't from the cache exactly where the id is current and nothing is in limbo.
pub record IsView (s : Setting) (pending : Key → Bool) (c : Client) (local : DocumentMap) (id : Id)
    (shown limbo : List Key) (from_cache : Bool) : Type 0 where
  pub checked : IsChecked (c.target id)
  pub answer : IsAnswer (c.target id) s.root local shown
  pub limbo_is : ForSome (c.current id) (λ keys. (key : Key)
      → Contains limbo key
      ↔ (Contains shown key × (keys key ≡ false) × (IsTouched pending c key → ⊥)))
  pub flag : (from_cache ≡ false) ↔ (IsSome (c.current id) × (limbo ≡ []))
