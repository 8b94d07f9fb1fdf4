-- What one message makes of what is kept of one id, and of all.
use Rattle.std.specs.List.{AllPairs, slice_get}
use Rattle.std.specs.Prelude.{◌≡◌, ◌≢◌, ◌<ℤ◌, ◌≤◌, ℤ, Result, Ok, Err, ℕ, ◌-◌, ◌<◌, Bool, true, false, ◌&&◌, not, ◌==◌, if◌then◌else◌, Option, Some, None, List, [], length, slice_index_or}
use Rattle.value_model.specs.declared.message.TargetChange.{TargetChange}
use Rattle.value_model.specs.declared.message.ChangeKind.{ChangeKind}
use Rattle.value_model.specs.declared.message.ChangeKind.TheVariants as kind
use Rattle.watch_aggregator.specs.declared.watched.Watched.{Watched}
use Rattle.listen_protocol.specs.Calls.{is_of, lists}

-- the effect of the kind of a change of targets
abbrev pub turned : ChangeKind → Watched → Watched
turned kind.NoChange w = w
turned kind.Add w = if w.wanted && (w.opened == 1) && not w.counts then record w { counts = true; current = false; token = None } else w
turned kind.Remove w = record w { opened = w.opened - 1; counts = false }
turned kind.Current w = record w { current = true }
turned kind.Reset w = if w.counts then record w { told = []; current = false; token = None } else w

-- then the token's
abbrev pub with_token : Option ℕ → Watched → Watched
with_token None w = w
with_token (Some place) w = record w { token = Some place }

-- both, where the change is of the id
abbrev pub changed : TargetChange → Option ℕ → Watched → Watched
changed change token w = if is_of change.target_ids w.id then with_token token (turned change.kind w) else w

-- the lists have as many elements, and those at one place are so related
pub record IsEach (R : Watched → Watched → Type 0) (old new : List Watched) : Type 0 where
  pub same_length : length new ≡ length old
  pub at : (k : ℕ) (d : Watched) → k < length old → R (slice_index_or old k d) (slice_index_or new k d)

-- the element has the id, or all before it have lesser ids and it, if it is there, a greater one
abbrev pub IsPlace : List Watched → ℤ → Result ℕ ℕ → Type 0
IsPlace ws id (Ok i) = (i < length ws) × ((d : Watched) → (slice_index_or ws i d).id ≡ id)
IsPlace ws id (Err i) = (i ≤ length ws) × ((k : ℕ) (d : Watched) → k < i → (slice_index_or ws k d).id <ℤ id) × ((d : Watched) → i < length ws → id <ℤ (slice_index_or ws i d).id)

-- the token stands at its place among those that came and isn't empty; or there is none
abbrev pub HasToken : List (List ℕ) → Option ℕ → List ℕ → Type 0
HasToken tokens None token = token ≡ []
HasToken tokens (Some place) token = (slice_get tokens place ≡ Some token) × (token ≢ [])

-- the place of the token that came, or else of the one before
abbrev pub taken : Option ℕ → Option ℕ → Option ℕ
taken None was = was
taken (Some place) was = Some place

-- the tokens that were there stand where they stood
pub record KeepsTokens (old new : List (List ℕ)) : Type 0 where
  pub kept : (place : ℕ) (token : List ℕ) → slice_get old place ≡ Some token → slice_get new place ≡ Some token

-- a REMOVE of the ids ends its live incarnation
abbrev pub ends : List ℤ → Watched → Bool
ends ids w = lists ids w.id && (w.wanted && (w.opened == 1))

-- the ids ascend
abbrev pub AreAscending : List Watched → Type 0
AreAscending ws = AllPairs (λ v w. v.id <ℤ w.id) ws
