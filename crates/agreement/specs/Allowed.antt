-- The turns that are allowed.
use Rattle.std.specs.Prelude.{◌≡◌, ◌⊎◌, ◌↔◌, ℕ, Bool, true, false, List, [], ◌∷◌}
use Rattle.std.specs.Prelude.{length, Some, None, ⊤, IsSomeAnd}
use Rattle.std.specs.List.{Contains, IsDistinct}
use Rattle.std.specs.Option.{ForSome}
use Rattle.value_model.specs.declared.message.ChangeKind.TheVariants.{Remove}
use Rattle.queries.specs.declared.target.Target.TheVariants.{Document}
use Rattle.agreement.specs.Backend.{Key, is_key, Id, Keys, Setting}
use Rattle.agreement.specs.Transcript.{Message, Change, Filter, Request, Event, Heard, is_asked, counts}
use Rattle.agreement.specs.Transcript.{is_current, request, told}
use Rattle.agreement.specs.Entries.{is_committed}
use Rattle.agreement.specs.Client.{Client, Turn, run, Aims, Hears, Resets, Acks}
use Rattle.agreement.specs.Sound.{IsSound}

-- n is the number of these keys
pub record Numbers (keys : Keys) (n : ℕ) : Type 0 where
  pub list : List Key
  pub distinct : IsDistinct is_key list
  pub members : (key : Key) → Contains list key ↔ (keys key ≡ true)
  pub length : n ≡ length list

-- At a point the key gets a Missing entry only where an id whose query asks for this document is CURRENT and
-- wasn't told it.
pub record IsAbsent (past : List Event) (key : Key) (id : Id) : Type 0 where
  pub opening : Request
  pub requested : request id past ≡ Some opening
  pub document : opening.query ≡ Document key
  pub counting : counts id past ≡ true
  pub current : is_current id past ≡ true
  pub untold : told id past key ≡ false

-- The id is tied to the key: its row has it, it is current with it, or it is a listener's that counts and was
-- told it.
abbrev pub IsTied : Setting → Client → Id → Key → Type 0
IsTied s c id key = IsSomeAnd (c.row id) (λ row. row.keys key ≡ true)
    ⊎ (IsSomeAnd (c.current id) (λ keys. keys key ≡ true)
    ⊎ ((s.listens id ≡ true) × (counts id c.past ≡ true) × (told id c.past key ≡ true)))

-- a message at which something may be dropped or reset: an end, or a filter, whose id is reset
abbrev pub IsReset : Setting → Message → (Id → Bool) → Type 0
IsReset s (Change Remove listed token time) ids = ⊤
IsReset s (Filter id count) ids = s.listens id ≡ true → ids id ≡ true
IsReset s _ ids = ⊥

-- what is kept to at a message without a reset: a filter's count is the number of told keys
abbrev pub IsJudged : Setting → List Event → Message → Type 0
IsJudged s past (Filter id count) = s.listens id ≡ true → counts id past ≡ true
    → Numbers (told id past) count
IsJudged s past _ = ⊤

-- What the client keeps to in a turn. An id stands for another query only where nothing uses it; what an
-- acknowledgement makes are sound entries of acknowledged writes. Nothing is asked of when the client opens,
-- closes, asks, unasks or stops.
abbrev pub IsAllowed : Setting → Client → Turn → Type 0
IsAllowed s c (Aims id query) =
    (c.row id ≡ None) × (c.current id ≡ None) × (is_asked id c.past ≡ false)
IsAllowed s c (Hears m missing) = IsJudged s c.past m
    × ((key : Key) → missing key ≡ true → (id : Id) × IsAbsent (Heard m ∷ c.past) key id)
IsAllowed s c (Resets m keys ids) = IsReset s m ids
    × ((key : Key) (id : Id) → keys key ≡ true → IsTied s c id key → ids id ≡ true)
IsAllowed s c (Acks entries) = (key : Key) → ForSome (entries key)
    (λ e. (is_committed e.seal ≡ true) × IsSound s c.read key e)
IsAllowed s c _ = ⊤

-- each turn is allowed where it comes
abbrev pub AreAllowed : Setting → List Turn → Client → Type 0
AreAllowed s [] c = ⊤
AreAllowed s (turn ∷ turns) c = IsAllowed s (run s turns c) turn × AreAllowed s turns c
