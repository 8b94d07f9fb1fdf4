-- What an honest backend keeps to beyond what the theorem asks.
use Rattle.std.specs.Prelude.{◌≡◌, ◌⊎◌, ℕ, ◌<◌, ◌≤◌, true, if◌then◌else◌}
use Rattle.std.specs.Prelude.{◌==◌, List, [], ◌∷◌, Some, ⊤}
use Rattle.agreement.specs.Backend.{Key, Id, Tuple, Setting, IsInAnswer}
use Rattle.agreement.specs.Transcript.{Filter, Request, Event, Cut, Asked, Heard, counts, request, told}
use Rattle.agreement.specs.Transcript.{point_time}
use Rattle.agreement.specs.Follows.{Known, IsStale, IsHonest}

-- the read time of the last point of the stream, or 0
abbrev pub last_point : List Event → ℕ
last_point [] = 0
last_point (Cut ∷ past) = 0
last_point (event ∷ past) = if point_time event == 0 then last_point past else point_time event

-- the keys that a request starts with are those of a tuple that is known
pub record StartsFromTuple (s : Setting) (past : List Event) (opening : Request) (resume : Tuple)
    : Type 0 where
  pub tuple : Tuple
  pub known : Known s past tuple
  pub same_token : tuple.token ≡ resume.token
  pub same_query : tuple.query ≡ opening.query
  pub same_keys : (key : Key) → resume.keys key ≡ tuple.keys key

-- Read times of a stream never fall, and at a point what an id that counts was told is as a filter left it,
-- whether it is CURRENT or not; a filter speaks of no time before the last point; an add request with a token
-- has the keys of its tuple.
abbrev pub IsStated : Setting → (List Event → ℕ) → List Event → Event → Type 0
IsStated s version past (Asked id opening) = (resume : Tuple) → opening.resume ≡ Some resume
    → StartsFromTuple s past opening resume
IsStated s version past (Heard (Filter id count)) = last_point past ≤ version past
IsStated s version past point = 0 < point_time point → (last_point past ≤ point_time point)
    × ((id : Id) (opening : Request) → counts id (point ∷ past) ≡ true
    → request id (point ∷ past) ≡ Some opening
    → (key : Key) → told id (point ∷ past) key ≡ true
    → IsInAnswer s opening.query (point_time point) key
    ⊎ IsStale s version (point ∷ past) id opening.query key)

-- every event keeps to it
abbrev pub FollowsAsStated : Setting → (List Event → ℕ) → List Event → Type 0
FollowsAsStated s version [] = ⊤
FollowsAsStated s version (event ∷ past) = (IsHonest s version past event × IsStated s version past event)
    × FollowsAsStated s version past
