-- Facts and parts of turns that proofs speak of by name.
use Rattle.std.proofs.Common.{◌≡◌, ℕ, ◌≤◌, max, Bool, List, ◌∷◌, Option}
use Rattle.std.specs.Prelude.{◌&&◌, if◌then◌else◌, IsSomeAnd}
use Rattle.std.specs.Option.{ForSome}
use Rattle.queries.specs.declared.target.Target.{Target}
use Rattle.agreement.specs.Backend.{Id, Key, Keys, Tuple, Setting}
use Rattle.agreement.specs.Transcript.{Message, Request, Event, Heard, is_asked, latest}
use Rattle.agreement.specs.Entries.{Entry}
use Rattle.agreement.specs.Follows.{Known}
use Rattle.agreement.specs.Client.{Client, pointed}
use Rattle.agreement.specs.Sound.{IsTrueOf, AreAnswer, AreCovered, IsSoundResumed}

-- a buffered entry has at least this version
abbrev pub Reaches : Option Entry → ℕ → Type 0
Reaches entry update = IsSomeAnd entry (λ e. update ≤ e.version)

-- a buffered entry is true, and a point to come won't be below it
abbrev pub IsSoundBuffered : Setting → List Event → ℕ → Key → Entry → Type 0
IsSoundBuffered s past read key e = IsTrueOf s key e.what e.version × (e.version ≤ max (latest past) read)

-- the row of a target
abbrev pub IsSoundRow : Setting → List Event → (Key → Option Entry) → Target → Tuple → Type 0
IsSoundRow s past entry target row = (row.query ≡ target) × Known s past row × AreAnswer s row.keys row.query row.version × AreCovered s entry row.query row.version

-- an id that is asked
abbrev pub IsSoundAsked : Setting → List Event → (Key → Option Entry) → Option Tuple → Id → Target → Request → Type 0
IsSoundAsked s past entry row id target opening = (opening.query ≡ target) × ForSome opening.resume (IsSoundResumed s past entry row id opening.query)

abbrev pub request_from : Client → Id → Request
request_from c id = record { query = c.target id; resume = c.row id }

abbrev pub at_point : Bool → Setting → Message → Keys → ℕ → Client → Client
at_point b s m missing r c = if b then pointed s r missing (Heard m ∷ c.past) c else record c { past = Heard m ∷ c.past }

abbrev pub reset_requests : (Id → Bool) → List Event → Id → Bool
reset_requests ids past id = ids id && is_asked id past
