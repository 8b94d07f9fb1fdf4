-- The states that payloads stand for.
use Rattle.std.specs.Prelude.{◌≡◌, ℕ, List, [], ◌∷◌}
use Rattle.record_codec.specs.declared.commit.Commit.{Commit}
use Rattle.record_codec.specs.Spelling.{spelling, HasSpelling}
pub use Rattle.durable_state.specs.State.{State, start, most_commits, Suits, Fits, committed}

-- the payloads, one after another, spell commits that fit, and lead from one state to the other
abbrev pub Replays : State → List (List ℕ) → State → Type 0
Replays s [] t = t ≡ s
Replays s (payload ∷ payloads) t =
    (commit : Commit) × HasSpelling commit × (payload ≡ spelling commit) × Fits s commit
    × Replays (committed s commit) payloads t

-- The payloads of a file of this generation lead to the state. It is the first generation, since no
-- payload is a checkpoint.
pub record LeadsTo (generation : ℕ) (payloads : List (List ℕ)) (s : State) : Type 0 where
  pub first : generation ≡ 1
  pub replays : Replays start payloads s
