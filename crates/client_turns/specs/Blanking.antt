-- Rows of targets that are made blank.
use Rattle.std.specs.Prelude.{◌<◌, ℕ, Bool, true, false, List}
use Rattle.std.specs.List.{All}
use Rattle.durable_state.specs.Rows.{HasRow}
use Rattle.durable_state.specs.State.{State, committed, most_commits}
use Rattle.outcome_codec.specs.Spelling.{AreSpelledIds}
use Rattle.record_codec.specs.declared.commit.Commit.TheVariants.{Reset}
use Rattle.client_turns.specs.Hearing.{IsAnyHeld}

-- the rows may be made blank by a commit: each id has a row, one of these holds something, a number is left, and the ids have a
-- spelling
pub record IsBlanking (s : State) (ids : List ℕ) : Type 0 where
  pub known : All (HasRow s.rows) ids
  pub held : IsAnyHeld s.rows ids
  pub left : s.number < most_commits
  pub spelled : AreSpelledIds ids

-- the state then, if that was done
abbrev pub blanked_state : Bool → State → List ℕ → State
blanked_state true s ids = committed s (Reset ids)
blanked_state false s ids = s
