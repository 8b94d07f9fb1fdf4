-- A source in memory, as its contracts see it.
use Rattle.std.specs.Prelude.{◌≡◌, ℕ, ◌+◌, ◌==◌, ◌≤◌, Bool, true, false, List, [], ◌∷◌, length, take, drop, All, Contains, IsTrue, if◌then◌else◌}
use Rattle.host_api.specs.Counts.{one_more}
use Rattle.host_api.specs.Items.{limit}
use Rattle.host_api.specs.declared.source.Line.{Line}
use Rattle.host_api.specs.declared.source.Line.TheVariants as line

pub record Reading : Type 0 where
  -- the bytes that haven't been read
  pub text : List ℕ
  -- whether they begin within a line that was too long
  pub skipping : Bool
  -- the numbers of the calls that fail
  pub failing : List ℕ
  -- how many calls there were
  pub calls : ℕ
  pub faults : ℕ
  -- how many of them were answered
  pub answered : ℕ

-- no newline is among these bytes
abbrev pub IsLine : List ℕ → Type 0
IsLine bytes = All (λ byte. (byte == 10) ≡ false) bytes

-- what stands behind the first newline
abbrev pub past_newline : List ℕ → List ℕ
past_newline [] = []
past_newline (byte ∷ rest) = if byte == 10 then rest else past_newline rest

-- the bytes that are left to be taken
abbrev pub left_of : Reading → List ℕ
left_of reading = if reading.skipping then past_newline reading.text else reading.text

-- the most bytes that one call skips
abbrev pub skip_limit : ℕ
skip_limit = 4294967296

-- as many bytes as one call skips, without a newline
pub record IsWholeSkip (bytes : List ℕ) : Type 0 where
  pub long : skip_limit ≤ length bytes
  pub within : IsLine (take skip_limit bytes)

-- the first n bytes end with the first newline, or there is none and they are all, fewer than one call skips
pub record EndsSkip (n : ℕ) (bytes : List ℕ) : Type 0 where
  pub within : n ≤ length bytes
  pub past : past_newline bytes ≡ drop n bytes
  pub short : IsWholeSkip bytes → ⊥

-- as many bytes as one call skips come before the end of a line that was too long
pub record SkipsAll (reading : Reading) : Type 0 where
  pub skipping : IsTrue reading.skipping
  pub whole : IsWholeSkip reading.text

-- the number of the next call
abbrev pub next_number : Reading → ℕ
next_number reading = one_more reading.calls

-- the counts stay, and the list of calls that fail
pub record SameCounts (old new : Reading) : Type 0 where
  pub failing : new.failing ≡ old.failing
  pub calls : new.calls ≡ old.calls
  pub faults : new.faults ≡ old.faults
  pub answered : new.answered ≡ old.answered

-- the next call is one of those that fail
abbrev pub IsListed : Reading → Type 0
IsListed reading = Contains reading.failing (next_number reading)

-- the call is one of those that fail, and took nothing
pub record Refuses (old new : Reading) : Type 0 where
  pub listed : IsListed old
  pub text : new.text ≡ old.text
  pub skipping : new.skipping ≡ old.skipping

-- the call took as many bytes as one call skips, of a line that was too long
pub record Skips (old new : Reading) : Type 0 where
  pub all : SkipsAll old
  pub text : new.text ≡ drop skip_limit old.text
  pub skipping : new.skipping ≡ old.skipping

-- What a call leaves: of a line that is too long it took one byte more than a line may have, and the next call is to skip
-- the rest.
abbrev pub Leaves : Line → Reading → Reading → Type 0
Leaves line.Text old new = new.skipping ≡ false
Leaves line.TooLong old new = (new.skipping ≡ true) × (new.text ≡ drop (limit + 1) (left_of old))
Leaves line.End old new = new.skipping ≡ false
