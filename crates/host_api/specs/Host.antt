-- A host as its contracts see it: an output and two files on one clock, and what a crash may leave of the files.
use Rattle.std.specs.Prelude.{◌≡◌, ℕ, ◌+◌, ◌≤◌, ◌<◌, min, max, List, ◌++◌, length, take, drop, slice_index, ◌⊎◌, Result, OnOk}
use Rattle.host_api.specs.declared.host.FileId.{FileId}
use Rattle.host_api.specs.declared.host.FileId.TheVariants.{Zero, One}
use Rattle.host_api.specs.declared.host.Failed.{Failed}

-- the bytes of both files
abbrev pub Files : Type 0
Files = FileId → List ℕ

abbrev pub other : FileId → FileId
other Zero = One
other One = Zero

-- A host, as its contracts see it.
pub record View : Type 1 where
  -- what has been written
  pub out : List ℕ
  -- what a read gives
  pub bytes : Files
  -- what a crash at this moment may leave
  pub may_leave : Files → Type 0
  -- a number that doesn't fall
  pub moment : ℕ
  -- what a crash may have left at some moment since that one, at which the output stood so
  pub left_since : ℕ → List ℕ → Files → Type 0
  pub sink_faults : ℕ
  pub disk_faults : ℕ

-- one file makes this step, and the other stays
pub record OnFile (file : FileId) (step : List ℕ → List ℕ → Type 0) (old new : Files) : Type 0 where
  pub this : step (old file) (new file)
  pub that : new (other file) ≡ old (other file)

-- after a write of n bytes that a crash cuts short: anything in that range and past the old end, the same elsewhere
pub record Torn (at n : ℕ) (old new : List ℕ) : Type 0 where
  pub no_shorter : length old ≤ length new
  pub no_longer : length new ≤ max (length old) (at + n)
  pub below : (i : ℕ) → i < length old → i < at → slice_index new i ≡ slice_index old i
  pub above : (i : ℕ) → i < length old → at + n ≤ i → slice_index new i ≡ slice_index old i

-- after a cut to n that a crash cuts short: some length between, and the same below n
pub record Cut (n : ℕ) (old new : List ℕ) : Type 0 where
  pub no_shorter : min (length old) n ≤ length new
  pub no_longer : length new ≤ length old
  pub below : (i : ℕ) → i < length old → i < n → slice_index new i ≡ slice_index old i

-- old with these bytes at this offset
abbrev pub over : List ℕ → ℕ → List ℕ → List ℕ
over old at piece = take at old ++ piece ++ drop (at + length piece) old

-- what a crash may leave is what it might have left before, after a step of one file
abbrev pub Follows : FileId → (List ℕ → List ℕ → Type 0) → View → Files → Type 0
Follows file step old c = (d : Files) × old.may_leave d × OnFile file step d c

-- Time goes on from old to new. What a crash may have left meanwhile, and the output at that moment, have P, and count as
-- left since each moment up to old.
pub record Spans (old new : View) (P : List ℕ → Files → Type 0) : Type 0 where
  pub later : old.moment ≤ new.moment
  pub only : (t u : ℕ) (o : List ℕ) (c : Files) → t ≤ old.moment → u ≤ old.moment → new.left_since t o c
      → old.left_since t o c ⊎ (P o c × new.left_since u o c)
  pub keeps : (t : ℕ) (o : List ℕ) (c : Files) → t ≤ old.moment → old.left_since t o c → new.left_since t o c

-- nothing of the files changes
pub record Stays (old new : View) : Type 0 where
  pub bytes : new.bytes ≡ old.bytes
  pub crash : (c : Files) → new.may_leave c → old.may_leave c
  pub time : Spans old new (λ o c. (o ≡ old.out) × old.may_leave c)

-- a crash leaves what a read of this file gives
abbrev pub IsOnDisk : FileId → View → Type 0
IsOnDisk file v = (c : Files) → v.may_leave c → c file ≡ v.bytes file

-- after a call that makes a step of one file, done or not
pub record Steps (file : FileId) (step : List ℕ → List ℕ → Type 0) (old new : View) : Type 0 where
  pub bytes : OnFile file step old.bytes new.bytes
  pub crash : (c : Files) → new.may_leave c → Follows file step old c
  pub time : Spans old new (λ o c. (o ≡ old.out) × Follows file step old c)

pub record Writes (file : FileId) (at : ℕ) (piece : List ℕ) (result : Result (Unit {0}) Failed) (old new : View) : Type 0 where
  pub done : OnOk result (new.bytes file ≡ over (old.bytes file) at piece)
  pub steps : Steps file (Torn at (length piece)) old new

pub record Cuts (file : FileId) (len : ℕ) (result : Result (Unit {0}) Failed) (old new : View) : Type 0 where
  pub done : OnOk result (new.bytes file ≡ take len (old.bytes file))
  pub steps : Steps file (Cut len) old new

pub record Syncs (file : FileId) (result : Result (Unit {0}) Failed) (old new : View) : Type 0 where
  pub done : OnOk result (IsOnDisk file new)
  pub stays : Stays old new

-- the first k bytes of the piece came after what had been written
abbrev pub IsPart : List ℕ → List ℕ → List ℕ → Type 0
IsPart piece old new = (k : ℕ) × (new ≡ old ++ take k piece)

-- files, pairs and time at a call that writes to the output
pub record Emits (piece : List ℕ) (old new : View) : Type 0 where
  pub bytes : new.bytes ≡ old.bytes
  pub crash : (c : Files) → new.may_leave c → old.may_leave c
  pub time : Spans old new (λ o c. IsPart piece old.out o × old.may_leave c)

-- the output and its count stay
pub record KeepsOut (old new : View) : Type 0 where
  pub out : new.out ≡ old.out
  pub faults : new.sink_faults ≡ old.sink_faults
