-- The laws of the trait at a past.
use Rattle.std.proofs.Common.{◌≡◌, ℕ, ◌+◌, ◌-◌, ◌≤◌, min, max, Bool, true, false, List, [], ◌∷◌, length, refl, ap, ◌∙◌, subst, arith, length-append, length-drop}
use Rattle.std.proofs.lemmas.List.{length-take}
use Rattle.host_api.specs.declared.host.FileId.{FileId}
use Rattle.host_api.specs.declared.host.FileId.TheVariants.{Zero, One}
use Rattle.host_api.specs.Host.{Files, over}
use Rattle.host_api.specs.Disk.{Disk, IsImage, fresh, written, shortened}
use Rattle.host_api.specs.Past.{Step, emit, write, cut, sync, Past, first, upto, here, after, run, disk_at, output_at, MayLeave}

-- the lengths of a disk are in order
pub record IsWhole (disk : Disk) : Type 0 where
  pub least : disk.least ≤ length disk.bytes
  pub greatest : length disk.bytes ≤ disk.greatest

pub whole_fresh : (bytes : List ℕ) → IsWhole (fresh bytes)
whole_fresh bytes = record { least = omega arith; greatest = omega arith }

-- the length of an over, whatever the offset
length_over_any : (old : List ℕ) (at : ℕ) (piece : List ℕ) → (length old ≤ length (over old at piece)) × (length (over old at piece) ≤ max (length old) (at + length piece))
length_over_any old at piece =
    let len : length (over old at piece) ≡ min at (length old) + length piece + (length old - (at + length piece)) = simp (length-append, length-drop, length-take) refl in
    (omega arith, omega arith)

pub whole_written : (at : ℕ) (piece : List ℕ) (done : Bool) (disk : Disk) → IsWhole disk → IsWhole (written at piece done disk)
whole_written at piece true disk whole =
    let len = length_over_any disk.bytes at piece in
    record { least = omega (arith, whole.least, len.0); greatest = omega (arith, whole.greatest, len.1) }
whole_written at piece false disk whole = record { least = whole.least; greatest = omega (arith, whole.greatest) }

pub whole_shortened : (len : ℕ) (done : Bool) (disk : Disk) → IsWhole disk → IsWhole (shortened len done disk)
whole_shortened len true disk whole = record { least = omega (arith, whole.least, length-take len disk.bytes); greatest = omega (arith, whole.greatest, length-take len disk.bytes) }
whole_shortened len false disk whole = record { least = omega (arith, whole.least); greatest = whole.greatest }

-- the bytes as they read are one of the images
pub image_same : (disk : Disk) → IsWhole disk → IsImage disk disk.bytes
image_same disk whole = record { no_shorter = whole.least; no_longer = whole.greatest; stable = λ i lt free. refl }

whole_here : (file on : FileId) (this that : Disk) → IsWhole this → IsWhole that → IsWhole (here file on this that)
whole_here Zero Zero this that a b = a
whole_here Zero One this that a b = b
whole_here One Zero this that a b = b
whole_here One One this that a b = a

whole_after : (file : FileId) (step : Step) (disk : Disk) → IsWhole disk → IsWhole (after file step disk)
whole_after file (emit piece) disk whole = whole
whole_after file (write on at piece done) disk whole = whole_here file on (written at piece done disk) disk (whole_written at piece done disk whole) whole
whole_after file (cut on len done) disk whole = whole_here file on (shortened len done disk) disk (whole_shortened len done disk whole) whole
whole_after file (sync on) disk whole = whole_here file on (fresh disk.bytes) disk (whole_fresh disk.bytes) whole

whole_run : (file : FileId) (disk : Disk) (steps : List Step) → IsWhole disk → IsWhole (run file disk steps)
whole_run file disk [] whole = whole
whole_run file disk (step ∷ steps) whole = whole_run file (after file step disk) steps (whole_after file step disk whole)

pub whole_at : (file : FileId) (k : ℕ) (past : Past) → IsWhole (disk_at file k past)
whole_at file k past = whole_run file (fresh (first file past)) (upto k past.notes) (whole_fresh (first file past))

pub past_counts_now : (past : Past) (t : ℕ) (c : Files) → t ≤ past.calls → MayLeave past past.calls c → (k : ℕ) × (t ≤ k) × (k ≤ past.calls) × (output_at past.calls past ≡ output_at k past) × MayLeave past k c
past_counts_now past t c le may = (past.calls, le, omega arith, refl, may)

pub past_only_now : (past : Past) (o : List ℕ) (c : Files) → (k : ℕ) × (past.calls ≤ k) × (k ≤ past.calls) × (o ≡ output_at k past) × MayLeave past k c → (o ≡ output_at past.calls past) × MayLeave past past.calls c
past_only_now past o c left =
    let is : left.0 ≡ past.calls = omega (arith, left.1, left.2) in
    (left.3 ∙ ap (λ (k : ℕ). output_at k past) is, subst (λ (k : ℕ). MayLeave past k c) is left.4)

pub past_may_stay : (past : Past) → MayLeave past past.calls (λ file. (disk_at file past.calls past).bytes)
past_may_stay past = λ file. image_same (disk_at file past.calls past) (whole_at file past.calls past)
