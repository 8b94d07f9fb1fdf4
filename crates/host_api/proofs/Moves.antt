-- One more call of a host in memory, in the words of the trait.
use Rattle.std.proofs.Common.{◌≡◌, ℕ, ◌≤◌, Bool, true, false, List, [], ◌∷◌, ◌++◌, length, take, refl, ap, sym, ◌∙◌, subst, arith}
use Rattle.std.proofs.lemmas.List.{append-nil, take_all}
use Rattle.host_api.specs.declared.host.FileId.{FileId}
use Rattle.host_api.specs.declared.host.FileId.TheVariants.{Zero, One}
use Rattle.host_api.specs.Host.{Files, Torn, Cut, Follows, Stays, Steps, IsOnDisk, Emits, IsPart, other, over}
use Rattle.host_api.specs.Disk.{Disk, IsImage, fresh, written, shortened}
use Rattle.host_api.specs.Past.{Step, emit, write, cut, sync, Past, emitted, after, disk_at, output_at, MayLeave, view_of, Grows}
use Rattle.host_api.proofs.Images.{image_fresh, write_back, cut_back, torn_over, torn_same, cut_take, cut_same}
use Rattle.host_api.specs.PastLaws.{image_same, whole_at}
use Rattle.host_api.proofs.Pasts.{disk_none, disk_one, output_none, output_one, spans_grow}

-- a step that changes this file alone, and so
record OnlyOn (file : FileId) (step : Step) (make : Disk → Disk) : Type 0 where
  this : (disk : Disk) → after file step disk ≡ make disk
  that : (disk : Disk) → after (other file) step disk ≡ disk
  quiet : emitted step ≡ []

only_write : (file : FileId) (at : ℕ) (piece : List ℕ) (done : Bool) → OnlyOn file (write file at piece done) (written at piece done)
only_write Zero at piece done = record { this = λ disk. refl; that = λ disk. refl; quiet = refl }
only_write One at piece done = record { this = λ disk. refl; that = λ disk. refl; quiet = refl }

only_cut : (file : FileId) (len : ℕ) (done : Bool) → OnlyOn file (cut file len done) (shortened len done)
only_cut Zero len done = record { this = λ disk. refl; that = λ disk. refl; quiet = refl }
only_cut One len done = record { this = λ disk. refl; that = λ disk. refl; quiet = refl }

only_sync : (file : FileId) → OnlyOn file (sync file) (λ disk. fresh disk.bytes)
only_sync Zero = record { this = λ disk. refl; that = λ disk. refl; quiet = refl }
only_sync One = record { this = λ disk. refl; that = λ disk. refl; quiet = refl }

-- the files with other bytes in one of them
abbrev with_file : FileId → List ℕ → Files → Files
with_file Zero bytes files Zero = bytes
with_file Zero bytes files One = files One
with_file One bytes files Zero = files Zero
with_file One bytes files One = bytes

with_this : (file : FileId) (bytes : List ℕ) (files : Files) → with_file file bytes files file ≡ bytes
with_this Zero bytes files = refl
with_this One bytes files = refl

with_that : (file : FileId) (bytes : List ℕ) (files : Files) → with_file file bytes files (other file) ≡ files (other file)
with_that Zero bytes files = refl
with_that One bytes files = refl

-- what holds of a file and of the other holds of each
each_file : (P : FileId → Type 0) (file : FileId) → P file → P (other file) → (on : FileId) → P on
each_file P Zero this that Zero = this
each_file P Zero this that One = that
each_file P One this that Zero = that
each_file P One this that One = this

module _ (file : FileId) (step : Step) (make : Disk → Disk) (only : OnlyOn file step make) (old new : Past) (grows : Grows (step ∷ []) old new) where
  disk_this : disk_at file new.calls new ≡ make (disk_at file old.calls old)
  disk_this = disk_one grows file ∙ only.this (disk_at file old.calls old)

  disk_that : disk_at (other file) new.calls new ≡ disk_at (other file) old.calls old
  disk_that = disk_one grows (other file) ∙ only.that (disk_at (other file) old.calls old)

  output_quiet : output_at new.calls new ≡ output_at old.calls old
  output_quiet = output_one grows ∙ ap (λ (e : List ℕ). output_at old.calls old ++ e) only.quiet ∙ append-nil (output_at old.calls old)

  steps_one : (change : List ℕ → List ℕ → Type 0) (s d s2 d2 : ℕ) → change (disk_at file old.calls old).bytes (make (disk_at file old.calls old)).bytes
      → ((left : List ℕ) → IsImage (make (disk_at file old.calls old)) left → (b : List ℕ) × IsImage (disk_at file old.calls old) b × change b left)
      → Steps file change (view_of old s d) (view_of new s2 d2)
  steps_one change s d s2 d2 now back = record {
    bytes = record { this = subst (λ (x : Disk). change (disk_at file old.calls old).bytes x.bytes) (sym disk_this) now; that = ap (λ (x : Disk). x.bytes) disk_that };
    crash = follows;
    time = spans_grow s d s2 d2 (λ o c. (o ≡ output_at old.calls old) × Follows file change (view_of old s d) c) grows (λ c may. (output_quiet, follows c may));
  }
    where
      follows : (c : Files) → MayLeave new new.calls c → Follows file change (view_of old s d) c
      follows c may =
          let b = back (c file) (subst (λ (x : Disk). IsImage x (c file)) disk_this (may file)) in (
            with_file file b.0 c,
            each_file (λ (on : FileId). IsImage (disk_at on old.calls old) (with_file file b.0 c on)) file
                (subst (λ (x : List ℕ). IsImage (disk_at file old.calls old) x) (sym (with_this file b.0 c)) b.1)
                (subst (λ (x : List ℕ). IsImage (disk_at (other file) old.calls old) x) (sym (with_that file b.0 c)) (subst (λ (x : Disk). IsImage x (c (other file))) disk_that (may (other file)))),
            record { this = subst (λ (x : List ℕ). change x (c file)) (sym (with_this file b.0 c)) b.2; that = sym (with_that file b.0 c) },
          )

-- a call that did nothing
pub stays_none : (old new : Past) (s d s2 d2 : ℕ) → Grows [] old new → Stays (view_of old s d) (view_of new s2 d2)
stays_none old new s d s2 d2 grows = record {
  bytes = λ i file. (disk_none grows file i).bytes;
  crash = was;
  time = spans_grow s d s2 d2 (λ o c. (o ≡ output_at old.calls old) × MayLeave old old.calls c) grows (λ c may. (output_none grows, was c may));
}
  where
    was : (c : Files) → MayLeave new new.calls c → MayLeave old old.calls c
    was c may = λ file. subst (λ (x : Disk). IsImage x (c file)) (disk_none grows file) (may file)

bytes_none : {old new : Past} → Grows [] old new → (file : FileId) → (disk_at file new.calls new).bytes ≡ (disk_at file old.calls old).bytes
bytes_none grows file = ap (λ (x : Disk). x.bytes) (disk_none grows file)

-- a call that was to change a file, and did nothing
pub steps_none : (file : FileId) (change : List ℕ → List ℕ → Type 0) (old new : Past) (s d s2 d2 : ℕ) → ((b : List ℕ) → change b b) → Grows [] old new → Steps file change (view_of old s d) (view_of new s2 d2)
steps_none file change old new s d s2 d2 same grows = record {
  bytes = record { this = subst (λ (b : List ℕ). change (disk_at file old.calls old).bytes b) (sym (bytes_none grows file)) (same (disk_at file old.calls old).bytes); that = bytes_none grows (other file) };
  crash = follows;
  time = spans_grow s d s2 d2 (λ o c. (o ≡ output_at old.calls old) × Follows file change (view_of old s d) c) grows (λ c may. (output_none grows, follows c may));
}
  where
    follows : (c : Files) → MayLeave new new.calls c → Follows file change (view_of old s d) c
    follows c may = (c, λ on. subst (λ (x : Disk). IsImage x (c on)) (disk_none grows on) (may on), record { this = same (c file); that = refl })

pub steps_write : (file : FileId) (at : ℕ) (piece : List ℕ) (done : Bool) (old new : Past) (s d s2 d2 : ℕ) → at ≤ length (disk_at file old.calls old).bytes → Grows (write file at piece done ∷ []) old new
    → Steps file (Torn at (length piece)) (view_of old s d) (view_of new s2 d2)
steps_write file at piece done old new s d s2 d2 le grows =
    steps_one file (write file at piece done) (written at piece done) (only_write file at piece done) old new grows (Torn at (length piece)) s d s2 d2
    (now done)
    (write_back at piece done (disk_at file old.calls old) (whole_at file old.calls old) le)
  where
    now : (t : Bool) → Torn at (length piece) (disk_at file old.calls old).bytes (written at piece t (disk_at file old.calls old)).bytes
    now true = torn_over (disk_at file old.calls old).bytes at piece le
    now false = torn_same (disk_at file old.calls old).bytes at (length piece)

pub steps_cut : (file : FileId) (len : ℕ) (done : Bool) (old new : Past) (s d s2 d2 : ℕ) → Grows (cut file len done ∷ []) old new
    → Steps file (Cut len) (view_of old s d) (view_of new s2 d2)
steps_cut file len done old new s d s2 d2 grows =
    steps_one file (cut file len done) (shortened len done) (only_cut file len done) old new grows (Cut len) s d s2 d2
    (now done)
    (cut_back len done (disk_at file old.calls old) (whole_at file old.calls old))
  where
    now : (t : Bool) → Cut len (disk_at file old.calls old).bytes (shortened len t (disk_at file old.calls old)).bytes
    now true = cut_take (disk_at file old.calls old).bytes len
    now false = cut_same (disk_at file old.calls old).bytes len

-- what a read gives after a write and after a cut that were done
pub bytes_written : (file : FileId) (at : ℕ) (piece : List ℕ) (old new : Past) → Grows (write file at piece true ∷ []) old new → (disk_at file new.calls new).bytes ≡ over (disk_at file old.calls old).bytes at piece
bytes_written file at piece old new grows = ap (λ (x : Disk). x.bytes) (disk_this file (write file at piece true) (written at piece true) (only_write file at piece true) old new grows)

pub bytes_cut : (file : FileId) (len : ℕ) (old new : Past) → Grows (cut file len true ∷ []) old new → (disk_at file new.calls new).bytes ≡ take len (disk_at file old.calls old).bytes
bytes_cut file len old new grows = ap (λ (x : Disk). x.bytes) (disk_this file (cut file len true) (shortened len true) (only_cut file len true) old new grows)

-- a sync
disk_synced : (file : FileId) (old new : Past) → Grows (sync file ∷ []) old new → disk_at file new.calls new ≡ fresh (disk_at file old.calls old).bytes
disk_synced file old new grows = disk_this file (sync file) (λ disk. fresh disk.bytes) (only_sync file) old new grows

disk_unsynced : (file : FileId) (old new : Past) → Grows (sync file ∷ []) old new → disk_at (other file) new.calls new ≡ disk_at (other file) old.calls old
disk_unsynced file old new grows = disk_that file (sync file) (λ disk. fresh disk.bytes) (only_sync file) old new grows

pub sync_on_disk : (file : FileId) (old new : Past) (s d : ℕ) → Grows (sync file ∷ []) old new → IsOnDisk file (view_of new s d)
sync_on_disk file old new s d grows = λ c may.
    image_fresh (disk_at file old.calls old).bytes (c file) (subst (λ (x : Disk). IsImage x (c file)) (disk_synced file old new grows) (may file))
    ∙ sym (ap (λ (x : Disk). x.bytes) (disk_synced file old new grows))

pub stays_synced : (file : FileId) (old new : Past) (s d s2 d2 : ℕ) → Grows (sync file ∷ []) old new → Stays (view_of old s d) (view_of new s2 d2)
stays_synced file old new s d s2 d2 grows = record {
  bytes = λ i on. same on i;
  crash = was;
  time = spans_grow s d s2 d2 (λ o c. (o ≡ output_at old.calls old) × MayLeave old old.calls c) grows
      (λ c may. (output_quiet file (sync file) (λ disk. fresh disk.bytes) (only_sync file) old new grows, was c may));
}
  where
    same : (on : FileId) → (disk_at on new.calls new).bytes ≡ (disk_at on old.calls old).bytes
    same = each_file (λ (on : FileId). (disk_at on new.calls new).bytes ≡ (disk_at on old.calls old).bytes) file (ap (λ (x : Disk). x.bytes) (disk_synced file old new grows)) (ap (λ (x : Disk). x.bytes) (disk_unsynced file old new grows))

    was : (c : Files) → MayLeave new new.calls c → MayLeave old old.calls c
    was c may = each_file (λ (on : FileId). IsImage (disk_at on old.calls old) (c on)) file
        (subst (λ (x : List ℕ). IsImage (disk_at file old.calls old) x)
        (sym (image_fresh (disk_at file old.calls old).bytes (c file) (subst (λ (x : Disk). IsImage x (c file)) (disk_synced file old new grows) (may file))))
        (image_same (disk_at file old.calls old) (whole_at file old.calls old)))
        (subst (λ (x : Disk). IsImage x (c (other file))) (disk_unsynced file old new grows) (may (other file)))

-- an append to the output
pub emits_one : (piece : List ℕ) (old new : Past) (s d s2 d2 : ℕ) → Grows (emit piece ∷ []) old new → Emits piece (view_of old s d) (view_of new s2 d2)
emits_one piece old new s d s2 d2 grows = record {
  bytes = λ i file. (disk_one grows file i).bytes;
  crash = was;
  time = spans_grow s d s2 d2 (λ o c. IsPart piece (output_at old.calls old) o × MayLeave old old.calls c) grows (λ c may. (part, was c may));
}
  where
    was : (c : Files) → MayLeave new new.calls c → MayLeave old old.calls c
    was c may = λ file. subst (λ (x : Disk). IsImage x (c file)) (disk_one grows file) (may file)

    part : IsPart piece (output_at old.calls old) (output_at new.calls new)
    part = (length piece, output_one grows ∙ ap (λ (p : List ℕ). output_at old.calls old ++ p) (sym (take_all (length piece) piece (omega arith))))

pub part_none : (piece : List ℕ) (old new : Past) → Grows [] old new → IsPart piece (output_at old.calls old) (output_at new.calls new)
part_none piece old new grows = (0, output_none grows ∙ sym (append-nil (output_at old.calls old)))

pub part_one : (piece : List ℕ) (old new : Past) → Grows (emit piece ∷ []) old new → IsPart piece (output_at old.calls old) (output_at new.calls new)
part_one piece old new grows = (length piece, output_one grows ∙ ap (λ (p : List ℕ). output_at old.calls old ++ p) (sym (take_all (length piece) piece (omega arith))))

pub emits_none : (piece : List ℕ) (old new : Past) (s d s2 d2 : ℕ) → Grows [] old new → Emits piece (view_of old s d) (view_of new s2 d2)
emits_none piece old new s d s2 d2 grows = record {
  bytes = λ i file. (disk_none grows file i).bytes;
  crash = was;
  time = spans_grow s d s2 d2 (λ o c. IsPart piece (output_at old.calls old) o × MayLeave old old.calls c) grows (λ c may. (part_none piece old new grows, was c may));
}
  where
    was : (c : Files) → MayLeave new new.calls c → MayLeave old old.calls c
    was c may = λ file. subst (λ (x : Disk). IsImage x (c file)) (disk_none grows file) (may file)
