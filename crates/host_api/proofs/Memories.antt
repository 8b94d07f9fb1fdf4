-- A host in memory: how it begins, and what its calls answer.
use Rattle.std.proofs.Common.{◌≡◌, ℕ, ◌+◌, ◌^◌, ◌<◌, ◌≤◌, Bool, true, false, List, [], ◌∷◌, ◌++◌, length, take, Option, Result, Ok, Err, IfOk, OnOk, OnErr, inl, inr, ⊎_elim, refl, ap, sym, ◌∙◌, subst, if◌then◌else◌}
use Rattle.host_api.specs.declared.host.Failed.{Failed}
use Rattle.host_api.specs.declared.host.NoMemory.{NoMemory}
use Rattle.host_api.specs.declared.host.FileId.{FileId}
use Rattle.host_api.specs.declared.host.FileId.TheVariants.{Zero, One}
use Rattle.host_api.specs.declared.memory_host.Outcome.{Outcome}
use Rattle.host_api.specs.declared.memory_host.Outcome.TheVariants.{Done, Failing, Starved}
use Rattle.host_api.specs.Counts.{Rises}
use Rattle.host_api.specs.Host.{Files, View, Torn, Cut, Steps, Stays, Writes, Cuts, Syncs, Emits, IsPart, IsOnDisk, over}
use Rattle.host_api.specs.Past.{Past, Step, emit, write, cut, sync, Grows, disk_at, output_at, MayLeave, view_of}
use Rattle.host_api.specs.PastLaws.{whole_at}
use Rattle.host_api.specs.Disk.{IsPicked}
use Rattle.host_api.specs.Memory.{Memory, IsFresh, host_view, Worked, Blames, Explains}
use Rattle.host_api.specs.Outcome.{Tried, Counted, StarvedBy, Answers, Settled}
use Rattle.host_api.proofs.Images.{image_fresh, image_picked, torn_same, cut_same}
use Rattle.host_api.proofs.Pasts.{output_one}
use Rattle.host_api.proofs.Moves.{stays_none, steps_none, steps_write, steps_cut, bytes_written, bytes_cut, sync_on_disk, stays_synced, emits_one, emits_none, part_one, part_none}

pub is_fresh : (file0 file1 first0 first1 listed : List ℕ) (past : Past) → past ≡ (record { zero = first0; one = first1; notes = []; calls = 0 }) → first0 ≡ file0 → first1 ≡ file1
    → IsFresh file0 file1 listed (record { past = past; failing = listed; starved = 0; sink_faults = 0; disk_faults = 0 })
is_fresh file0 file1 first0 first1 listed past is zero one = rw (is, zero, one) (record {
  out = refl;
  zero = refl;
  one = refl;
  crash = λ files may. (image_fresh file0 (files Zero) (may Zero), image_fresh file1 (files One) (may One));
  moment = refl;
  failing = refl;
  starved = refl;
  sink_faults = refl;
  disk_faults = refl;
})

-- what holds of a call that was done
on_done : (steps : Bool → List Step) (refused : Type 0) (outcome : Outcome) (result : Result (Unit {0}) Failed) (old new : Memory) (Q : Type 0) → Answers outcome result → Tried steps refused outcome old new → (Grows (steps true) old.past new.past → Q) → OnOk result Q
on_done steps refused outcome (Ok done) old new Q answer tried make = make (subst (λ (o : Outcome). Tried steps refused o old new) answer tried).2
on_done steps refused outcome (Err failed) old new Q answer tried make = tt

-- what holds of a call, whatever it did
on_any : (steps : Bool → List Step) (refused : Type 0) (outcome : Outcome) (old new : Memory) (Q : Type 0) → Tried steps refused outcome old new → (Grows [] old.past new.past → Q) → ((done : Bool) → Grows (steps done) old.past new.past → Q) → Q
on_any steps refused Done old new Q tried none some = some true tried.2
on_any steps refused Failing old new Q tried none some = ⊎_elim (λ listed. some false listed.1) (λ other. none other.1) tried
on_any steps refused Starved old new Q tried none some = none tried.3

-- once the fault was counted
settled_tried : (steps : Bool → List Step) (refused : Type 0) (outcome : Outcome) (result : Result (Unit {0}) Failed) (old mid new : Memory) → Tried steps refused outcome old mid → Settled outcome result mid new → Tried steps refused outcome old new
settled_tried steps refused Done result old mid new tried settled = (tried.0, tried.1, subst (λ (p : Past). Grows (steps true) old.past p) (sym settled.past) tried.2)
settled_tried steps refused Failing result old mid new tried settled =
    ⊎_elim (λ listed. inl (listed.0, subst (λ (p : Past). Grows (steps false) old.past p) (sym settled.past) listed.1)) (λ other. inr (other.0, subst (λ (p : Past). Grows [] old.past p) (sym settled.past) other.1)) tried
settled_tried steps refused Starved result old mid new tried settled = (tried.0, tried.1, tried.2, subst (λ (p : Past). Grows [] old.past p) (sym settled.past) tried.3)

-- when a call fails, and what it did
pub explains : (steps : Bool → List Step) (refused : Type 0) (outcome : Outcome) (result : Result (Unit {0}) Failed) (old mid new : Memory) → Tried steps refused outcome old mid → Counted old mid → Settled outcome result mid new → Explains steps refused result old new
explains steps refused outcome result old mid new tried counted settled =
    record {
      ok = on_ok result settled.answer;
      err = on_err result settled.answer;
      number = ap (λ (p : Past). p.calls) settled.past ∙ counted.number;
      failing = settled.failing ∙ counted.failing;
    }
  where
    now : Tried steps refused outcome old new
    now = settled_tried steps refused outcome result old mid new tried settled

    -- how it went
    went : (o : Outcome) → outcome ≡ o → Tried steps refused o old new × StarvedBy o mid.starved new.starved
    went o is = (subst (λ (o : Outcome). Tried steps refused o old new) is now, subst (λ (o : Outcome). StarvedBy o mid.starved new.starved) is settled.starved)

    on_ok : (r : Result (Unit {0}) Failed) → Answers outcome r → OnOk r ((new.starved ≡ old.starved) × Worked (steps true) refused old new)
    on_ok (Ok done) answer = let w = went Done answer in (w.1 ∙ counted.starved, w.0)
    on_ok (Err failed) answer = tt

    on_err : (r : Result (Unit {0}) Failed) → Answers outcome r → OnErr r (Blames (steps false) refused old new)
    on_err (Ok done) answer = tt
    on_err (Err failed) answer = ⊎_elim
        (λ is. let w = went Failing is in inl (w.1 ∙ counted.starved, w.0))
        (λ is. let w = went Starved is in inr (subst (λ (n : ℕ). Rises n new.starved) counted.starved w.1, w.0))
        answer

pub writes : (file : FileId) (at : ℕ) (piece : List ℕ) (outcome : Outcome) (result : Result (Unit {0}) Failed) (old mid new : Memory) → at ≤ length ((host_view old).bytes file)
    → Tried (λ done. write file at piece done ∷ []) (2 ^ 62 < at + length piece) outcome old mid → Settled outcome result mid new → Writes file at piece result (host_view old) (host_view new)
writes file at piece outcome result old mid new le tried settled =
    let steps = λ (done : Bool). write file at piece done ∷ [] in
    let now = settled_tried steps (2 ^ 62 < at + length piece) outcome result old mid new tried settled in
    record {
      done = on_done steps (2 ^ 62 < at + length piece) outcome result old new ((host_view new).bytes file ≡ over ((host_view old).bytes file) at piece) settled.answer now (λ grows. bytes_written file at piece old.past new.past grows);
      steps = on_any steps (2 ^ 62 < at + length piece) outcome old new (Steps file (Torn at (length piece)) (host_view old) (host_view new)) now
          (λ grows. steps_none file (Torn at (length piece)) old.past new.past old.sink_faults old.disk_faults new.sink_faults new.disk_faults (λ b. torn_same b at (length piece)) grows)
          (λ done grows. steps_write file at piece done old.past new.past old.sink_faults old.disk_faults new.sink_faults new.disk_faults le grows);
    }

pub cuts : (file : FileId) (len : ℕ) (outcome : Outcome) (result : Result (Unit {0}) Failed) (old mid new : Memory)
    → Tried (λ done. cut file len done ∷ []) ⊥ outcome old mid → Settled outcome result mid new → Cuts file len result (host_view old) (host_view new)
cuts file len outcome result old mid new tried settled =
    let steps = λ (done : Bool). cut file len done ∷ [] in
    let now = settled_tried steps ⊥ outcome result old mid new tried settled in
    record {
      done = on_done steps ⊥ outcome result old new ((host_view new).bytes file ≡ take len ((host_view old).bytes file)) settled.answer now (λ grows. bytes_cut file len old.past new.past grows);
      steps = on_any steps ⊥ outcome old new (Steps file (Cut len) (host_view old) (host_view new)) now
          (λ grows. steps_none file (Cut len) old.past new.past old.sink_faults old.disk_faults new.sink_faults new.disk_faults (λ b. cut_same b len) grows)
          (λ done grows. steps_cut file len done old.past new.past old.sink_faults old.disk_faults new.sink_faults new.disk_faults grows);
    }

pub syncs : (file : FileId) (outcome : Outcome) (result : Result (Unit {0}) Failed) (old mid new : Memory)
    → Tried (λ done. if done then sync file ∷ [] else []) ⊥ outcome old mid → Settled outcome result mid new → Syncs file result (host_view old) (host_view new)
syncs file outcome result old mid new tried settled =
    let steps = λ (done : Bool). if done then sync file ∷ [] else [] in
    let now = settled_tried steps ⊥ outcome result old mid new tried settled in
    record {
      done = on_done steps ⊥ outcome result old new (IsOnDisk file (host_view new)) settled.answer now (λ grows. sync_on_disk file old.past new.past new.sink_faults new.disk_faults grows);
      stays = on_any steps ⊥ outcome old new (Stays (host_view old) (host_view new)) now
          (λ grows. stays_none old.past new.past old.sink_faults old.disk_faults new.sink_faults new.disk_faults grows)
          (λ done. elim done as (λ (d : Bool). Grows (if d then sync file ∷ [] else []) old.past new.past → Stays (host_view old) (host_view new)) [
            | true ↦ λ grows. stays_synced file old.past new.past old.sink_faults old.disk_faults new.sink_faults new.disk_faults grows
            | false ↦ λ grows. stays_none old.past new.past old.sink_faults old.disk_faults new.sink_faults new.disk_faults grows
          ]);
    }

-- all that a call on the output says of it and of the files
pub record Emitted (piece : List ℕ) (result : Result (Unit {0}) Failed) (old new : View) : Type 0 where
  pub done : OnOk result (new.out ≡ old.out ++ piece)
  pub out : IsPart piece old.out new.out
  pub files : Emits piece old new

pub emits : (piece : List ℕ) (outcome : Outcome) (result : Result (Unit {0}) Failed) (old mid new : Memory)
    → Tried (λ done. if done then emit piece ∷ [] else []) ⊥ outcome old mid → Settled outcome result mid new → Emitted piece result (host_view old) (host_view new)
emits piece outcome result old mid new tried settled =
    let steps = λ (done : Bool). if done then emit piece ∷ [] else [] in
    let now = settled_tried steps ⊥ outcome result old mid new tried settled in
    record {
      done = on_done steps ⊥ outcome result old new ((host_view new).out ≡ (host_view old).out ++ piece) settled.answer now (λ grows. output_one grows);
      out = on_any steps ⊥ outcome old new (IsPart piece (host_view old).out (host_view new).out) now
          (λ grows. part_none piece old.past new.past grows)
          (λ done. elim done as (λ (d : Bool). Grows (if d then emit piece ∷ [] else []) old.past new.past → IsPart piece (host_view old).out (host_view new).out) [
            | true ↦ λ grows. part_one piece old.past new.past grows
            | false ↦ λ grows. part_none piece old.past new.past grows
          ]);
      files = on_any steps ⊥ outcome old new (Emits piece (host_view old) (host_view new)) now
          (λ grows. emits_none piece old.past new.past old.sink_faults old.disk_faults new.sink_faults new.disk_faults grows)
          (λ done. elim done as (λ (d : Bool). Grows (if d then emit piece ∷ [] else []) old.past new.past → Emits piece (host_view old) (host_view new)) [
            | true ↦ λ grows. emits_one piece old.past new.past old.sink_faults old.disk_faults new.sink_faults new.disk_faults grows
            | false ↦ λ grows. emits_none piece old.past new.past old.sink_faults old.disk_faults new.sink_faults new.disk_faults grows
          ]);
    }

-- what a crash leaves by choice after the first k calls, it may have left then
pub crash_left : (past : Past) (k len0 len1 : ℕ) (fill : Option ℕ) (s d : ℕ) (files : Files) → k ≤ past.calls → IsPicked (disk_at Zero k past) len0 fill (files Zero) → IsPicked (disk_at One k past) len1 fill (files One)
    → (t : ℕ) → t ≤ k → (view_of past s d).left_since t (output_at k past) files
crash_left past k len0 len1 fill s d files le zero one t since = (k, since, le, refl, may)
  where
    may : MayLeave past k files
    may Zero = image_picked (disk_at Zero k past) len0 fill (files Zero) (whole_at Zero k past) zero
    may One = image_picked (disk_at One k past) len1 fill (files One) (whole_at One k past) one

pub crashes : (memory : Memory) (k len0 len1 : ℕ) (fill : Option ℕ) (result : Result Memory NoMemory) → k ≤ memory.past.calls
    → IfOk result (λ crashed. IsPicked (disk_at Zero k memory.past) len0 fill ((host_view crashed).bytes Zero)) → IfOk result (λ crashed. IsPicked (disk_at One k memory.past) len1 fill ((host_view crashed).bytes One))
    → IfOk result (λ crashed. (t : ℕ) → t ≤ k → (host_view memory).left_since t (output_at k memory.past) (host_view crashed).bytes)
crashes memory k len0 len1 fill (Ok crashed) le zero one = λ t since. crash_left memory.past k len0 len1 fill memory.sink_faults memory.disk_faults (host_view crashed).bytes le zero one t since
crashes memory k len0 len1 fill (Err failed) le zero one = tt
