-- The two syncs that an opening begins with, and what a crash leaves after them.
use Rattle.std.proofs.Common.{◌≡◌, ◌⊎◌, inl, inr, ⊎_elim, Result, Ok, Err, ap, ◌∙◌, subst}
use Rattle.host_api.specs.declared.host.FileId.{FileId}
use Rattle.host_api.specs.Host.{Files, View, IsOnDisk, Stays}
use Rattle.host_api.proofs.Spans.{spans_then, spans_weaker}
use Rattle.disk_journal.specs.declared.fault.OpenFault.{OpenFault}
use Rattle.disk_journal.specs.declared.fault.OpenFault.TheVariants as fault
use Rattle.disk_journal.specs.Steps.{GiveSame, IsOrGivesSame, Opens, Settled, SettlesFirst}

-- both files are on the disk, and then nothing changes
pub settled_first : {H : Type 0} (view : H → View) (h : H) {old new : View} → (view h).out ≡ old.out → Stays old (view h) → ((file : FileId) → IsOnDisk file (view h)) → Stays (view h) new → Settled view old new
settled_first view h {old} {new} out before on_disk behind = record {
  host = h;
  out = out;
  stays = before;
  on_disk = on_disk;
  time = spans_weaker (λ o c. (o ≡ old.out) × IsOrGivesSame old.bytes c) behind.time (λ o c left. (left.0 ∙ out, same c left.1));
  crash = λ c now. same c (behind.crash c now);
}
  where
    same : (c : Files) → (view h).may_leave c → IsOrGivesSame old.bytes c
    same c left = inl (λ file. on_disk file c left ∙ ap (λ (f : Files). f file) before.bytes)

-- and then file 0 is formatted
pub settled_opens : {H : Type 0} (view : H → View) {old mid new : View} → mid.out ≡ old.out → mid.bytes ≡ old.bytes → Settled view old mid → Opens mid new → Settled view old new
settled_opens view {old} {mid} {new} out bytes settled opens = record {
  host = settled.host;
  out = settled.out;
  stays = settled.stays;
  on_disk = settled.on_disk;
  time = spans_then (λ o c. (o ≡ old.out) × IsOrGivesSame old.bytes c) settled.time opens.time (λ o c h. h) (λ o c h. (h.0 ∙ out, later c h.1));
  crash = λ c now. later c (opens.crash c now);
}
  where
    later : (c : Files) → mid.may_leave c ⊎ GiveSame mid.bytes c → IsOrGivesSame old.bytes c
    later c h = ⊎_elim (λ left. settled.crash c left) (λ gives. inr (subst (λ (f : Files). GiveSame f c) bytes gives)) h

pub settles : {H T : Type 0} (view : H → View) (result : Result T OpenFault) {old new : View} → Settled view old new → SettlesFirst view result old new
settles view (Ok opened) it = it
settles view (Err fault.DiskFault) it = inr it
settles view (Err (fault.NotAStore file)) it = it
settles view (Err fault.NoMemory) it = it
