-- What the files of an open journal give, and that a call on the output leaves it.
use Rattle.std.proofs.Common.{ℕ, List, ap, sym, ◌∙◌, subst}
use Rattle.host_api.specs.Host.{Files, View, Emits, other}
use Rattle.disk_journal.specs.File.{IsFile, IsBelow, Gives}
use Rattle.disk_journal.specs.Place.{Place, IsOpen}

pub open_gives : {place : Place} {ps : List (List ℕ)} {v : View} → IsOpen place ps v → Gives v.bytes place.generation ps
open_gives {place} is = Gives.counted place.file (record { end = place.end; counts = is.counts; below = is.below })

-- after a crash now too
pub open_crash : {place : Place} {ps : List (List ℕ)} {v : View} → IsOpen place ps v → (c : Files) → v.may_leave c → Gives c place.generation ps
open_crash {place} {ps} {v} is c now = Gives.counted place.file (record {
  end = place.end;
  counts = subst (λ (b : List ℕ). IsFile place.generation ps place.end b) (sym (is.on_disk place.file c now)) is.counts;
  below = subst (λ (b : List ℕ). IsBelow place.file place.generation b) (sym (is.on_disk (other place.file) c now)) is.below;
})

pub open_emits : {place : Place} {ps : List (List ℕ)} {piece : List ℕ} {old new : View} → IsOpen place ps old → Emits piece old new → IsOpen place ps new
open_emits {place} {ps} {piece} {old} {new} is emits = record {
  counts = subst (λ (f : Files). IsFile place.generation ps place.end (f place.file)) (sym emits.bytes) is.counts;
  below = subst (λ (f : Files). IsBelow place.file place.generation (f (other place.file))) (sym emits.bytes) is.below;
  on_disk = λ file c now. is.on_disk file c (emits.crash c now) ∙ sym (ap (λ (f : Files). f file) emits.bytes);
}
