-- What one more call does to the past of a host in memory, as its contracts see it.
use Rattle.std.proofs.Common.{◌≡◌, ℕ, ◌+◌, ◌<◌, ◌≤◌, List, [], ◌∷◌, ◌++◌, inl, inr, ⊎_elim, refl, ap, sym, ◌∙◌, subst, arith}
use Rattle.std.proofs.lemmas.List.{append-nil}
use Rattle.std.proofs.lemmas.Bool.{cases_lt}
use Rattle.std.proofs.lemmas.Grind.{flat_map-append}
use Rattle.host_api.specs.declared.host.FileId.{FileId}
use Rattle.host_api.specs.declared.host.FileId.TheVariants.{Zero, One}
use Rattle.host_api.specs.Host.{Files, Spans}
use Rattle.host_api.specs.Disk.{Disk, IsImage, fresh}
use Rattle.host_api.specs.Past.{Step, Past, first, upto, emitted, out_of, after, run, disk_at, output_at, MayLeave, view_of, Grows}

pub run_push : (file : FileId) (disk : Disk) (steps : List Step) (step : Step) → run file disk (steps ++ step ∷ []) ≡ after file step (run file disk steps)
run_push file disk [] step = refl
run_push file disk (one ∷ steps) step = run_push file (after file one disk) steps step

pub out_push : (steps : List Step) (step : Step) → out_of (steps ++ step ∷ []) ≡ out_of steps ++ emitted step
out_push steps step = flat_map-append emitted steps (step ∷ []) ∙ ap (λ (e : List ℕ). out_of steps ++ e) (append-nil (emitted step))

pub first_same : {added : List Step} {old new : Past} → Grows added old new → (file : FileId) → first file new ≡ first file old
first_same grows Zero = grows.zero
first_same grows One = grows.one

-- the calls before are as they were
pub disk_before : {added : List Step} {old new : Past} → Grows added old new → (file : FileId) (k : ℕ) → k ≤ old.calls → disk_at file k new ≡ disk_at file k old
disk_before {added} {old} {new} grows file k le =
    ap (λ (b : List ℕ). run file (fresh b) (upto k new.notes)) (first_same grows file) ∙ ap (λ (s : List Step). run file (fresh (first file old)) s) (grows.before k le)

pub output_before : {added : List Step} {old new : Past} → Grows added old new → (k : ℕ) → k ≤ old.calls → output_at k new ≡ output_at k old
output_before grows k le = ap out_of (grows.before k le)

pub disk_none : {old new : Past} → Grows [] old new → (file : FileId) → disk_at file new.calls new ≡ disk_at file old.calls old
disk_none {old} {new} grows file =
    ap (λ (b : List ℕ). run file (fresh b) (upto new.calls new.notes)) (first_same grows file) ∙ ap (λ (s : List Step). run file (fresh (first file old)) s) (grows.now ∙ append-nil (upto old.calls old.notes))

pub disk_one : {step : Step} {old new : Past} → Grows (step ∷ []) old new → (file : FileId) → disk_at file new.calls new ≡ after file step (disk_at file old.calls old)
disk_one {step} {old} {new} grows file =
    ap (λ (b : List ℕ). run file (fresh b) (upto new.calls new.notes)) (first_same grows file)
    ∙ ap (λ (s : List Step). run file (fresh (first file old)) s) grows.now
    ∙ run_push file (fresh (first file old)) (upto old.calls old.notes) step

pub output_none : {old new : Past} → Grows [] old new → output_at new.calls new ≡ output_at old.calls old
output_none {old} {new} grows = ap out_of (grows.now ∙ append-nil (upto old.calls old.notes))

pub output_one : {step : Step} {old new : Past} → Grows (step ∷ []) old new → output_at new.calls new ≡ output_at old.calls old ++ emitted step
output_one {step} {old} {new} grows = ap out_of grows.now ∙ out_push (upto old.calls old.notes) step

-- Time goes on by the call: what a crash may have left meanwhile is what it may leave after the call.
pub spans_grow : {added : List Step} {old new : Past} (s d s2 d2 : ℕ) (P : List ℕ → Files → Type 0) → Grows added old new
    → ((c : Files) → MayLeave new new.calls c → P (output_at new.calls new) c) → Spans (view_of old s d) (view_of new s2 d2) P
spans_grow {added} {old} {new} s d s2 d2 P grows after_call = record {
  later = grows.later;
  only = λ t u o c le most left. ⊎_elim
      (λ past. inl (earlier t o c left past))
      (λ since. inr (now o c left.0 (omega (arith, since, left.2, grows.most)) left.3 left.4, (left.0, omega (arith, since, most), left.2, left.3, left.4)))
      (cases_lt left.0 (old.calls + 1));
  keeps = λ t o c le left. (left.0, left.1, omega (arith, left.2, grows.later), left.3 ∙ sym (output_before grows left.0 left.2), λ file. subst (λ (x : Disk). IsImage x (c file)) (sym (disk_before grows file left.0 left.2)) (left.4 file));
}
  where
    earlier : (t : ℕ) (o : List ℕ) (c : Files) (left : (view_of new s2 d2).left_since t o c) → left.0 < old.calls + 1 → (view_of old s d).left_since t o c
    earlier t o c left past =
        let le : left.0 ≤ old.calls = omega (arith, past) in
        (left.0, left.1, le, left.3 ∙ output_before grows left.0 le, λ file. subst (λ (x : Disk). IsImage x (c file)) (disk_before grows file left.0 le) (left.4 file))

    now : (o : List ℕ) (c : Files) (k : ℕ) → k ≡ new.calls → o ≡ output_at k new → MayLeave new k c → P o c
    now o c k is out may = subst (λ (x : List ℕ). P x c) (sym (out ∙ ap (λ (n : ℕ). output_at n new) is)) (after_call c (subst (λ (n : ℕ). MayLeave new n c) is may))
