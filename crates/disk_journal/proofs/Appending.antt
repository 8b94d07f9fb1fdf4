-- An append, as it changes the two files and what a crash may leave of them.
use Rattle.std.proofs.Common.{◌≡◌, ℕ, ◌+◌, ◌^◌, ◌<◌, ◌⊎◌, inl, inr, ⊎_elim, List, [], ◌∷◌, ◌++◌, length, sym, ◌∙◌, subst, arith}
use Rattle.std.specs.Prelude.{Result, IfOk}
use Rattle.host_api.specs.declared.host.FileId.{FileId}
use Rattle.host_api.specs.declared.host.FileId.TheVariants.{Zero, One}
use Rattle.host_api.specs.declared.host.Failed.{Failed}
use Rattle.host_api.specs.Host.{Files, View, IsOnDisk, Steps, Follows, other}
use Rattle.host_api.proofs.Spans.{spans_weaker, steps_from, steps_then}
use Rattle.disk_journal.specs.File.{IsFile, IsBelow, Gives}
use Rattle.disk_journal.specs.Frame.{framed}
use Rattle.disk_journal.specs.Place.{Place, IsOpen}
use Rattle.disk_journal.specs.Steps.{HasLanded, Lands, Appends, GivesBeforeOrAfter}
use Rattle.disk_journal.proofs.Files.{HasRecord, torn_behind, record_lands, gate_opens, torn_gate}

-- what holds of a file and of the other one holds of each
pub of_each : (P : FileId → Type 0) (file : FileId) → P file → P (other file) → (x : FileId) → P x
of_each P Zero this that Zero = this
of_each P Zero this that One = that
of_each P One this that Zero = that
of_each P One this that One = this

pub seen_as : {v : View} (a b : Place) (ps : List (List ℕ)) → a ≡ b → IsOpen b ps v → IsOpen a ps v
seen_as {v} a b ps same is = subst (λ (place : Place). IsOpen place ps v) (sym same) is

pub lands_as : {file : FileId} {at : ℕ} {result : Result (Unit {0}) Failed} {old new : View} (a b : List ℕ) → a ≡ b → Lands file at a result old new → Lands file at b result old new
lands_as {file} {at} {result} {old} {new} a b same it = subst (λ (piece : List ℕ). Lands file at piece result old new) same it

pub landed_as : {file : FileId} {at : ℕ} {old new : View} (a b : List ℕ) → a ≡ b → HasLanded file at a old new → HasLanded file at b old new
landed_as {file} {at} {old} {new} a b same it = subst (λ (piece : List ℕ). HasLanded file at piece old new) same it

pub ends_at : {file : FileId} {generation : ℕ} {ps : List (List ℕ)} {v : View} (a b : ℕ) → a ≡ b → IsOpen (record { file = file; generation = generation; end = a }) ps v → IsOpen (record { file = file; generation = generation; end = b }) ps v
ends_at {file} {generation} {ps} {v} a b same is = subst (λ (end : ℕ). IsOpen (record { file = file; generation = generation; end = end }) ps v) same is

-- the file, with the record or without it
abbrev pub IsEither : Place → List (List ℕ) → List ℕ → List ℕ → Type 0
IsEither place ps p file = IsFile place.generation ps place.end file ⊎ IsFile place.generation (ps ++ p ∷ []) (place.end + (length p + 9)) file

-- the first write, and its sync
pub first_half : {place : Place} {ps : List (List ℕ)} {result : Result (Unit {0}) Failed} {old mid : View} (p : List ℕ) → IsOpen place ps old → Lands place.file (place.end + 1) (framed p) result old mid → Steps place.file (λ _ b. IsEither place ps p b) old mid
first_half {place} {ps} p is first = steps_from (IsEither place ps p) (is.on_disk place.file) (λ b torn. inl (torn_behind (place.end + 1) (length (framed p)) b is.counts (omega arith) torn)) first.steps

-- the record lies behind the closed gate
pub record Landed (place : Place) (ps : List (List ℕ)) (p : List ℕ) (mid : View) : Type 0 where
  pub has : HasRecord place.generation ps place.end p (mid.bytes place.file)
  pub on_disk : IsOnDisk place.file mid

pub landed : {place : Place} {ps : List (List ℕ)} {p : List ℕ} {old mid : View} → IsOpen place ps old → HasLanded place.file (place.end + 1) (framed p) old mid → Landed place ps p mid
landed {place} {ps} {p} {old} {mid} is done = record { has = record_lands p (mid.bytes place.file) is.counts done.bytes; on_disk = done.on_disk }

-- the second write, and its sync
pub both_halves : {place : Place} {ps : List (List ℕ)} {p : List ℕ} {result : Result (Unit {0}) Failed} {old mid new : View} → mid.out ≡ old.out → length p < 2 ^ 64 → Steps place.file (λ _ b. IsEither place ps p b) old mid → Landed place ps p mid → Lands place.file place.end (1 ∷ []) result mid new → Steps place.file (λ _ b. IsEither place ps p b) old new
both_halves {place} {ps} {p} same small first at second = steps_then (λ _ b. IsEither place ps p b) same (λ a b h. h) (λ a b c h k. k) first (steps_from (IsEither place ps p) at.on_disk (λ b torn. torn_gate p b at.has small torn) second.steps)

-- what a pair of files gives of which one is the file, with the record or without it
gives : (place : Place) (ps : List (List ℕ)) (p : List ℕ) (c : Files) → IsEither place ps p (c place.file) → IsBelow place.file place.generation (c (other place.file)) → GivesBeforeOrAfter place.generation ps p c
gives place ps p c either below =
    ⊎_elim
    (λ without. inl (Gives.counted place.file (record { end = place.end; counts = without; below = below })))
    (λ within. inr (Gives.counted place.file (record { end = place.end + (length p + 9); counts = within; below = below })))
    either

-- the other file stays, whatever a crash leaves
that_stays : {place : Place} {ps : List (List ℕ)} {old : View} (p : List ℕ) (c : Files) → IsOpen place ps old → Follows place.file (λ _ b. IsEither place ps p b) old c → c (other place.file) ≡ old.bytes (other place.file)
that_stays {place} p c is h = h.2.that ∙ is.on_disk (other place.file) h.0 h.1

pub appends : {place : Place} {ps : List (List ℕ)} {p : List ℕ} {result : Result Place Failed} {old new : View} → IsOpen place ps old → Steps place.file (λ _ b. IsEither place ps p b) old new → IfOk result (λ next. IsOpen next (ps ++ p ∷ []) new) → Appends place.generation ps p result old new
appends {place} {ps} {p} {result} {old} {new} is steps done = record {
  done = done;
  bytes = gives place ps p new.bytes steps.bytes.this (below new.bytes steps.bytes.that);
  crash = λ c now. follows c (steps.crash c now);
  time = spans_weaker (λ o c. (o ≡ old.out) × GivesBeforeOrAfter place.generation ps p c) steps.time (λ o c h. (h.0, follows c h.1));
}
  where
    below : (c : Files) → c (other place.file) ≡ old.bytes (other place.file) → IsBelow place.file place.generation (c (other place.file))
    below c same = subst (λ (b : List ℕ). IsBelow place.file place.generation b) (sym same) is.below

    follows : (c : Files) → Follows place.file (λ _ b. IsEither place ps p b) old c → GivesBeforeOrAfter place.generation ps p c
    follows c h = gives place ps p c h.2.this (below c (that_stays p c is h))

-- the journal goes on behind the record
pub goes_on : {place : Place} {ps : List (List ℕ)} {old mid new : View} (p : List ℕ) → IsOpen place ps old → length p < 2 ^ 64 → Landed place ps p mid → HasLanded place.file place.end (1 ∷ []) mid new → Steps place.file (λ _ b. IsEither place ps p b) old new → IsOpen (record { file = place.file; generation = place.generation; end = place.end + (length p + 9) }) (ps ++ p ∷ []) new
goes_on {place} {ps} {old} {mid} {new} p is small at done steps = record {
  counts = gate_opens p (new.bytes place.file) at.has small done.bytes;
  below = subst (λ (b : List ℕ). IsBelow place.file place.generation b) (sym steps.bytes.that) is.below;
  on_disk = of_each (λ f. IsOnDisk f new) place.file done.on_disk (λ c now. that_stays p c is (steps.crash c now) ∙ sym steps.bytes.that);
}

-- the same, of the generation by another name
pub appends_as : {a b : Place} {ps : List (List ℕ)} {p : List ℕ} {result : Result Place Failed} {old new : View} → a ≡ b → Appends a.generation ps p result old new → Appends b.generation ps p result old new
appends_as {a} {b} {ps} {p} {result} {old} {new} same it = subst (λ (place : Place). Appends place.generation ps p result old new) same it
