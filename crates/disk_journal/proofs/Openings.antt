-- An opening, as it leaves the files and what a crash may leave of them.
use Rattle.std.proofs.Common.{◌≡◌, ℕ, ◌⊎◌, inl, inr, ⊎_elim, List, [], refl, ap, sym, ◌∙◌, subst}
use Rattle.std.specs.Prelude.{Result}
use Rattle.host_api.specs.declared.host.FileId.{FileId}
use Rattle.host_api.specs.declared.host.Failed.{Failed}
use Rattle.host_api.specs.declared.host.FileId.TheVariants.{Zero, One}
use Rattle.host_api.specs.Host.{Files, View, IsOnDisk, Stays, Follows, other}
use Rattle.host_api.proofs.Spans.{spans_then, spans_weaker}
use Rattle.disk_journal.specs.declared.reading.Blank.{Blank}
use Rattle.disk_journal.specs.declared.reading.Blank.TheVariants as blank
use Rattle.disk_journal.specs.File.{IsBlank, IsFile, IsBelow, AreBlank, Counting, Gives}
use Rattle.disk_journal.specs.Place.{Place}
use Rattle.disk_journal.specs.Reading.{IsBlankAs}
use Rattle.disk_journal.specs.Steps.{GiveSame, Opens}
use Rattle.disk_journal.specs.Opening.{IsFresh, IsBlankOrNew, Formats}
use Rattle.disk_journal.proofs.Once.{file_not_blank}

-- ---- calls that change nothing

pub stays_then : {a b c : View} → b.out ≡ a.out → Stays a b → Stays b c → Stays a c
stays_then {a} {b} {c} same first second = record {
  bytes = second.bytes ∙ first.bytes;
  crash = λ x now. first.crash x (second.crash x now);
  time = spans_then (λ o x. (o ≡ a.out) × a.may_leave x) first.time second.time (λ o x h. h) (λ o x h. (h.0 ∙ same, first.crash x h.1));
}

pub stays_on_disk : {file : FileId} {a b : View} → Stays a b → IsOnDisk file a → IsOnDisk file b
stays_on_disk {file} {a} {b} stays on_disk c now = on_disk c (stays.crash c now) ∙ sym (ap (λ (f : Files). f file) stays.bytes)

pub opens_none : {old new : View} → Stays old new → Opens old new
opens_none {old} {new} stays = record {
  bytes = λ g ps gives. subst (λ (f : Files). Gives f g ps) (sym stays.bytes) gives;
  kept = λ some. stays;
  second = ap (λ (f : Files). f One) stays.bytes;
  crash = λ c now. inl (stays.crash c now);
  time = spans_weaker (λ o c. (o ≡ old.out) × (old.may_leave c ⊎ GiveSame old.bytes c)) stays.time (λ o c h. (h.0, inl h.1));
}

pub opens_after : {old mid new : View} → mid.out ≡ old.out → Stays old mid → Opens mid new → Opens old new
opens_after {old} {mid} {new} same stays opens = record {
  bytes = λ g ps gives. opens.bytes g ps (subst (λ (f : Files). Gives f g ps) (sym stays.bytes) gives);
  kept = λ some. stays_then same stays (opens.kept (subst (λ (f : Files). ¬ AreBlank f) (sym stays.bytes) some));
  second = opens.second ∙ ap (λ (f : Files). f One) stays.bytes;
  crash = λ c now. earlier c (opens.crash c now);
  time = spans_then (λ o c. (o ≡ old.out) × (old.may_leave c ⊎ GiveSame old.bytes c)) stays.time opens.time (λ o c h. (h.0, inl h.1)) (λ o c h. (h.0 ∙ same, earlier c h.1));
}
  where
    earlier : (c : Files) → mid.may_leave c ⊎ GiveSame mid.bytes c → old.may_leave c ⊎ GiveSame old.bytes c
    earlier c h = ⊎_elim (λ left. inl (stays.crash c left)) (λ gives. inr (subst (λ (f : Files). GiveSame f c) stays.bytes gives)) h

-- ---- formatting

pub as_blank : (b : Blank) (file : List ℕ) → IsBlankAs b file → IsBlank file
as_blank blank.Bare file is = inl is.0
as_blank blank.Closed file is = inr is.1

pub blank_gives : (files : Files) (g : ℕ) (ps : List (List ℕ)) → AreBlank files → Gives files g ps → (g ≡ 1) × (ps ≡ [])
blank_gives files g ps are (Gives.fresh also first none) = (first, none)
blank_gives files g ps are (Gives.counted Zero it) = absurd (file_not_blank it.counts are.0)
blank_gives files g ps are (Gives.counted One it) = absurd (file_not_blank it.counts are.1)

-- a pair of which file 0 is blank or formatted, and file 1 blank
new_gives : (c : Files) → IsBlankOrNew (c Zero) → IsBlank (c One) → Gives c 1 []
new_gives c zero one =
    ⊎_elim
    (λ is. Gives.fresh (is, one) refl refl)
    (λ is. Gives.counted Zero (record { end = 16; counts = is; below = IsBelow.blank one }))
    zero

pub opens_new : {b : Blank} {result : Result Place Failed} {old new : View} → IsFresh b old → Formats result old new → Opens old new
opens_new {b} {result} {old} {new} fresh it = record {
  bytes = λ g ps gives. let known = blank_gives old.bytes g ps are gives in subst (λ (h : ℕ). Gives new.bytes h ps) (sym known.0) (subst (λ (l : List (List ℕ)). Gives new.bytes 1 l) (sym known.1) (new_gives new.bytes it.steps.bytes.this (subst (λ (l : List ℕ). IsBlank l) (sym it.steps.bytes.that) fresh.one_is)));
  kept = λ some. absurd (some are);
  second = it.steps.bytes.that;
  crash = λ c now. inr (follows c (it.steps.crash c now));
  time = spans_weaker (λ o c. (o ≡ old.out) × (old.may_leave c ⊎ GiveSame old.bytes c)) it.steps.time (λ o c h. (h.0, inr (follows c h.1)));
}
  where
    are : AreBlank old.bytes
    are = (as_blank b (old.bytes Zero) fresh.zero_is, fresh.one_is)

    follows : (c : Files) → Follows Zero (λ _ f. IsBlankOrNew f) old c → GiveSame old.bytes c
    follows c h = (1, [], Gives.fresh are refl refl, new_gives c h.2.this (subst (λ (l : List ℕ). IsBlank l) (sym (h.2.that ∙ fresh.on_disk One h.0 h.1)) fresh.one_is))

-- ---- the counting file

pub counted_before : {old mid : View} {file : FileId} {g : ℕ} {ps : List (List ℕ)} {e : ℕ} → Stays old mid → IsFile g ps e (mid.bytes file) → IsBelow file g (mid.bytes (other file)) → Counting old.bytes file g ps
counted_before {old} {mid} {file} {g} {ps} {e} stays counts below =
    let now : Counting mid.bytes file g ps = record { end = e; counts = counts; below = below } in
    subst (λ (f : Files). Counting f file g ps) stays.bytes now

pub fresh_as : {b : Blank} {v : View} → IsBlankAs b (v.bytes Zero) → IsBlank (v.bytes One) → ((file : FileId) → IsOnDisk file v) → IsFresh b v
fresh_as zero one on_disk = record { zero_is = zero; one_is = one; on_disk = on_disk }

pub never_blank : {files : Files} {file : FileId} {g : ℕ} {ps : List (List ℕ)} → Counting files file g ps → ¬ AreBlank files
never_blank {file = Zero} it are = file_not_blank it.counts are.0
never_blank {file = One} it are = file_not_blank it.counts are.1
