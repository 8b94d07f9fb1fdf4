-- Time that goes on over several calls.
use Rattle.std.proofs.Common.{◌≡◌, ℕ, ◌≤◌, List, inl, inr, ⊎_elim, sym, ◌∙◌, subst, arith}
use Rattle.host_api.specs.Host.{Files, View, OnFile, Follows, Spans, Stays, IsOnDisk, Steps}
use Rattle.host_api.specs.declared.host.FileId.{FileId}

-- before the first call
pub spans_none : (a : View) (P : List ℕ → Files → Type 0) → Spans a a P
spans_none a P = record { later = omega arith; only = λ t u o x le most left. inl left; keeps = λ t o x le left. left }

-- two runs are one, of which each leaves what has R
pub spans_then : {a b c : View} {P Q : List ℕ → Files → Type 0} (R : List ℕ → Files → Type 0) → Spans a b P → Spans b c Q → ((o : List ℕ) (x : Files) → P o x → R o x) → ((o : List ℕ) (x : Files) → Q o x → R o x) → Spans a c R
spans_then R first second p q = record {
  later = omega (arith, first.later, second.later);
  only = λ t u o x le most left. ⊎_elim
      (λ was. ⊎_elim (λ w. inl w) (λ h. inr (p o x h.0, second.keeps u o x (omega (arith, most, first.later)) h.1)) (first.only t u o x le most was))
      (λ h. inr (q o x h.0, h.1))
      (second.only t u o x (omega (arith, le, first.later)) (omega (arith, most, first.later)) left);
  keeps = λ t o x le left. second.keeps t o x (omega (arith, le, first.later)) (first.keeps t o x le left);
}

pub spans_weaker : {a b : View} {P : List ℕ → Files → Type 0} (R : List ℕ → Files → Type 0) → Spans a b P → ((o : List ℕ) (x : Files) → P o x → R o x) → Spans a b R
spans_weaker R it p = record { later = it.later; only = λ t u o x le most left. ⊎_elim (λ was. inl was) (λ h. inr (p o x h.0, h.1)) (it.only t u o x le most left); keeps = it.keeps }

-- what was left meanwhile counts as left since that moment
pub spans_since : {a b : View} {P : List ℕ → Files → Type 0} (u : ℕ) → u ≤ a.moment → Spans a b P → Spans a b (λ o x. b.left_since u o x)
spans_since u most it = record {
  later = it.later;
  only = λ t v o x le upto left. ⊎_elim (λ was. inl was) (λ h. ⊎_elim (λ was. inl was) (λ k. inr (h.1, k.1)) (it.only t v o x le upto left)) (it.only t u o x le most left);
  keeps = it.keeps;
}

-- a step of one file, and a call that changes nothing of the files
pub steps_stay : {file : FileId} {step : List ℕ → List ℕ → Type 0} {old mid new : View} → mid.out ≡ old.out → Steps file step old mid → Stays mid new → Steps file step old new
steps_stay {file} {step} {old} {mid} {new} same steps stays = record {
  bytes = subst (λ (b : Files). OnFile file step old.bytes b) (sym stays.bytes) steps.bytes;
  crash = λ c now. steps.crash c (stays.crash c now);
  time = spans_then (λ o c. (o ≡ old.out) × Follows file step old c) steps.time stays.time (λ o c h. h) (λ o c h. (h.0 ∙ same, steps.crash c h.1));
}

-- a step of a file that is on the disk is a step from what a read gives, whatever else a crash left
pub steps_from : {file : FileId} {step : List ℕ → List ℕ → Type 0} {old new : View} (P : List ℕ → Type 0) → IsOnDisk file old → ((b : List ℕ) → step (old.bytes file) b → P b) → Steps file step old new → Steps file (λ _ b. P b) old new
steps_from {file} {step} {old} {new} P on_disk from steps = record {
  bytes = record { this = from (new.bytes file) steps.bytes.this; that = steps.bytes.that };
  crash = λ c now. follows c (steps.crash c now);
  time = spans_weaker (λ o c. (o ≡ old.out) × Follows file (λ _ b. P b) old c) steps.time (λ o c h. (h.0, follows c h.1));
}
  where
    follows : (c : Files) → Follows file step old c → Follows file (λ _ b. P b) old c
    follows c h = (h.0, h.1, record { this = from (c file) (subst (λ (b : List ℕ). step b (c file)) (on_disk h.0 h.1) h.2.this); that = h.2.that })

-- two steps of one file are one
pub steps_then : {file : FileId} {first second : List ℕ → List ℕ → Type 0} {old mid new : View} (step : List ℕ → List ℕ → Type 0) → mid.out ≡ old.out → ((a b : List ℕ) → first a b → step a b) → ((a b c : List ℕ) → first a b → second b c → step a c) → Steps file first old mid → Steps file second mid new → Steps file step old new
steps_then {file} {first} {second} {old} {mid} {new} step same alone both one two = record {
  bytes = record { this = both _ _ _ one.bytes.this two.bytes.this; that = two.bytes.that ∙ one.bytes.that };
  crash = λ c now. follows c (two.crash c now);
  time = spans_then (λ o c. (o ≡ old.out) × Follows file step old c) one.time two.time
      (λ o c h. (h.0, (h.1.0, h.1.1, record { this = alone _ _ h.1.2.this; that = h.1.2.that })))
      (λ o c h. (h.0 ∙ same, follows c h.1));
}
  where
    follows : (c : Files) → Follows file second mid c → Follows file step old c
    follows c h = let d = one.crash h.0 h.1 in (d.0, d.1, record { this = both _ _ _ d.2.this h.2.this; that = h.2.that ∙ d.2.that })

-- what holds of each pair that a crash may leave, through a call on one of the files
pub steps_keep : {file : FileId} {step : List ℕ → List ℕ → Type 0} {old new : View} (P Q : Files → Type 0) → ((c : Files) → old.may_leave c → P c) → ((d c : Files) → P d → OnFile file step d c → Q c) → Steps file step old new
    → ((c : Files) → new.may_leave c → Q c) × Spans old new (λ o c. (o ≡ old.out) × Q c)
steps_keep {old = old} P Q before step_keeps steps =
    let follows = λ (c : Files) (h : Follows _ _ old c). step_keeps h.0 c (before h.0 h.1) h.2 in
    (λ c now. follows c (steps.crash c now), spans_weaker (λ o c. (o ≡ old.out) × Q c) steps.time (λ o c h. (h.0, follows c h.1)))
