-- A blank file as it is formatted, and what a crash may leave of it.
use Rattle.std.proofs.Common.{◌≡◌, ◌≢◌, ℕ, ◌+◌, ◌^◌, ◌<◌, inl, inr, ⊎_elim, List, [], ◌∷◌, ◌++◌, length, take, drop, get_or, refl, ap, sym, ◌∙◌, subst, arith}
use Rattle.std.specs.Prelude.{Result}
use Rattle.std.proofs.lemmas.Bool.Decides.{eqb_tells}
use Rattle.std.proofs.lemmas.List.Elements.{All-nil}
use Rattle.host_api.specs.declared.host.FileId.{FileId}
use Rattle.host_api.specs.declared.host.FileId.TheVariants.{Zero, One}
use Rattle.host_api.specs.declared.host.Failed.{Failed}
use Rattle.host_api.specs.Host.{Files, View, Torn, over, IsOnDisk, Steps, Follows}
use Rattle.host_api.proofs.Spans.{spans_none, spans_weaker, steps_from, steps_then}
use Rattle.disk_journal.specs.declared.reading.Blank.{Blank}
use Rattle.disk_journal.specs.declared.reading.Blank.TheVariants as blank
use Rattle.disk_journal.specs.File.{header_of, IsBlank, IsFile, IsBelow}
use Rattle.disk_journal.specs.Place.{IsOpen}
use Rattle.disk_journal.specs.Reading.{IsBlankAs}
use Rattle.disk_journal.specs.Steps.{HasLanded, Lands}
use Rattle.disk_journal.specs.Opening.{IsFresh, IsBlankOrNew, fresh_rest, Closes}
use Rattle.disk_journal.proofs.Lists.{torn_back}
use Rattle.disk_journal.proofs.Once.{is_file}

-- ---- one file

pub bare_torn : (file c : List ℕ) → IsBlankAs blank.Bare file → Torn 0 1 file c → IsBlank c
bare_torn file c bare torn = inl (omega (arith, bare.0, torn.no_longer))

pub bare_closed : (file c : List ℕ) → c ≡ over file 0 (0 ∷ []) → IsBlankAs blank.Closed c
bare_closed file c e = subst (λ (f : List ℕ). IsBlankAs blank.Closed f) (sym e) (omega arith, λ h. omega (arith, h))

pub closed_torn : (file c : List ℕ) → IsBlankAs blank.Closed file → Torn 1 16 file c → IsBlank c
closed_torn file c closed torn = inr (λ opened. closed.1 (sym (torn.below 0 (omega (arith, closed.0)) (omega arith)) ∙ opened))

-- behind a closed gate lies the rest of a header, and a closed gate
pub record HasRest (file : List ℕ) : Type 0 where
  pub gate : ℕ
  pub shut : gate ≢ 1
  pub rest : List ℕ
  pub split : file ≡ gate ∷ (fresh_rest ++ rest)

pub rest_lands : (file c : List ℕ) → IsBlankAs blank.Closed file → c ≡ over file 1 fresh_rest → HasRest c
rest_lands [] c closed e = absurd (omega (arith, closed.0))
rest_lands (x ∷ xs) c closed e = record { gate = x; shut = closed.1; rest = drop (1 + length fresh_rest) (x ∷ xs); split = e }

pub opens_new : (rest c : List ℕ) → c ≡ 1 ∷ (fresh_rest ++ rest) → IsFile 1 [] 16 c
unfolding header_of
opens_new rest c e = is_file {behind = 0 ∷ rest} 16 (omega arith) (omega arith) e (record { short = All-nil (λ (l : List ℕ). length l < 2 ^ 64); behind = 0 ∷ rest; shut = record { gate = 0; shut = λ h. omega (arith, h); rest = rest; split = refl }; split = refl }) refl

pub gate_torn : (file c : List ℕ) → HasRest file → Torn 0 1 file c → IsBlankOrNew c
gate_torn file c has torn = ⊎_elim (λ opened. inr (opens_new has.rest c (parts ∙ ap (λ (x : ℕ). x ∷ (fresh_rest ++ has.rest)) opened.1))) (λ closed. inl (inr closed.1)) (eqb_tells (get_or c 0 0) 1)
  where
    long : 0 < length c
    long = omega (arith, torn.no_shorter, ap length has.split)

    one : (l : List ℕ) → 0 < length l → take 1 (drop 0 l) ≡ get_or l 0 0 ∷ []
    one [] lt = absurd (omega arith)
    one (x ∷ xs) lt = refl

    parts : c ≡ get_or c 0 0 ∷ (fresh_rest ++ has.rest)
    parts = torn_back [] (has.gate ∷ []) (fresh_rest ++ has.rest) c 0 1 refl refl (subst (λ (f : List ℕ). Torn 0 1 f c) has.split torn) ∙ ap (λ (l : List ℕ). l ++ (fresh_rest ++ has.rest)) (one c long)

pub gate_opened : (file c : List ℕ) → HasRest file → c ≡ over file 0 (1 ∷ []) → IsFile 1 [] 16 c
gate_opened file c has e = opens_new has.rest c (e ∙ ap (λ (f : List ℕ). 1 ∷ drop 1 f) has.split)

-- ---- both files

-- nothing was to be done
pub closes_none : {v : View} → IsBlankAs blank.Closed (v.bytes Zero) → IsOnDisk Zero v → Steps Zero (λ _ b. IsBlank b) v v
closes_none {v} closed on_disk = record {
  bytes = record { this = inr closed.1; that = refl };
  crash = λ c now. (c, now, record { this = subst (λ (b : List ℕ). IsBlank b) (sym (on_disk c now)) (inr closed.1); that = refl });
  time = spans_none v (λ o c. (o ≡ v.out) × Follows Zero (λ _ b. IsBlank b) v c);
}

pub closes_bare : {result : Result (Unit {0}) Failed} {old new : View} → IsBlankAs blank.Bare (old.bytes Zero) → IsOnDisk Zero old → Lands Zero 0 (0 ∷ []) result old new → Steps Zero (λ _ b. IsBlank b) old new
closes_bare {result} {old} bare on_disk lands = steps_from IsBlank on_disk (λ b torn. bare_torn (old.bytes Zero) b bare torn) lands.steps

pub new_or : (file : List ℕ) → IsBlank file → IsBlankOrNew file
new_or file is = inl is

-- the gate was closed
pub after_close : {result : Result (Unit {0}) Failed} {old mid : View} → Closes result old mid → Steps Zero (λ _ b. IsBlankOrNew b) old mid
after_close {result} {old} {mid} it = record {
  bytes = record { this = inl it.steps.bytes.this; that = it.steps.bytes.that };
  crash = λ c now. wider c (it.steps.crash c now);
  time = spans_weaker (λ o c. (o ≡ old.out) × Follows Zero (λ _ b. IsBlankOrNew b) old c) it.steps.time (λ o c h. (h.0, wider c h.1));
}
  where
    wider : (c : Files) → Follows Zero (λ _ b. IsBlank b) old c → Follows Zero (λ _ b. IsBlankOrNew b) old c
    wider c h = (h.0, h.1, record { this = inl h.2.this; that = h.2.that })

-- then the rest of a header was written behind it
pub after_rest : {result : Result (Unit {0}) Failed} {old mid new : View} → mid.out ≡ old.out → Steps Zero (λ _ b. IsBlankOrNew b) old mid → IsBlankAs blank.Closed (mid.bytes Zero) × IsOnDisk Zero mid → Lands Zero 1 fresh_rest result mid new → Steps Zero (λ _ b. IsBlankOrNew b) old new
after_rest {result} {old} {mid} {new} same first closed second =
    steps_then (λ _ b. IsBlankOrNew b) same (λ a b h. h) (λ a b c h k. k) first (steps_from IsBlankOrNew closed.1 (λ b torn. inl (closed_torn (mid.bytes Zero) b closed.0 torn)) second.steps)

-- then the gate was opened
pub after_open : {result : Result (Unit {0}) Failed} {old mid new : View} → mid.out ≡ old.out → Steps Zero (λ _ b. IsBlankOrNew b) old mid → HasRest (mid.bytes Zero) → IsOnDisk Zero mid → Lands Zero 0 (1 ∷ []) result mid new → Steps Zero (λ _ b. IsBlankOrNew b) old new
after_open {result} {old} {mid} {new} same first has on_disk second =
    steps_then (λ _ b. IsBlankOrNew b) same (λ a b h. h) (λ a b c h k. k) first (steps_from IsBlankOrNew on_disk (λ b torn. gate_torn (mid.bytes Zero) b has torn) second.steps)

pub is_open : {b : Blank} {old mid new : View} → IsFresh b old → HasRest (mid.bytes Zero) → HasLanded Zero 0 (1 ∷ []) mid new → Steps Zero (λ _ b. IsBlankOrNew b) old new → IsOpen (record { file = Zero; generation = 1; end = 16 }) [] new
is_open {b} {old} {mid} {new} fresh has landed steps = record {
  counts = gate_opened (mid.bytes Zero) (new.bytes Zero) has landed.bytes;
  below = IsBelow.blank (subst (λ (l : List ℕ). IsBlank l) (sym steps.bytes.that) fresh.one_is);
  on_disk = on_each;
}
  where
    on_each : (file : FileId) → IsOnDisk file new
    on_each Zero c now = landed.on_disk c now
    on_each One c now = let h = steps.crash c now in h.2.that ∙ fresh.on_disk One h.0 h.1 ∙ sym steps.bytes.that
