-- Whole numbers of 32 bits, and those up to a most.
use Rattle.std.proofs.Common.{◌≡◌, ℕ, ◌<◌, ◌≤◌, ◌^◌, ℤ, pos, negsuc, unsigned_abs, FitsSigned, w32, w64, to_z, of_z, sym, ap, subst, ◌∙◌, arith}
use Rattle.std.specs.Int.{FitsUnsignedBits}
use Rattle.std.proofs.lemmas.Int.{to_z-of_z}
use Rattle.serde_json.specs.Data.{Data as Json}
use Rattle.json_model.specs.Numbers.{SpellsWhole, SpellsShort, SpellsUpTo}
use Rattle.json_model.proofs.Once.{whole_once}
use Rattle.json_model.proofs.Stored.{whole_fits}

kept : (d : Json) (number : ℤ) → SpellsWhole d number → to_z w64 (of_z w64 number) ≡ number
kept d number spelled = to_z-of_z w64 number (whole_fits d number spelled)

pub short_of : (d : Json) (number short : ℤ) → SpellsWhole d number → FitsSigned w32 (to_z w64 (of_z w64 number)) → short ≡ to_z w64 (of_z w64 number) → SpellsShort d (to_z w32 (of_z w32 short))
short_of d number short spelled fits is =
    let same = is ∙ kept d number spelled in
    let small = subst (FitsSigned w32) (kept d number spelled) fits in
    subst (SpellsShort d) (sym (ap (λ z. to_z w32 (of_z w32 z)) same ∙ to_z-of_z w32 number small)) (record { whole = spelled; fits = small })

pub no_short : (d : Json) (number : ℤ) → SpellsWhole d number → (FitsSigned w32 (to_z w64 (of_z w64 number)) → ⊥) → (z : ℤ) → SpellsShort d z → ⊥
no_short d number spelled never z is = never (subst (FitsSigned w32) (whole_once d z number is.whole spelled ∙ sym (kept d number spelled)) is.fits)

-- ---- up to a most

-- what a number that is read is, where it spells one
same_count : (most : ℕ) (d : Json) (number : ℤ) (n : ℕ) → SpellsWhole d number → SpellsUpTo most d n → to_z w64 (of_z w64 number) ≡ pos n
same_count most d number n spelled is = kept d number spelled ∙ whole_once d number (pos n) spelled is.whole

pub up_to_none : (most : ℕ) (d : Json) (number : ℤ) → most < 2 ^ 32 → SpellsWhole d number → (FitsUnsignedBits 32 (to_z w64 (of_z w64 number)) → ⊥) → (n : ℕ) → SpellsUpTo most d n → ⊥
up_to_none most d number range spelled never n is =
    let few = is.few in
    let small : n < 2 ^ 32 = omega (arith, few, range) in
    never (subst (FitsUnsignedBits 32) (sym (same_count most d number n spelled is)) small)

pub up_to_many : (most : ℕ) (d : Json) (number : ℤ) (count : ℕ) → SpellsWhole d number → count ≡ unsigned_abs (to_z w64 (of_z w64 number)) → most < count → (n : ℕ) → SpellsUpTo most d n → ⊥
up_to_many most d number count spelled counts many n is =
    let few = is.few in
    let same : count ≡ n = counts ∙ ap unsigned_abs (same_count most d number n spelled is) in
    absurd (omega (arith, few, many, same))

by_sign : (most : ℕ) (d : Json) (number : ℤ) (count : ℕ) → SpellsWhole d number → FitsUnsignedBits 32 number → count ≡ unsigned_abs number → count ≤ most → SpellsUpTo most d count
by_sign most d (pos n) count spelled fits counts few = record { whole = subst (λ (k : ℕ). SpellsWhole d (pos k)) (sym counts) spelled; few = few }
by_sign most d (negsuc n) count spelled fits counts few = absurd fits

pub up_to_is : (most : ℕ) (d : Json) (number : ℤ) (count : ℕ) → SpellsWhole d number → FitsUnsignedBits 32 (to_z w64 (of_z w64 number)) → count ≡ unsigned_abs (to_z w64 (of_z w64 number)) → count ≤ most → SpellsUpTo most d count
up_to_is most d number count spelled fits counts few =
    by_sign most d number count spelled (subst (FitsUnsignedBits 32) (kept d number spelled) fits) (counts ∙ ap unsigned_abs (kept d number spelled)) few
