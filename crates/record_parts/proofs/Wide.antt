-- Numbers are read as they are spelled, and no spelling of one is a front of another's.
use Rattle.std.proofs.Common.{◌≡◌, ℕ, ◌^◌, ◌<◌, ◌≤◌, List, ◌++◌, length, get_or, take, drop, refl, sym, ap, subst, ◌∙◌, arith, inl, inr, ℤ, FitsSigned}
use Rattle.std.specs.Int.{Width, w32, w64, byte_len, from_be_bytes, to_be_bytes, cast_unsigned, cast_signed}
use Rattle.std.proofs.lemmas.Bool.{cases_lt}
use Rattle.std.proofs.lemmas.Int.{ints, to_z-of_z}
use Rattle.std.proofs.lemmas.List.{take_at, take-append-drop, length-take, get_or-take, get_or_past, append_cancel_left}
use Rattle.std.proofs.lemmas.Nat.{be_bytes_4, be_bytes_8, from_be_bytes-to_be_bytes_4, from_be_bytes-to_be_bytes_8}
use Rattle.record_parts.specs.declared.fault.ReadError.{ReadError}
use Rattle.record_parts.specs.declared.fault.ReadError.TheVariants.{Memory, NotSpelled}
use Rattle.record_parts.specs.Spelling.{number, signed}
use Rattle.record_parts.specs.Reading.{Begins, Fails}

abbrev pub IsBytes : List ℕ → Type 0
IsBytes bytes = (i : ℕ) → get_or bytes i 0 < 256

IsBytes-take : (n : ℕ) (bytes : List ℕ) → IsBytes bytes → IsBytes (take n bytes)
IsBytes-take n bytes h i =
    elim (cases_lt i n) [
      | inl lt ↦ rw (get_or-take n bytes i 0 lt) (h i)
      | inr le ↦ rw (get_or_past (take n bytes) i 0 (omega (arith, length-take n bytes))) (omega arith)
    ]

-- what two fronts of one list have spelled is one value, and what follows it one rest
abbrev pub IsUnique : {X : Type 0} → (X → List ℕ) → (X → Type 0) → Type 0
IsUnique {X} spell Fits = (a b : X) (s t : List ℕ) → Fits a → Fits b → spell a ++ s ≡ spell b ++ t → (a ≡ b) × (s ≡ t)

pub record IsWide (w : Width) (limit : ℕ) : Type 0 where
  pub len : (n : ℕ) → length (to_be_bytes w n) ≡ byte_len w
  pub back : (bytes : List ℕ) → length bytes ≡ byte_len w → IsBytes bytes → to_be_bytes w (from_be_bytes w bytes) ≡ bytes
  pub again : (n : ℕ) → n < limit → from_be_bytes w (to_be_bytes w n) ≡ n
  pub below : (bytes : List ℕ) → IsBytes bytes → from_be_bytes w bytes < limit

pub wide32 : IsWide w32 (2 ^ 32)
wide32 = record {
  len = λ n. refl;
  back = λ bytes len fits. be_bytes_4 bytes _ len fits refl;
  again = λ n lt. from_be_bytes-to_be_bytes_4 n lt;
  below = λ bytes fits. omega (arith, fits 0, fits 1, fits 2, fits 3);
}

pub wide64 : IsWide w64 (2 ^ 64)
wide64 = record {
  len = λ n. refl;
  back = λ bytes len fits. be_bytes_8 bytes _ len fits refl;
  again = λ n lt. from_be_bytes-to_be_bytes_8 n lt;
  below = λ bytes fits. omega (arith, fits 0, fits 1, fits 2, fits 3, fits 4, fits 5, fits 6, fits 7);
}

-- fronts of one length
pub fronts : (a b s t : List ℕ) → length a ≡ length b → a ++ s ≡ b ++ t → (a ≡ b) × (s ≡ t)
fronts a b s t same e =
    let front : a ≡ b = sym (take_at a s (length b) same) ∙ ap (take (length b)) e ∙ take_at b t (length b) refl in
    (front, append_cancel_left b s t (subst (λ (f : List ℕ). f ++ s ≡ b ++ t) front e))

pub unique_wide : (w : Width) (limit : ℕ) (wide : IsWide w limit) → IsUnique (to_be_bytes w) (λ n. n < limit)
unique_wide w limit wide a b s t small_a small_b e =
    let f = fronts (to_be_bytes w a) (to_be_bytes w b) s t (wide.len a ∙ sym (wide.len b)) e in
    (sym (wide.again a small_a) ∙ ap (from_be_bytes w) f.0 ∙ wide.again b small_b, f.1)

pub unique_number : IsUnique number (λ n. n < 2 ^ 64)
unique_number = unique_wide w64 (2 ^ 64) wide64

-- a number that is read from as many bytes as it takes
pub wide_read : (w : Width) (limit : ℕ) (wide : IsWide w limit) (bytes front rest : List ℕ) → IsBytes bytes → front ≡ take (byte_len w) bytes → rest ≡ drop (byte_len w) bytes → byte_len w ≤ length bytes
    → Begins (to_be_bytes w) (λ n. n < limit) bytes (from_be_bytes w front) rest
wide_read w limit wide bytes front rest fits front-is rest-is long =
    let spelled : to_be_bytes w (from_be_bytes w (take (byte_len w) bytes)) ≡ take (byte_len w) bytes = wide.back (take (byte_len w) bytes) (omega (arith, length-take (byte_len w) bytes)) (IsBytes-take (byte_len w) bytes fits) in
    rw (front-is, rest-is) (record { parts = rw spelled (sym (take-append-drop (byte_len w) bytes)); fits = wide.below (take (byte_len w) bytes) (IsBytes-take (byte_len w) bytes fits) })

-- ---- failures

pub fails_also : (e : ReadError) {S T : Type 0} → (S → T) → Fails e S → Fails e T
fails_also Memory f h = tt
fails_also NotSpelled f h = f h

pub fails_always : (e : ReadError) {T : Type 0} → T → Fails e T
fails_always Memory h = tt
fails_always NotSpelled h = h

-- ---- numbers with a sign

signed_back : (z : ℤ) → FitsSigned w64 z → cast_signed w64 (cast_unsigned w64 z) ≡ z
signed_back z fits = to_z-of_z w64 z fits

pub signed_below : (z : ℤ) → FitsSigned w64 z → cast_unsigned w64 z < 2 ^ 64
signed_below z fits = omega (arith, ints)

pub unique_signed : IsUnique signed (FitsSigned w64)
unique_signed a b s t fits_a fits_b e =
    let n = unique_number (cast_unsigned w64 a) (cast_unsigned w64 b) s t (signed_below a fits_a) (signed_below b fits_b) e in
    (sym (signed_back a fits_a) ∙ ap (cast_signed w64) n.0 ∙ signed_back b fits_b, n.1)
