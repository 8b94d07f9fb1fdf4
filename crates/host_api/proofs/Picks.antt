-- The bytes that a crash leaves by choice, one at a time.
use Rattle.std.proofs.Common.{◌≡◌, ℕ, ◌+◌, ◌<◌, ◌≤◌, ◌⊎◌, min, max, Option, unwrap_or, List, [], ◌∷◌, ◌++◌, length, get_or, ⊎_elim, ap, sym, ◌∙◌, subst, arith}
use Rattle.std.proofs.lemmas.List.{get_or_append_left, get_or_push, length_push}
use Rattle.std.proofs.lemmas.Bool.{cases_lt}
use Rattle.host_api.specs.Disk.{Disk, IsLoose, IsPicked}

-- the first n bytes are picked
pub record PickedTo (disk : Disk) (fill : Option ℕ) (n : ℕ) (left : List ℕ) : Type 0 where
  pub size : length left ≡ n
  pub stable : (i : ℕ) → i < n → i < disk.least → (IsLoose i disk.loose → ⊥) → get_or left i 0 ≡ get_or disk.bytes i 0
  pub loose : (i : ℕ) → i < n → IsLoose i disk.loose ⊎ disk.least ≤ i → get_or left i 0 ≡ unwrap_or fill (get_or disk.bytes i 0)

-- what holds of each byte before, and of the new one
each_more : (P : ℕ → ℕ → Type 0) (n : ℕ) (left left2 : List ℕ) (byte : ℕ) → length left ≡ n → left2 ≡ left ++ byte ∷ [] → ((i : ℕ) → i < n → P i (get_or left i 0)) → P n byte → (i : ℕ) → i < n + 1 → P i (get_or left2 i 0)
each_more P n left left2 byte size is before here i lt =
    ⊎_elim
    (λ earlier. subst (λ (b : ℕ). P i b) (sym (ap (λ (l : List ℕ). get_or l i 0) is ∙ get_or_append_left left (byte ∷ []) 0 i (omega arith))) (before i earlier))
    (λ at_end.
    let same : n ≡ i = omega arith in
    subst (λ (b : ℕ). P i b) (sym (ap (λ (l : List ℕ). get_or l i 0) is ∙ get_or_push left byte 0 i (size ∙ same))) (subst (λ (k : ℕ). P k byte) same here))
    (cases_lt i n)

pub picked_more : (disk : Disk) (fill : Option ℕ) (n : ℕ) (left left2 : List ℕ) (byte : ℕ) → PickedTo disk fill n left → left2 ≡ left ++ byte ∷ []
    → (n < disk.least → (IsLoose n disk.loose → ⊥) → byte ≡ get_or disk.bytes n 0) → (IsLoose n disk.loose ⊎ disk.least ≤ n → byte ≡ unwrap_or fill (get_or disk.bytes n 0)) → PickedTo disk fill (n + 1) left2
picked_more disk fill n left left2 byte picked is stable loose = record {
  size = ap length is ∙ length_push left byte ∙ ap (λ (k : ℕ). k + 1) picked.size;
  stable = each_more (λ i b. i < disk.least → (IsLoose i disk.loose → ⊥) → b ≡ get_or disk.bytes i 0) n left left2 byte picked.size is picked.stable stable;
  loose = each_more (λ i b. IsLoose i disk.loose ⊎ disk.least ≤ i → b ≡ unwrap_or fill (get_or disk.bytes i 0)) n left left2 byte picked.size is picked.loose loose;
}

pub picked_all : (disk : Disk) (fill : Option ℕ) (len n : ℕ) (left : List ℕ) → n ≡ max disk.least (min len disk.greatest) → PickedTo disk fill n left → IsPicked disk len fill left
picked_all disk fill len n left is picked = record {
  size = picked.size ∙ is;
  stable = λ i lt free. picked.stable i (omega (arith, is, lt)) lt free;
  loose = λ i lt any. picked.loose i (omega (arith, picked.size, lt)) any;
}
