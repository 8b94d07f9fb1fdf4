-- What a crash may leave of a file after a call, it might have left before, but for what the call changed.
use Rattle.std.proofs.Common.{◌≡◌, ℕ, ◌+◌, ◌-◌, ◌<◌, ◌≤◌, min, max, Bool, true, false, ◌&&◌, nat_le, nat_lt, List, [], ◌∷◌, ◌++◌, length, take, drop, map, get_or, Option, inl, inr, ⊎_elim, refl, ap, sym, ◌∙◌, subst, arith, if◌then◌else◌, ◌⊎◌}
use Rattle.std.specs.List.{range_with_len}
use Rattle.std.proofs.lemmas.List.{ext_get_or, length-take, length-drop, length-append, length-take-le, get_or-take, get_or-drop, get_or_append_left, get_or-append_right, get_or_push, length_push}
use Rattle.std.proofs.lemmas.List.FromFn.{length-map-range_with_len, get_or-map-range_with_len}
use Rattle.std.proofs.lemmas.Bool.{cases_lt}
use Rattle.std.proofs.lemmas.Grind.{common_steps}
use Rattle.host_api.specs.Host.{Torn, Cut, over}
use Rattle.host_api.specs.PastLaws.{IsWhole}
use Rattle.host_api.specs.Disk.{Disk, IsImage, IsLoose, IsPicked, fresh, written, shortened}

pub length-over : (old : List ℕ) (at : ℕ) (piece : List ℕ) → at ≤ length old → length (over old at piece) ≡ max (length old) (at + length piece)
length-over old at piece le =
    simp (length-append, length-drop) (omega (arith, length-take-le at old le))

pub over-below : (old : List ℕ) (at : ℕ) (piece : List ℕ) → at ≤ length old → (i : ℕ) → i < at → get_or (over old at piece) i 0 ≡ get_or old i 0
over-below old at piece le i lt =
    let len = length-take-le at old le in
    get_or_append_left (take at old ++ piece) (drop (at + length piece) old) 0 i (omega (arith, length-append (take at old) piece))
    ∙ get_or_append_left (take at old) piece 0 i (omega arith)
    ∙ get_or-take at old i 0 lt

pub over-above : (old : List ℕ) (at : ℕ) (piece : List ℕ) → at ≤ length old → (i : ℕ) → at + length piece ≤ i → get_or (over old at piece) i 0 ≡ get_or old i 0
over-above old at piece le i ge =
    let len : length (take at old ++ piece) ≡ at + length piece = omega (arith, length-take-le at old le, length-append (take at old) piece) in
    get_or-append_right (take at old ++ piece) (drop (at + length piece) old) (at + length piece) i 0 len ge
    ∙ get_or-drop (at + length piece) old (i - (at + length piece)) 0
    ∙ ap (λ (j : ℕ). get_or old j 0) (omega arith)

pub torn_over : (old : List ℕ) (at : ℕ) (piece : List ℕ) → at ≤ length old → Torn at (length piece) old (over old at piece)
torn_over old at piece le = record {
  no_shorter = omega (arith, length-over old at piece le);
  no_longer = omega (arith, length-over old at piece le);
  below = λ i lt here. over-below old at piece le i here;
  above = λ i lt there. over-above old at piece le i there;
}

pub torn_same : (old : List ℕ) (at n : ℕ) → Torn at n old old
torn_same old at n = record { no_shorter = omega arith; no_longer = omega arith; below = λ i lt here. refl; above = λ i lt there. refl }

pub cut_take : (old : List ℕ) (len : ℕ) → Cut len old (take len old)
cut_take old len = record {
  no_shorter = omega (arith, length-take len old);
  no_longer = omega (arith, length-take len old);
  below = λ i lt here. get_or-take len old i 0 here;
}

pub cut_same : (old : List ℕ) (len : ℕ) → Cut len old old
cut_same old len = record { no_shorter = omega arith; no_longer = omega arith; below = λ i lt here. refl }

-- after a sync there is but one
pub image_fresh : (bytes left : List ℕ) → IsImage (fresh bytes) left → left ≡ bytes
image_fresh bytes left image = ext_get_or 0 left bytes (omega (arith, image.no_shorter, image.no_longer)) (λ i lt. image.stable i (omega (arith, image.no_longer)) (λ h. omega (arith, h.2)))

-- the list of this length whose elements are these
listed : (ℕ → ℕ) → ℕ → List ℕ
listed f len = map f (range_with_len 0 len)

length_listed : (f : ℕ → ℕ) (len : ℕ) → length (listed f len) ≡ len
unfolding listed
length_listed f len = length-map-range_with_len f 0 len

get_listed : (f : ℕ → ℕ) (len i : ℕ) → i < len → get_or (listed f len) i 0 ≡ f i
unfolding listed
get_listed f len i lt = get_or-map-range_with_len f 0 len i i 0 lt (omega arith)

-- in the range the bytes as read, elsewhere those that are left
before_write : ℕ → ℕ → List ℕ → List ℕ → ℕ → ℕ
before_write at n bytes left i = if nat_le at i && nat_lt i (at + n) then get_or bytes i 0 else get_or left i 0

before_write-within : (at n : ℕ) (bytes left : List ℕ) (i : ℕ) → at ≤ i → i < at + n → before_write at n bytes left i ≡ get_or bytes i 0
unfolding before_write
before_write-within at n bytes left i ge lt = grind (arith, common_steps)

before_write-below : (at n : ℕ) (bytes left : List ℕ) (i : ℕ) → i < at → before_write at n bytes left i ≡ get_or left i 0
unfolding before_write
before_write-below at n bytes left i lt = grind (arith, common_steps)

before_write-above : (at n : ℕ) (bytes left : List ℕ) (i : ℕ) → at + n ≤ i → before_write at n bytes left i ≡ get_or left i 0
unfolding before_write
before_write-above at n bytes left i ge = grind (arith, common_steps)

pub written-below : (at : ℕ) (piece : List ℕ) (done : Bool) (disk : Disk) → at ≤ length disk.bytes → (i : ℕ) → i < at → get_or (written at piece done disk).bytes i 0 ≡ get_or disk.bytes i 0
written-below at piece true disk le i lt = over-below disk.bytes at piece le i lt
written-below at piece false disk le i lt = refl

pub written-above : (at : ℕ) (piece : List ℕ) (done : Bool) (disk : Disk) → at ≤ length disk.bytes → (i : ℕ) → at + length piece ≤ i → get_or (written at piece done disk).bytes i 0 ≡ get_or disk.bytes i 0
written-above at piece true disk le i ge = over-above disk.bytes at piece le i ge
written-above at piece false disk le i ge = refl

not_in_range : (at n i : ℕ) (loose : List (ℕ × ℕ)) → (i < at) ⊎ (at + n ≤ i) → (IsLoose i loose → ⊥) → IsLoose i (loose ++ (at, n) ∷ []) → ⊥
not_in_range at n i loose out free found = ⊎_elim
    (λ before. free (found.0, found.1, before, sym (get_or_append_left loose ((at, n) ∷ []) found.1 found.0 before) ∙ found.3, found.4))
    (λ behind.
    let same : (at, n) ≡ found.1 = sym (get_or_push loose (at, n) found.1 found.0 (omega (arith, found.2, behind, length_push loose (at, n)))) ∙ found.3 in
    let within : (at ≤ i) × (i < at + n) = subst (λ (r : ℕ × ℕ). (r.0 ≤ i) × (i < r.0 + r.1)) (sym same) found.4 in
    ⊎_elim (λ below. omega (arith, below, within.0)) (λ above. omega (arith, above, within.1)) out)
    (cases_lt found.0 (length loose))

-- What a crash leaves after a write, it might have left before, torn.
pub write_back : (at : ℕ) (piece : List ℕ) (done : Bool) (disk : Disk) → IsWhole disk → at ≤ length disk.bytes → (left : List ℕ) → IsImage (written at piece done disk) left
    → (b : List ℕ) × IsImage disk b × Torn at (length piece) b left
write_back at piece done disk whole le left image =
    let f = before_write at (length piece) disk.bytes left in
    let len = min (length left) disk.greatest in
    let size : length (listed f len) ≡ len = length_listed f len in
    let below = λ (i : ℕ) (lt : i < len) (h : i < at). get_listed f len i lt ∙ before_write-below at (length piece) disk.bytes left i h in
    let above = λ (i : ℕ) (lt : i < len) (h : at + length piece ≤ i). get_listed f len i lt ∙ before_write-above at (length piece) disk.bytes left i h in
    let within = λ (i : ℕ) (lt : i < len) (h : at ≤ i) (k : i < at + length piece). get_listed f len i lt ∙ before_write-within at (length piece) disk.bytes left i h k in (
      listed f len,
      record {
        no_shorter = omega (arith, image.no_shorter, whole.least, whole.greatest);
        no_longer = omega arith;
        stable = λ i lt free.
            let here : i < len = omega (arith, image.no_shorter, whole.least, whole.greatest) in
            ⊎_elim
            (λ before. below i here before ∙ image.stable i lt (not_in_range at (length piece) i disk.loose (inl before) free) ∙ written-below at piece done disk le i before)
            (λ from. ⊎_elim
            (λ inside. within i here from inside)
            (λ behind. above i here behind ∙ image.stable i lt (not_in_range at (length piece) i disk.loose (inr behind) free) ∙ written-above at piece done disk le i behind)
            (cases_lt i (at + length piece)))
            (cases_lt i at);
      },
      record {
        no_shorter = omega arith;
        no_longer = omega (arith, image.no_longer);
        below = λ i lt h. sym (below i (omega arith) h);
        above = λ i lt h. sym (above i (omega arith) h);
      },
    )

-- below the cut's length those that are left, from there on the bytes as read
before_cut : ℕ → List ℕ → List ℕ → ℕ → ℕ
before_cut len bytes left i = if nat_lt i len then get_or left i 0 else get_or bytes i 0

before_cut-below : (len : ℕ) (bytes left : List ℕ) (i : ℕ) → i < len → before_cut len bytes left i ≡ get_or left i 0
unfolding before_cut
before_cut-below len bytes left i lt = grind (arith, common_steps)

before_cut-above : (len : ℕ) (bytes left : List ℕ) (i : ℕ) → len ≤ i → before_cut len bytes left i ≡ get_or bytes i 0
unfolding before_cut
before_cut-above len bytes left i ge = grind (arith, common_steps)

pub shortened-below : (len : ℕ) (done : Bool) (disk : Disk) → (i : ℕ) → i < len → get_or (shortened len done disk).bytes i 0 ≡ get_or disk.bytes i 0
shortened-below len true disk i lt = get_or-take len disk.bytes i 0 lt
shortened-below len false disk i lt = refl

-- What a crash leaves after a cut, it might have left before, cut short.
pub cut_back : (len : ℕ) (done : Bool) (disk : Disk) → IsWhole disk → (left : List ℕ) → IsImage (shortened len done disk) left
    → (b : List ℕ) × IsImage disk b × Cut len b left
cut_back len done disk whole left image =
    let f = before_cut len disk.bytes left in
    let most = max (length left) disk.least in
    let size : length (listed f most) ≡ most = length_listed f most in
    let below = λ (i : ℕ) (lt : i < most) (h : i < len). get_listed f most i lt ∙ before_cut-below len disk.bytes left i h in
    let above = λ (i : ℕ) (lt : i < most) (h : len ≤ i). get_listed f most i lt ∙ before_cut-above len disk.bytes left i h in (
      listed f most,
      record {
        no_shorter = omega arith;
        no_longer = omega (arith, image.no_longer, whole.least, whole.greatest);
        stable = λ i lt free.
            ⊎_elim
            (λ before. below i (omega arith) before ∙ image.stable i (omega arith) free ∙ shortened-below len done disk i before)
            (λ from. above i (omega arith) from)
            (cases_lt i len);
      },
      record {
        no_shorter = omega (arith, image.no_shorter);
        no_longer = omega arith;
        below = λ i lt h. sym (below i (omega arith) h);
      },
    )

-- the bytes that a crash leaves by choice are some that it may leave
pub image_picked : (disk : Disk) (len : ℕ) (fill : Option ℕ) (left : List ℕ) → IsWhole disk → IsPicked disk len fill left → IsImage disk left
image_picked disk len fill left whole picked = record {
  no_shorter = omega (arith, picked.size);
  no_longer = omega (arith, picked.size, whole.least, whole.greatest);
  stable = picked.stable;
}
