-- Lists in parts, and what a torn write leaves of them.
use Rattle.std.proofs.Common.{◌≡◌, ℕ, ◌+◌, ◌-◌, ◌^◌, ◌≤◌, ◌<◌, List, [], ◌∷◌, ◌++◌, length, take, drop, get_or, ⊎_elim, refl, ap, sym, ◌∙◌, arith, append_assoc, length-append, length-drop}
use Rattle.std.proofs.lemmas.List.{get_or-append_right, ext_get_or, get_or-take, get_or-drop, take-append-drop, length-take-le}
use Rattle.std.proofs.Math.ListN.{get_or-append}
use Rattle.std.proofs.Math.Seq.{take-append_seam, drop-append_seam}
use Rattle.std.proofs.lemmas.Bool.{cases_lt}
use Rattle.std.specs.Int.{w64, to_be_bytes}
use Rattle.host_api.specs.Host.{Torn}
use Rattle.disk_journal.specs.Frame.{framed, payload_in, IsFrame}

-- the part between a front and a back
pub mid_part : (front mid back : List ℕ) (n k : ℕ) → length front ≡ k → n ≡ length mid → take n (drop k (front ++ (mid ++ back))) ≡ mid
mid_part front mid back n k at size = rw (← at, size, drop-append_seam, take-append_seam) refl

pub length-framed : (p : List ℕ) → length (framed p) ≡ length p + 9
unfolding framed
length-framed p = simp length-append (omega arith)

pub payload_in-framed : (p : List ℕ) → payload_in (framed p) ≡ p
unfolding framed
payload_in-framed p = mid_part (to_be_bytes w64 (length p)) p (0 ∷ []) (length (framed p) - 9) 8 refl (omega (arith, length-framed p))

pub is_frame : (bytes p : List ℕ) → length p < 2 ^ 64 → bytes ≡ framed p → IsFrame bytes
is_frame bytes p small is = rw is (record { short = rw payload_in-framed small; split = rw payload_in-framed refl })

-- what lies before a write stays
pub torn_front : (front rest c : List ℕ) (at n : ℕ) → length front ≤ at → Torn at n (front ++ rest) c → c ≡ front ++ drop (length front) c
torn_front front rest c at n before torn = sym (take-append-drop (length front) c) ∙ ap (λ (xs : List ℕ). xs ++ drop (length front) c) same
  where
    within : length front ≤ length c
    within = omega (arith, torn.no_shorter, length-append front rest)

    each : (i : ℕ) → i < length (take (length front) c) → get_or (take (length front) c) i 0 ≡ get_or front i 0
    each i lt =
        let i_in : i < length front = omega (arith, lt, length-take-le (length front) c within) in
        get_or-take (length front) c i 0 i_in
        ∙ torn.below i (omega (arith, length-append front rest)) (omega arith)
        ∙ get_or-append front rest 0 i i_in

    same : take (length front) c ≡ front
    same = ext_get_or 0 _ _ (length-take-le (length front) c within) each

-- what lies past a write within the file stays, and so does what lies before
pub torn_back : (front here rest c : List ℕ) (at n : ℕ) → length front ≡ at → length here ≡ n → Torn at n (front ++ here ++ rest) c → c ≡ front ++ take n (drop at c) ++ rest
torn_back front here rest c at n at_is n_is torn = ext_get_or 0 _ _ same_length each
  where
    whole : length (front ++ here ++ rest) ≡ at + n + length rest
    whole = simp length-append (omega arith)

    c_length : length c ≡ at + n + length rest
    c_length = omega (arith, torn.no_shorter, torn.no_longer, whole)

    mid_length : length (take n (drop at c)) ≡ n
    mid_length = length-take-le n (drop at c) (omega (arith, length-drop at c, c_length))

    same_length : length c ≡ length (front ++ take n (drop at c) ++ rest)
    same_length = omega (arith, length-append (front ++ take n (drop at c)) rest, length-append front (take n (drop at c)), mid_length, c_length)

    each : (i : ℕ) → i < length c → get_or c i 0 ≡ get_or (front ++ take n (drop at c) ++ rest) i 0
    each i lt = ⊎_elim (λ h. early h) (λ h. ⊎_elim (λ k. mid h k) (λ k. late k) (cases_lt i (at + n))) (cases_lt i at)
      where
        early : i < at → get_or c i 0 ≡ get_or (front ++ take n (drop at c) ++ rest) i 0
        early h =
            let in_front : i < length front = omega arith in
            torn.below i (omega (arith, whole)) h ∙ rw append_assoc (rw append_assoc (get_or-append front _ 0 i in_front ∙ sym (get_or-append front _ 0 i in_front)))

        mid : at ≤ i → i < at + n → get_or c i 0 ≡ get_or (front ++ take n (drop at c) ++ rest) i 0
        mid h k =
            let back : at + (i - at) ≡ i = omega arith in
            ap (λ (j : ℕ). get_or c j 0) (sym back)
            ∙ sym (get_or-drop at c (i - at) 0)
            ∙ sym (get_or-take n (drop at c) (i - at) 0 (omega arith))
            ∙ sym (get_or-append_right front (take n (drop at c)) at i 0 at_is h)
            ∙ sym (get_or-append (front ++ take n (drop at c)) rest 0 i (omega (arith, length-append front (take n (drop at c)), mid_length)))

        late : at + n ≤ i → get_or c i 0 ≡ get_or (front ++ take n (drop at c) ++ rest) i 0
        late h =
            torn.above i (omega (arith, lt, c_length, whole)) h
            ∙ get_or-append_right (front ++ here) rest (at + n) i 0 (omega (arith, length-append front here)) h
            ∙ sym (get_or-append_right (front ++ take n (drop at c)) rest (at + n) i 0 (omega (arith, length-append front (take n (drop at c)), mid_length)) h)
