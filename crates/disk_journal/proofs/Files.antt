-- A file in the grammar, under the writes of an append.
use Rattle.std.proofs.Common.{◌≡◌, ◌≢◌, ℕ, ◌+◌, ◌^◌, ◌≤◌, ◌<◌, ◌⊎◌, inl, inr, ⊎_elim, List, [], ◌∷◌, ◌++◌, length, take, drop, get_or, refl, ap, sym, ◌∙◌, subst, arith, append_assoc, length-append, append-nil}
use Rattle.std.specs.Prelude.{flat_map}
use Rattle.std.specs.Int.{w64, to_be_bytes}
use Rattle.std.proofs.lemmas.List.Elements.{All-append, All-cons, All-nil}
use Rattle.std.proofs.lemmas.Grind.{flat_map-append}
use Rattle.std.proofs.lemmas.Bool.Decides.{eqb_tells}
use Rattle.std.proofs.Math.Seq.{take-append_seam, drop-append-add, drop-cons}
use Rattle.host_api.specs.Host.{Torn, over}
use Rattle.disk_journal.specs.File.{header_of, record_of, IsFile}
use Rattle.disk_journal.specs.Frame.{framed}
use Rattle.disk_journal.proofs.Lists.{torn_front, torn_back}

-- the header and the open records
abbrev pub front_of : ℕ → List (List ℕ) → List ℕ
front_of generation payloads = header_of generation ++ flat_map record_of payloads

pub length-header_of : (generation : ℕ) → length (header_of generation) ≡ 16
unfolding header_of
length-header_of generation = refl

pub length-record_of : (p : List ℕ) → length (record_of p) ≡ length p + 9
unfolding record_of
length-record_of p = simp length-append (omega arith)

pub front_more : (g : ℕ) (ps : List (List ℕ)) (p : List ℕ) → front_of g (ps ++ p ∷ []) ≡ front_of g ps ++ record_of p
front_more g ps p = ap (λ (xs : List ℕ). header_of g ++ xs) (flat_map-append record_of ps (p ∷ []) ∙ ap (λ (xs : List ℕ). flat_map record_of ps ++ xs) (append-nil (record_of p))) ∙ sym (append_assoc (header_of g) (flat_map record_of ps) (record_of p))

-- A record lies behind the closed gate at `end`, and behind it a closed gate.
pub record HasRecord (generation : ℕ) (payloads : List (List ℕ)) (end : ℕ) (payload file : List ℕ) : Type 0 where
  pub before : IsFile generation payloads end file
  pub gate : ℕ
  pub rest : List ℕ
  pub split : file ≡ front_of generation payloads ++ gate ∷ (framed payload ++ rest)

-- other bytes behind a closed gate
pub closed_again : {g : ℕ} {ps : List (List ℕ)} {e : ℕ} {file : List ℕ} (gate : ℕ) (rest c : List ℕ) → IsFile g ps e file → gate ≢ 1 → c ≡ front_of g ps ++ gate ∷ rest → IsFile g ps e c
closed_again gate rest c is shut split = record {
  at_least_one = is.at_least_one;
  fits = is.fits;
  short = is.short;
  gate = gate;
  shut = shut;
  rest = rest;
  split = split;
  ends = is.ends;
}

-- a write behind the closed gate
pub torn_behind : {g : ℕ} {ps : List (List ℕ)} {e : ℕ} {file : List ℕ} (at n : ℕ) (c : List ℕ) → IsFile g ps e file → e < at → Torn at n file c → IsFile g ps e c
torn_behind {g} {ps} {e} {file} at n c is past torn = closed_again is.gate (drop (length (front_of g ps ++ is.gate ∷ [])) c) c is is.shut parts
  where
    front : List ℕ
    front = front_of g ps ++ is.gate ∷ []

    split : file ≡ front ++ is.rest
    split = is.split ∙ sym (append_assoc (front_of g ps) (is.gate ∷ []) is.rest)

    short : length front ≤ at
    short = omega (arith, length-append (front_of g ps) (is.gate ∷ []), is.ends)

    parts : c ≡ header_of g ++ flat_map record_of ps ++ is.gate ∷ drop (length front) c
    parts = torn_front front is.rest c at n short (subst (λ (f : List ℕ). Torn at n f c) split torn) ∙ append_assoc (front_of g ps) (is.gate ∷ []) (drop (length front) c)

pub record_lands : {g : ℕ} {ps : List (List ℕ)} {e : ℕ} {file : List ℕ} (p b : List ℕ) → IsFile g ps e file → b ≡ over file (e + 1) (framed p) → HasRecord g ps e p b
record_lands {g} {ps} {e} {file} p b is written = record {
  before = closed_again is.gate (framed p ++ tail) b is is.shut parts;
  gate = is.gate;
  rest = tail;
  split = parts;
}
  where
    tail : List ℕ
    tail = drop (e + 1 + length (framed p)) file

    front : List ℕ
    front = front_of g ps ++ is.gate ∷ []

    split : file ≡ front ++ is.rest
    split = is.split ∙ sym (append_assoc (front_of g ps) (is.gate ∷ []) is.rest)

    size : e + 1 ≡ length front
    size = omega (arith, length-append (front_of g ps) (is.gate ∷ []), is.ends)

    begin : take (e + 1) file ≡ front
    begin = ap (λ (k : ℕ). take k file) size ∙ ap (λ (f : List ℕ). take (length front) f) split ∙ take-append_seam front is.rest

    parts : b ≡ front_of g ps ++ is.gate ∷ (framed p ++ tail)
    parts = written ∙ ap (λ (xs : List ℕ). xs ++ framed p ++ tail) begin ∙ append_assoc front (framed p) tail ∙ append_assoc (front_of g ps) (is.gate ∷ []) (framed p ++ tail)

-- the record with its gate open
pub is_longer : {g : ℕ} {ps : List (List ℕ)} {e : ℕ} {file : List ℕ} (p c rest : List ℕ) → IsFile g ps e file → length p < 2 ^ 64 → c ≡ front_of g ps ++ 1 ∷ (framed p ++ rest) → IsFile g (ps ++ p ∷ []) (e + (length p + 9)) c
unfolding framed record_of
is_longer {g} {ps} {e} {file} p c rest is small split = record {
  at_least_one = is.at_least_one;
  fits = is.fits;
  short = All-append (λ (q : List ℕ). length q < 2 ^ 64) ps (p ∷ []) is.short (All-cons (λ (q : List ℕ). length q < 2 ^ 64) p [] small (All-nil (λ (q : List ℕ). length q < 2 ^ 64)));
  gate = 0;
  shut = λ e. omega (arith, e);
  rest = rest;
  split = split ∙ joined;
  ends = ap length (front_more g ps p) ∙ size;
}
  where
    size : length (front_of g ps ++ record_of p) ≡ e + (length p + 9)
    size = omega (arith, length-append (front_of g ps) (record_of p), length-record_of p, is.ends)

    whole : framed p ++ rest ≡ (to_be_bytes w64 (length p) ++ p) ++ 0 ∷ rest
    whole = ap (λ (xs : List ℕ). to_be_bytes w64 (length p) ++ xs) (append_assoc p (0 ∷ []) rest)

    joined : front_of g ps ++ 1 ∷ (framed p ++ rest) ≡ front_of g (ps ++ p ∷ []) ++ 0 ∷ rest
    joined =
        ap (λ (xs : List ℕ). front_of g ps ++ 1 ∷ xs) whole
        ∙ sym (append_assoc (front_of g ps) (record_of p) (0 ∷ rest))
        ∙ ap (λ (xs : List ℕ). xs ++ 0 ∷ rest) (sym (front_more g ps p))

pub gate_opens : {g : ℕ} {ps : List (List ℕ)} {e : ℕ} {file : List ℕ} (p c : List ℕ) → HasRecord g ps e p file → length p < 2 ^ 64 → c ≡ over file e (1 ∷ []) → IsFile g (ps ++ p ∷ []) (e + (length p + 9)) c
gate_opens {g} {ps} {e} {file} p c has small written = is_longer p c has.rest has.before small (written ∙ parts)
  where
    begin : take e file ≡ front_of g ps
    begin = rw (← has.before.ends, has.split, take-append_seam) refl

    behind : drop (e + 1) file ≡ framed p ++ has.rest
    behind = rw (← has.before.ends, has.split, drop-append-add) refl

    parts : over file e (1 ∷ []) ≡ front_of g ps ++ 1 ∷ (framed p ++ has.rest)
    parts = ap (λ (xs : List ℕ). xs ++ 1 ∷ [] ++ drop (e + 1) file) begin ∙ ap (λ (xs : List ℕ). front_of g ps ++ 1 ∷ [] ++ xs) behind ∙ append_assoc (front_of g ps) (1 ∷ []) (framed p ++ has.rest)

-- a write of the gate
pub torn_gate : {g : ℕ} {ps : List (List ℕ)} {e : ℕ} {file : List ℕ} (p c : List ℕ) → HasRecord g ps e p file → length p < 2 ^ 64 → Torn e 1 file c → IsFile g ps e c ⊎ IsFile g (ps ++ p ∷ []) (e + (length p + 9)) c
torn_gate {g} {ps} {e} {file} p c has small torn = ⊎_elim (λ opened. inr (is_longer p c has.rest has.before small (parts ∙ ap (λ (x : ℕ). front_of g ps ++ x ∷ (framed p ++ has.rest)) opened.1))) (λ closed. inl (closed_again (get_or c e 0) (framed p ++ has.rest) c has.before closed.1 parts)) (eqb_tells (get_or c e 0) 1)
  where
    split : file ≡ front_of g ps ++ has.gate ∷ [] ++ (framed p ++ has.rest)
    split = has.split ∙ sym (append_assoc (front_of g ps) (has.gate ∷ []) (framed p ++ has.rest))

    long : e < length c
    long = omega (arith, torn.no_shorter, ap length split, length-append (front_of g ps ++ has.gate ∷ []) (framed p ++ has.rest), length-append (front_of g ps) (has.gate ∷ []), has.before.ends)

    one : take 1 (drop e c) ≡ get_or c e 0 ∷ []
    one = rw (drop-cons c e 0 long) refl

    parts : c ≡ front_of g ps ++ get_or c e 0 ∷ (framed p ++ has.rest)
    parts =
        torn_back (front_of g ps) (has.gate ∷ []) (framed p ++ has.rest) c e 1 has.before.ends refl (subst (λ (f : List ℕ). Torn e 1 f c) split torn)
        ∙ ap (λ (xs : List ℕ). front_of g ps ++ xs ++ (framed p ++ has.rest)) one
        ∙ append_assoc (front_of g ps) (get_or c e 0 ∷ []) (framed p ++ has.rest)
