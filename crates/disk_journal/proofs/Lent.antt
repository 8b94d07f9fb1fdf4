-- Payloads lent as spans of one buffer.
use Rattle.std.proofs.Common.{◌≡◌, ℕ, ◌+◌, ◌-◌, ◌^◌, ◌≤◌, ◌<◌, List, [], ◌∷◌, ◌++◌, length, map, min, take, drop, zero, suc, Some, refl, ap, sym, ◌∙◌, subst, arith, add-one, append_assoc, length-append, length-drop}
use Rattle.std.specs.Prelude.{All, flat_map}
use Rattle.std.specs.List.{slice_get, slice_range}
use Rattle.std.proofs.lemmas.Option.{get_or_from_slice_get}
use Rattle.std.proofs.Math.Seq.{drop-drop, take-length}
use Rattle.std.proofs.lemmas.List.{drop-map, drop_min, map-append, take-append-drop}
use Rattle.std.proofs.lemmas.List.Elements.{All-cons, All-drop, All-head, All-nil, All-push, All-tail, All-weaker}
use Rattle.disk_journal.specs.declared.payloads.Span.{Span}
use Rattle.disk_journal.specs.File.{record_of}
use Rattle.disk_journal.specs.Lent.{lent, IsInside, Follow}
use Rattle.disk_journal.specs.Parts.{number}
use Rattle.disk_journal.proofs.Files.{length-record_of}
use Rattle.disk_journal.proofs.Lists.{mid_part}
use Rattle.disk_journal.proofs.Parts.{record_parts}
use Rattle.disk_journal.proofs.Once.{HasRead, reads_none, reads_one}

-- the spans of the open records that were read, and the rest is left
pub record HasLent (file : List ℕ) (from : ℕ) (spans : List Span) (rest : List ℕ) : Type 0 where
  pub read : HasRead (map (lent file) spans) (drop from file) rest
  pub inside : All (IsInside file) spans
  pub before : All (λ span. length rest ≤ span.left) spans
  pub follow : Follow spans

-- the rest of a list, taken to its end
whole_rest : {X : Type 0} (n : ℕ) (xs : List X) → take (length xs - n) (drop n xs) ≡ drop n xs
whole_rest n xs = ap (λ k. take k (drop n xs)) (sym (length-drop n xs)) ∙ take-length (drop n xs)

pub lends_none : (file : List ℕ) (from : ℕ) → HasLent file from [] (take (length file - from) (drop from file))
unfolding Follow
lends_none file from = subst (λ (l : List ℕ). HasLent file from [] l) (sym (whole_rest from file)) (record {
  read = reads_none (drop from file);
  inside = All-nil (IsInside file);
  before = All-nil (λ (span : Span). length (drop from file) ≤ span.left);
  follow = tt;
})

-- the bytes of a payload and of what follows it
pub lent_within : (p behind rest : List ℕ) → rest ≡ record_of p ++ behind → length p + length behind ≤ length rest
lent_within p behind rest first = omega (arith, ap length first, length-append (record_of p) behind, length-record_of p)

-- where the payload of a record stands before what follows it
abbrev pub span_before : List ℕ → List ℕ → Span
span_before p behind = record { left = length p + length behind; len = length p }

-- the span of a record that ends where the rest begins
record IsSpanOf (file p : List ℕ) (span : Span) : Type 0 where
  pub bytes : lent file span ≡ p
  pub inside : IsInside file span

record_span : {file : List ℕ} (from : ℕ) {ps : List (List ℕ)} {rest : List ℕ} (p behind : List ℕ) → HasRead ps (drop from file) rest → rest ≡ record_of p ++ behind → IsSpanOf file p (span_before p behind)
record_span {file} from {ps} {rest} p behind has first = record {
  bytes = ap (λ (l : List ℕ). slice_range l (length file - (length p + length behind)) (length file - (length p + length behind) + length p)) whole
      ∙ mid_part front p behind _ _ (omega (arith, size)) (omega (arith, size));
  inside = (omega arith, omega (arith, size));
}
  where
    front : List ℕ
    front = take from file ++ flat_map record_of ps ++ 1 ∷ number (length p)

    whole : file ≡ front ++ (p ++ behind)
    whole =
        sym (take-append-drop from file)
        ∙ ap (λ (l : List ℕ). take from file ++ l) (has.split ∙ ap (λ (l : List ℕ). flat_map record_of ps ++ l) (first ∙ record_parts p behind))
        ∙ sym (append_assoc (take from file) (flat_map record_of ps) (1 ∷ number (length p) ++ (p ++ behind)))
        ∙ sym (append_assoc (take from file ++ flat_map record_of ps) (1 ∷ number (length p)) (p ++ behind))

    size : length file ≡ length front + length p + length behind
    size = omega (arith, ap length whole, length-append front (p ++ behind), length-append p behind)

-- a span put behind others that begin no later
follow_push : (spans : List Span) (last : Span) → Follow spans → All (λ span. last.left ≤ span.left) spans → Follow (spans ++ last ∷ [])
unfolding Follow
follow_push [] last follow later = (All-nil (λ (next : Span). next.left ≤ last.left), tt)
follow_push (span ∷ spans) last follow later = (
  All-push (λ next. next.left ≤ span.left) spans last follow.0 (All-head (λ (one : Span). last.left ≤ one.left) span spans later),
  follow_push spans last follow.1 (All-tail (λ (one : Span). last.left ≤ one.left) span spans later),
)

pub lends_one : {file : List ℕ} {from : ℕ} {spans : List Span} {rest : List ℕ} (p behind : List ℕ) → HasLent file from spans rest → length p < 2 ^ 64 → rest ≡ record_of p ++ behind → HasLent file from (spans ++ span_before p behind ∷ []) behind
lends_one {file} {from} {spans} {rest} p behind has short first =
    let is : IsSpanOf file p (span_before p behind) = record_span from p behind has.read first in
    let within : length p + length behind ≤ length rest = lent_within p behind rest first in
    record {
      read = subst (λ (l : List (List ℕ)). HasRead l (drop from file) behind) (ap (λ (q : List ℕ). map (lent file) spans ++ q ∷ []) (sym is.bytes) ∙ sym (map-append (lent file) spans (span_before p behind ∷ []))) (reads_one p behind has.read short first);
      inside = All-push (IsInside file) spans (span_before p behind) has.inside is.inside;
      before = All-push (λ span. length behind ≤ span.left) spans (span_before p behind)
          (All-weaker (λ (span : Span). length rest ≤ span.left) (λ span. length behind ≤ span.left) (λ span before. omega (arith, before, within)) spans has.before)
          (omega arith);
      follow = follow_push spans (span_before p behind) has.follow
          (All-weaker (λ (span : Span). length rest ≤ span.left) (λ span. length p + length behind ≤ span.left) (λ span before. omega (arith, before, within)) spans has.before);
    }

-- ---- a file of which bytes in front are gone

-- no payload begins before the first one
pub first_is_most : (spans : List Span) (first : Span) → slice_get spans 0 ≡ Some first → Follow spans → All (λ span. span.left ≤ first.left) spans
unfolding Follow
first_is_most [] first is follow = All-nil (λ (span : Span). span.left ≤ first.left)
first_is_most (span ∷ spans) first is follow =
    subst (λ (most : Span). All (λ next. next.left ≤ most.left) (span ∷ spans)) (get_or_from_slice_get (span ∷ spans) 0 first span is)
    (All-cons (λ next. next.left ≤ span.left) span spans (omega arith) follow.0)

pub follow_drop : (n : ℕ) (spans : List Span) → Follow spans → Follow (drop n spans)
unfolding Follow
follow_drop zero spans follow = follow
follow_drop (suc n) [] follow = follow
follow_drop (suc n) (span ∷ spans) follow = follow_drop n spans follow.1

-- the bytes of a span stay where those in front of it go
stays_lent : (file : List ℕ) (size : ℕ) (span : Span) → size ≤ length file → IsInside file span → span.left ≤ size → lent (drop (length file - size) file) span ≡ lent file span
stays_lent file size span within inside fits =
    ap (λ n. take n (drop (length (drop (length file - size) file) - span.left) (drop (length file - size) file))) (omega arith)
    ∙ ap (take span.len) (drop-drop (length (drop (length file - size) file) - span.left) (length file - size) file)
    ∙ ap (λ n. take span.len (drop n file)) (omega (arith, within, fits, length-drop (length file - size) file))
    ∙ ap (λ n. take n (drop (length file - span.left) file)) (omega arith)

pub all_stay : (file : List ℕ) (size : ℕ) (spans : List Span) → size ≤ length file → All (IsInside file) spans → All (λ span. span.left ≤ size) spans
    → map (lent (drop (length file - size) file)) spans ≡ map (lent file) spans
all_stay file size [] within inside fits = refl
all_stay file size (span ∷ spans) within inside fits =
    ap (λ (l : List ℕ). l ∷ map (lent (drop (length file - size) file)) spans) (stays_lent file size span within (All-head (IsInside file) span spans inside) (All-head (λ (one : Span). one.left ≤ size) span spans fits))
    ∙ ap (λ (l : List (List ℕ)). lent file span ∷ l) (all_stay file size spans within (All-tail (IsInside file) span spans inside) (All-tail (λ (one : Span). one.left ≤ size) span spans fits))

pub inside_stay : (file : List ℕ) (size : ℕ) (spans : List Span) → size ≤ length file → All (IsInside file) spans → All (λ span. span.left ≤ size) spans → All (IsInside (drop (length file - size) file)) spans
inside_stay file size [] within inside fits = All-nil (IsInside (drop (length file - size) file))
inside_stay file size (span ∷ spans) within inside fits =
    All-cons (IsInside (drop (length file - size) file)) span spans
    ((All-head (IsInside file) span spans inside).0, omega (arith, within, All-head (λ (one : Span). one.left ≤ size) span spans fits, length-drop (length file - size) file))
    (inside_stay file size spans within (All-tail (IsInside file) span spans inside) (All-tail (λ (one : Span). one.left ≤ size) span spans fits))

-- payloads that stand in a file by these spans
pub record HasCut (payloads : List (List ℕ)) (file : List ℕ) (spans : List Span) : Type 0 where
  pub bytes : map (lent file) spans ≡ payloads
  pub inside : All (IsInside file) spans
  pub follow : Follow spans

-- the spans of a list from one on
abbrev pub from_on : ℕ → List Span → List Span
from_on n spans = take (length spans - n) (drop n spans)

pub cuts : (file : List ℕ) (spans : List Span) (behind : ℕ) {seen again : List Span} {size : ℕ} {shorter : List ℕ} {kept : List Span} → size ≤ length file
    → All (IsInside file) spans → Follow spans → seen ≡ spans → again ≡ spans → (Follow (from_on behind seen) → All (λ span. span.left ≤ size) (from_on behind seen))
    → kept ≡ from_on behind again → shorter ≡ drop (length file - size) file → HasCut (map (lent file) (drop behind spans)) shorter kept
cuts file spans behind {seen} {again} {size} {shorter} {kept} within inside follow one same most kept_is shorter_is =
    let rest = whole_rest behind spans in
    let fits = subst (λ (l : List Span). All (λ span. span.left ≤ size) l) (ap (from_on behind) one ∙ rest) (most (subst Follow (sym (ap (from_on behind) one ∙ rest)) (follow_drop behind spans follow))) in
    let within_rest = All-drop (IsInside file) behind spans inside in
    rw shorter_is (rw (kept_is ∙ ap (from_on behind) same ∙ rest) (record {
      bytes = all_stay file size (drop behind spans) within within_rest fits;
      inside = inside_stay file size (drop behind spans) within within_rest fits;
      follow = follow_drop behind spans follow;
    }))

-- ---- payloads that are left behind

next_behind : (behind : ℕ) (spans : List Span) → drop (suc behind) spans ≡ drop 1 (drop behind spans)
next_behind zero spans = refl
next_behind (suc behind) [] = refl
next_behind (suc behind) (span ∷ spans) = next_behind behind spans

pub behind_lent_first : (file : List ℕ) (behind : ℕ) (spans : List Span) (next : ℕ) → next ≡ min (behind + 1) (length spans) → map (lent file) (drop next spans) ≡ drop 1 (map (lent file) (drop behind spans))
behind_lent_first file behind spans next is =
    ap (λ n. map (lent file) (drop n spans)) is
    ∙ ap (map (lent file)) (drop_min (behind + 1) spans)
    ∙ ap (λ n. map (lent file) (drop n spans)) (add-one behind)
    ∙ ap (map (lent file)) (next_behind behind spans)
    ∙ sym (drop-map (lent file) 1 (drop behind spans))
