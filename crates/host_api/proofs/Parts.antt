-- What stands before and behind a newline of a stream.
use Rattle.std.proofs.Common.{◌≡◌, ℕ, suc, ◌+◌, ◌<◌, ◌≤◌, ◌==◌, min, Bool, true, false, List, [], ◌∷◌, ◌++◌, length, take, drop, get_or, refl, ap, sym, ◌∙◌, subst, arith, if◌then◌else◌, append_assoc}
use Rattle.std.proofs.lemmas.List.{append-nil, drop_more, take-append-drop, get_or-take, take_all, take-take, length_push, length-take-le, drop_all}
use Rattle.std.proofs.lemmas.Grind.{common_steps}
use Rattle.host_api.specs.Items.{Item, Overlong, Bytes, split, split_on, item_in, limit}
use Rattle.host_api.specs.Reading.{Reading, IsLine, IsWholeSkip, EndsSkip, left_of, past_newline, skip_limit}
use Rattle.host_api.specs.Front.{BeginsLine, BeginsLong}

line_head : (byte : ℕ) (front : List ℕ) → IsLine (byte ∷ front) → (byte == 10) ≡ false
line_head byte front line = line 0 0 (omega arith)

line_tail : (byte : ℕ) (front : List ℕ) → IsLine (byte ∷ front) → IsLine front
line_tail byte front line = λ k d lt. line (suc k) d (omega arith)

-- a line's bytes only grow what it begins with
pub split_on_line : (front acc rest : List ℕ) → IsLine front → split_on acc (front ++ rest) ≡ split_on (acc ++ front) rest
split_on_line [] acc rest line = ap (λ (a : List ℕ). split_on a rest) (sym (append-nil acc))
split_on_line (byte ∷ front) acc rest line =
    rw (line_head byte front line) (split_on_line front (acc ++ byte ∷ []) rest (line_tail byte front line) ∙ ap (λ (a : List ℕ). split_on a rest) (append_assoc acc (byte ∷ []) front))

item_long : (acc : List ℕ) → limit < length acc → item_in acc ≡ Overlong
item_long acc long = grind (arith, common_steps)

not_empty : (acc : List ℕ) → 0 < length acc → (length acc == 0) ≡ false
not_empty acc some = grind (arith, common_steps)

-- what begins with too many bytes is a line that is too long, up to the next newline
pub split_on_long : (rest acc : List ℕ) → limit < length acc → split_on acc rest ≡ Overlong ∷ split (past_newline rest)
unfolding split
split_on_long [] acc long = rw (not_empty acc (omega arith), item_long acc long) refl
split_on_long (byte ∷ rest) acc long =
    elim (byte == 10) as (λ (t : Bool). (if t then item_in acc ∷ split_on [] rest else split_on (acc ++ byte ∷ []) rest) ≡ Overlong ∷ split (if t then rest else past_newline rest)) [
      | true ↦ ap (λ (i : Item). i ∷ split_on [] rest) (item_long acc long)
      | false ↦ split_on_long rest (acc ++ byte ∷ []) (omega (arith, length_push acc byte))
    ]

pub past_line : (front rest : List ℕ) → IsLine front → past_newline (front ++ rest) ≡ past_newline rest
past_line [] rest line = refl
past_line (byte ∷ front) rest line = rw (line_head byte front line) (past_line front rest (line_tail byte front line))

-- a newline among the first m bytes
pub record Breaks (rest : List ℕ) (m i : ℕ) : Type 0 where
  pub within : i < length (take m rest)
  pub line : IsLine (take i (take m rest))
  pub newline : get_or (take m rest) i 0 ≡ 10

record Broken (rest : List ℕ) (i : ℕ) : Type 0 where
  line : IsLine (take i rest)
  parts : rest ≡ take i rest ++ 10 ∷ drop (i + 1) rest

broken : (rest : List ℕ) (m i : ℕ) → m ≤ length rest → Breaks rest m i → Broken rest i
broken rest m i most breaks =
    let lt : i < m = omega (arith, breaks.within, length-take-le m rest most) in
    let here : get_or rest i 0 ≡ 10 = sym (get_or-take m rest i 0 lt) ∙ breaks.newline in
    record {
      line = subst IsLine (take-take i m rest (omega arith)) breaks.line;
      parts = sym (take-append-drop i rest) ∙ ap (λ (r : List ℕ). take i rest ++ r) (drop_more rest i 0 (omega arith) ∙ ap (λ (b : ℕ). b ∷ drop (i + 1) rest) here);
    }

pub split_breaks : (rest : List ℕ) (m i : ℕ) → m ≤ length rest → Breaks rest m i → split rest ≡ item_in (take i rest) ∷ split (drop (i + 1) rest)
unfolding split
split_breaks rest m i most breaks =
    let b = broken rest m i most breaks in
    ap (λ (r : List ℕ). split_on [] r) b.parts ∙ split_on_line (take i rest) [] (10 ∷ drop (i + 1) rest) b.line

pub past_breaks : (rest : List ℕ) (m i : ℕ) → m ≤ length rest → Breaks rest m i → past_newline rest ≡ drop (i + 1) rest
past_breaks rest m i most breaks =
    let b = broken rest m i most breaks in
    ap past_newline b.parts ∙ past_line (take i rest) (10 ∷ drop (i + 1) rest) b.line

-- no newline among the first m bytes
pub past_window : (rest : List ℕ) (m : ℕ) → IsLine (take m rest) → past_newline rest ≡ past_newline (drop m rest)
past_window rest m line = ap past_newline (sym (take-append-drop m rest)) ∙ past_line (take m rest) (drop m rest) line

-- the last line has no newline
pub split_last : (rest : List ℕ) → IsLine rest → 0 < length rest → split rest ≡ item_in rest ∷ split []
unfolding split
split_last rest line some =
    ap (λ (r : List ℕ). split_on [] r) (sym (append-nil rest)) ∙ split_on_line rest [] [] line ∙ rw (not_empty rest some) refl

-- too many bytes without a newline
pub split_long : (rest : List ℕ) → IsLine (take (limit + 1) rest) → limit + 1 ≤ length rest → split rest ≡ Overlong ∷ split (past_newline (drop (limit + 1) rest))
unfolding split
split_long rest line long =
    ap (λ (r : List ℕ). split_on [] r) (sym (take-append-drop (limit + 1) rest))
    ∙ split_on_line (take (limit + 1) rest) [] (drop (limit + 1) rest) line
    ∙ split_on_long (drop (limit + 1) rest) (take (limit + 1) rest) (omega (arith, length-take-le (limit + 1) rest long))

pub split_nothing : (rest : List ℕ) → rest ≡ [] → split rest ≡ []
unfolding split
split_nothing rest none = rw none refl

item_short : (text : List ℕ) → length text ≤ limit → item_in text ≡ Bytes text
item_short text short = grind (arith, common_steps)

-- how much of the rest a window of at most `most` bytes shows
window_length : (rest : List ℕ) (m most : ℕ) → m ≡ min (length rest) most → length (take m rest) ≡ m
window_length rest m most is = length-take-le m rest (omega (arith, is))

pub front_newline : (rest : List ℕ) (m i : ℕ) → m ≡ min (length rest) (limit + 1) → Breaks rest m i → BeginsLine i (i + 1) rest
front_newline rest m i is breaks =
    let len : length (take m rest) ≡ m = window_length rest m (limit + 1) is in
    let short : length (take i rest) ≤ limit = omega (arith, breaks.within, length-take-le i rest (omega (arith, is, breaks.within))) in
    record {
      within = omega (arith, breaks.within);
      ends = omega (arith, breaks.within);
      takes = split_breaks rest m i (omega (arith, is)) breaks ∙ ap (λ (t : Item). t ∷ split (drop (i + 1) rest)) (item_short (take i rest) short);
    }

pub front_last : (rest : List ℕ) (m : ℕ) → m ≡ min (length rest) (limit + 1) → IsLine (take m rest) → length (take m rest) ≤ limit → 0 < length rest → BeginsLine (length (take m rest)) (length (take m rest)) rest
front_last rest m is line short some =
    let len : length (take m rest) ≡ m = window_length rest m (limit + 1) is in
    let all : length rest ≡ length (take m rest) = omega arith in
    let whole : take m rest ≡ rest = take_all m rest (omega arith) in
    record {
      within = omega arith;
      ends = omega arith;
      takes = split_last rest (subst IsLine whole line) some
          ∙ ap (λ (t : Item). t ∷ split []) (item_short rest (omega arith) ∙ ap Bytes (sym (take_all (length (take m rest)) rest (omega arith))))
          ∙ ap (λ (r : List ℕ). Bytes (take (length (take m rest)) rest) ∷ split r) (sym (drop_all (length (take m rest)) rest (omega arith)));
    }

pub front_long : (rest : List ℕ) (m : ℕ) → m ≡ min (length rest) (limit + 1) → IsLine (take m rest) → limit < length (take m rest) → BeginsLong rest
front_long rest m is line long =
    let len : length (take m rest) ≡ m = window_length rest m (limit + 1) is in
    let m_is : m ≡ limit + 1 = omega arith in
    record {
      within = omega arith;
      takes = split_long rest (subst (λ (n : ℕ). IsLine (take n rest)) m_is line) (omega arith);
    }

pub skip_newline : (rest : List ℕ) (m i : ℕ) → m ≡ min (length rest) skip_limit → Breaks rest m i → EndsSkip (i + 1) rest
skip_newline rest m i is breaks =
    let len : length (take m rest) ≡ m = window_length rest m skip_limit is in
    record {
      within = omega (arith, breaks.within);
      past = past_breaks rest m i (omega (arith, is)) breaks;
      short = λ whole.
          let there : get_or (take skip_limit rest) i 0 ≡ 10 = get_or-take skip_limit rest i 0 (omega (arith, breaks.within)) ∙ sym (get_or-take m rest i 0 (omega (arith, breaks.within))) ∙ breaks.newline in
          let no_newline : (get_or (take skip_limit rest) i 0 == 10) ≡ false = whole.within i 0 (omega (arith, breaks.within, whole.long, length-take-le skip_limit rest whole.long)) in
          let yes_newline : (10 == 10) ≡ false = subst (λ (b : ℕ). (b == 10) ≡ false) there no_newline in
          (cc);
    }

pub skip_last : (rest : List ℕ) (m : ℕ) → m ≡ min (length rest) skip_limit → IsLine (take m rest) → length (take m rest) < skip_limit → EndsSkip (length rest) rest
skip_last rest m is line short =
    let len : length (take m rest) ≡ m = window_length rest m skip_limit is in
    let whole : take m rest ≡ rest = take_all m rest (omega arith) in
    record {
      within = omega arith;
      past = past_window rest m line ∙ ap past_newline (drop_all m rest (omega arith)) ∙ sym (drop_all (length rest) rest (omega arith));
      short = λ skip. omega (arith, skip.long);
    }

pub skip_whole : (rest : List ℕ) (m : ℕ) → m ≡ min (length rest) skip_limit → IsLine (take m rest) → skip_limit ≤ length (take m rest) → IsWholeSkip rest
skip_whole rest m is line long =
    let len : length (take m rest) ≡ m = window_length rest m skip_limit is in
    let m_is : m ≡ skip_limit = omega arith in
    record {
      long = omega arith;
      within = subst (λ (n : ℕ). IsLine (take n rest)) m_is line;
    }

-- a whole skip leaves what is behind the line
pub past_whole : (rest : List ℕ) → IsWholeSkip rest → past_newline (drop skip_limit rest) ≡ past_newline rest
past_whole rest whole = sym (past_window rest skip_limit whole.within)

pub left_whole : (old new : Reading) → new ≡ record old { text = drop skip_limit old.text } → old.skipping ≡ true → IsWholeSkip old.text → left_of new ≡ left_of old
left_whole old new is skipping whole = rw (is, skipping) (past_whole old.text whole)

pub left_nothing : (reading : Reading) (rest : List ℕ) → reading.skipping ≡ false → rest ≡ reading.text → rest ≡ [] → split (left_of reading) ≡ []
left_nothing reading rest stands is none = rw stands (split_nothing reading.text (sym is ∙ none))
