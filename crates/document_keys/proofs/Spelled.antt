-- reading a field path: a text spells at most one path, and the reader finds it
use Rattle.std.proofs.Common.{◌≡◌, ◌∙◌, ◌⊎◌, inl, inr, ℕ, ◌<◌, ◌≤◌, Bool, true, false, cond, Option, Some, None, List, [], ◌∷◌, ◌++◌, refl, sym, ap, subst, append_assoc, append-nil, length, arith}
use Rattle.std.specs.Bool.{◌==◌}
use Rattle.std.specs.List.{list_all}
use Rattle.std.proofs.Math.Utf8.{encode}
use Rattle.std.proofs.lemmas.Bool.{and_from, and_parts, cases_Bool, cases_lt, cond-false, cond-true, eqb-true, le-ltb, lt-ltb, eq-eqb, ne_eqb, or_from, or_parts}
use Rattle.std.proofs.lemmas.Bool.Decides.{nat_tests}
use Rattle.std.proofs.lemmas.Str.{encode_ascii}
use Rattle.document_keys.specs.declared.spelling.Place.{Place}
use Rattle.document_keys.specs.declared.spelling.Place.TheVariants.{Start, Plain, Quoted, Escaped, Closed}
use Rattle.document_keys.specs.declared.spelling.Step.{Step}
use Rattle.document_keys.specs.declared.spelling.Step.TheVariants.{Enter, Push, Finish, Stop}
use Rattle.document_keys.specs.Paths.{is_name_start, is_name_part, is_plain, is_escaped, escaped, quoted, SpellsName, plainly, between, SpellsPath, alone, joined}
use Rattle.document_keys.specs.Reader.{step}

-- the path that is read of bytes, from a place with a part of a name
abbrev pub onto : List ℕ → Option (List (List ℕ)) → Option (List (List ℕ))
onto name None = None
onto name (Some path) = Some (name ∷ path)

abbrev pub go : (Place → List ℕ → Option (List (List ℕ))) → Step → List ℕ → List ℕ → Option (List (List ℕ))
go rest (Enter to) bytes name = rest to name
go rest (Push to) bytes name = rest to (name ++ bytes)
go rest Finish bytes name = onto name (rest Start [])
go rest Stop bytes name = None

abbrev pub at_end : Place → List ℕ → Option (List (List ℕ))
at_end Start name = None
at_end Plain name = Some (name ∷ [])
at_end Quoted name = None
at_end Escaped name = None
at_end Closed name = Some (name ∷ [])

abbrev pub run : List ℕ → Place → List ℕ → Option (List (List ℕ))
run [] place name = at_end place name
run (byte ∷ bytes) place name = go (run bytes) (step place byte) (byte ∷ []) name

-- ---- a character of several bytes

abbrev pub AllHigh : List ℕ → Type 0
AllHigh [] = Unit {0}
AllHigh (byte ∷ bytes) = (128 ≤ byte) × AllHigh bytes

abbrev high : Place → Step
high Start = Stop
high Plain = Stop
high Quoted = Push Quoted
high Escaped = Stop
high Closed = Stop

high_start : (c : ℕ) → 128 ≤ c → is_name_start c ≡ false
high_start c h = grind (arith, nat_tests)

high_part : (c : ℕ) → 128 ≤ c → is_name_part c ≡ false
high_part c h = grind (arith, nat_tests)

pub high_other : (c k : ℕ) → 128 ≤ c → k < 128 → (c == k) ≡ false
high_other c k h l = ne_eqb c k (λ e. omega arith)

high_step : (place : Place) (c : ℕ) → 128 ≤ c → step place c ≡ high place
high_step Start c h = rw (high_other c 96 h (omega arith), high_start c h) refl
high_step Plain c h = rw (high_other c 46 h (omega arith), high_part c h) refl
high_step Quoted c h = rw (high_other c 92 h (omega arith), high_other c 96 h (omega arith)) refl
high_step Escaped c h = rw (high_other c 96 h (omega arith), high_other c 92 h (omega arith)) refl
high_step Closed c h = rw (high_other c 46 h (omega arith)) refl

run_high : (bytes rest name : List ℕ) → AllHigh bytes → run (bytes ++ rest) Quoted name ≡ run rest Quoted (name ++ bytes)
run_high [] rest name all = ap (λ n. run rest Quoted n) (sym (append-nil name))
run_high (byte ∷ bytes) rest name all = ap (λ s. go (run (bytes ++ rest)) s (byte ∷ []) name) (high_step Quoted byte all.0) ∙ run_high bytes rest (name ++ byte ∷ []) all.1 ∙ ap (λ n. run rest Quoted n) (append_assoc name (byte ∷ []) bytes)

pub stays_high : (c : ℕ) → 128 ≤ c → AllHigh (encode c) × ((first : ℕ) × (others : List ℕ) × (encode c ≡ first ∷ others))
unfolding encode
stays_high c h =
    rw (le-ltb c 128 h) (elim (cases_lt c 2048) [
      | inl two ↦ rw (lt-ltb c 2048 two) ((omega arith, (omega arith, tt)), (_, _, refl))
      | inr more ↦ rw (le-ltb c 2048 more) (elim (cases_lt c 65536) [
        | inl three ↦ rw (lt-ltb c 65536 three) ((omega arith, (omega arith, (omega arith, tt))), (_, _, refl))
        | inr four ↦ rw (le-ltb c 65536 four) ((omega arith, (omega arith, (omega arith, (omega arith, tt)))), (_, _, refl))
      ])
    ])

run_stopped : (place : Place) (bytes rest name : List ℕ) (first : ℕ) (others : List ℕ) → bytes ≡ first ∷ others → 128 ≤ first → high place ≡ Stop → run (bytes ++ rest) place name ≡ None
run_stopped place bytes rest name first others is h stop =
    ap (λ bs. run (bs ++ rest) place name) is ∙ ap (λ s. go (run (others ++ rest)) s (first ∷ []) name) (high_step place first h ∙ stop)

run_char_high : (place : Place) (c : ℕ) (rest name : List ℕ) → 128 ≤ c → run (encode c ++ rest) place name ≡ go (run rest) (high place) (encode c) name
run_char_high Quoted c rest name h = run_high (encode c) rest name (stays_high c h).0
run_char_high Start c rest name h = let bytes = stays_high c h in run_stopped Start (encode c) rest name bytes.1.0 bytes.1.1 bytes.1.2 (subst AllHigh bytes.1.2 bytes.0).0 refl
run_char_high Plain c rest name h = let bytes = stays_high c h in run_stopped Plain (encode c) rest name bytes.1.0 bytes.1.1 bytes.1.2 (subst AllHigh bytes.1.2 bytes.0).0 refl
run_char_high Escaped c rest name h = let bytes = stays_high c h in run_stopped Escaped (encode c) rest name bytes.1.0 bytes.1.1 bytes.1.2 (subst AllHigh bytes.1.2 bytes.0).0 refl
run_char_high Closed c rest name h = let bytes = stays_high c h in run_stopped Closed (encode c) rest name bytes.1.0 bytes.1.1 bytes.1.2 (subst AllHigh bytes.1.2 bytes.0).0 refl

-- the reader goes character by character as it goes byte by byte
pub run_char : (place : Place) (c : ℕ) (rest name : List ℕ) → run (encode c ++ rest) place name ≡ go (run rest) (step place c) (encode c) name
run_char place c rest name =
    elim (cases_lt c 128) [
      | inl low ↦ rw (encode_ascii c low) refl
      | inr top ↦ run_char_high place c rest name top ∙ ap (λ s. go (run rest) s (encode c) name) (sym (high_step place c top))
    ]

-- ---- what is spelled is read

abbrev starts_after : List ℕ → Type 0
starts_after [] = Unit {0}
starts_after (byte ∷ bytes) = byte ≡ 46

start_tick : (c : ℕ) → is_name_start c ≡ true → (c == 96) ≡ false
start_tick c is = ne_eqb c 96 (λ e. let other = ap is_name_start e in cc)

part_dot : (c : ℕ) → is_name_part c ≡ true → (c == 46) ≡ false
part_dot c is = ne_eqb c 46 (λ e. let other = ap is_name_part e in cc)

run_parts : (others rest name : List ℕ) → list_all is_name_part others ≡ true → run (others ++ rest) Plain name ≡ run rest Plain (name ++ others)
run_parts [] rest name all = ap (λ n. run rest Plain n) (sym (append-nil name))
run_parts (byte ∷ others) rest name all =
    let each = and_parts (is_name_part byte) (list_all is_name_part others) all in
    let moves : step Plain byte ≡ Push Plain = rw (part_dot byte each.0, each.0) refl in
    ap (λ s. go (run (others ++ rest)) s (byte ∷ []) name) moves ∙ run_parts others rest (name ++ byte ∷ []) each.1 ∙ ap (λ n. run rest Plain n) (append_assoc name (byte ∷ []) others)

run_plain : (name rest : List ℕ) → is_plain name ≡ true → run (name ++ rest) Start [] ≡ run rest Plain name
run_plain [] rest plain = cc
run_plain (first ∷ others) rest plain =
    let each = and_parts (is_name_start first) (list_all is_name_part others) plain in
    let moves : step Start first ≡ Push Plain = rw (start_tick first each.0, each.0) refl in
    ap (λ s. go (run (others ++ rest)) s (first ∷ []) []) moves ∙ run_parts others rest (first ∷ []) each.1

free_steps : (byte : ℕ) → is_escaped byte ≡ false → step Quoted byte ≡ Push Quoted
free_steps byte free = let each = or_parts (byte == 96) (byte == 92) free in rw (each.1, each.0) refl

run_quoted : (name rest done : List ℕ) → run (escaped name ++ rest) Quoted done ≡ run rest Quoted (done ++ name)
run_quoted [] rest done = ap (λ n. run rest Quoted n) (sym (append-nil done))
run_quoted (byte ∷ name) rest done = by (is_escaped byte) refl (run_quoted name rest (done ++ byte ∷ []) ∙ ap (λ n. run rest Quoted n) (append_assoc done (byte ∷ []) name))
  where
    by : (test : Bool) → is_escaped byte ≡ test → run (escaped name ++ rest) Quoted (done ++ byte ∷ []) ≡ run rest Quoted (done ++ byte ∷ name) → run (cond test (92 ∷ byte ∷ escaped name) (byte ∷ escaped name) ++ rest) Quoted done ≡ run rest Quoted (done ++ byte ∷ name)
    by true is more = ap (λ t. go (run (escaped name ++ rest)) (cond t (Push Quoted) Stop) (byte ∷ []) done) is ∙ more
    by false is more = ap (λ s. go (run (escaped name ++ rest)) s (byte ∷ []) done) (free_steps byte is) ∙ more

run_closed : (rest name : List ℕ) → starts_after rest → run rest Closed name ≡ run rest Plain name
run_closed [] name after = refl
run_closed (byte ∷ bytes) name after =
    let dot : (byte == 46) ≡ true = eq-eqb byte 46 after in
    let plain : step Plain byte ≡ Finish = rw dot refl in
    let closed : step Closed byte ≡ Finish = rw dot refl in
    ap (λ s. go (run bytes) s (byte ∷ []) name) closed ∙ sym (ap (λ s. go (run bytes) s (byte ∷ []) name) plain)

run_name : (text name rest : List ℕ) → SpellsName text name → starts_after rest → run (text ++ rest) Start [] ≡ run rest Plain name
run_name _ _ rest (plainly name plain) after = run_plain name rest plain
run_name _ _ rest (between name) after =
    ap (λ t. run t Quoted []) (append_assoc (escaped name) (96 ∷ []) rest) ∙ run_quoted name (96 ∷ rest) [] ∙ run_closed rest name after

pub run_spelled : (text : List ℕ) (path : List (List ℕ)) → SpellsPath text path → run text Start [] ≡ Some path
run_spelled _ _ (alone text name spelled) = ap (λ t. run t Start []) (sym (append-nil text)) ∙ run_name text name [] spelled tt
run_spelled _ _ (joined text name rest path spelled others) = run_name text name (46 ∷ rest) spelled refl ∙ ap (onto name) (run_spelled rest path others)

-- a text spells at most one path
pub spells_one : (text : List ℕ) (path other : List (List ℕ)) → SpellsPath text path → SpellsPath text other → path ≡ other
spells_one text path other one two = let a = run_spelled text path one in let b = run_spelled text other two in cc

-- ---- what is read is spelled

abbrev shown : Place → List ℕ → List ℕ
shown Start name = []
shown Plain name = name
shown Quoted name = 96 ∷ escaped name
shown Escaped name = 96 ∷ (escaped name ++ 92 ∷ [])
shown Closed name = quoted name

abbrev Fits : Place → List ℕ → Type 0
Fits Start name = name ≡ []
Fits Plain name = is_plain name ≡ true
Fits Quoted name = Unit {0}
Fits Escaped name = Unit {0}
Fits Closed name = Unit {0}

all_push : (others : List ℕ) (byte : ℕ) → list_all is_name_part others ≡ true → is_name_part byte ≡ true → list_all is_name_part (others ++ byte ∷ []) ≡ true
all_push [] byte all one = and_from (is_name_part byte) true one refl
all_push (x ∷ others) byte all one = let each = and_parts (is_name_part x) (list_all is_name_part others) all in and_from (is_name_part x) _ each.0 (all_push others byte each.1 one)

plain_push : (name : List ℕ) (byte : ℕ) → is_plain name ≡ true → is_name_part byte ≡ true → is_plain (name ++ byte ∷ []) ≡ true
plain_push [] byte plain one = cc
plain_push (first ∷ others) byte plain one = let each = and_parts (is_name_start first) (list_all is_name_part others) plain in and_from (is_name_start first) _ each.0 (all_push others byte each.1 one)

escaped_push : (name : List ℕ) (byte : ℕ) → escaped (name ++ byte ∷ []) ≡ escaped name ++ escaped (byte ∷ [])
escaped_push [] byte = refl
escaped_push (x ∷ name) byte = by (is_escaped x) (escaped_push name byte)
  where
    by : (test : Bool) → escaped (name ++ byte ∷ []) ≡ escaped name ++ escaped (byte ∷ []) → cond test (92 ∷ x ∷ escaped (name ++ byte ∷ [])) (x ∷ escaped (name ++ byte ∷ [])) ≡ cond test (92 ∷ x ∷ escaped name) (x ∷ escaped name) ++ escaped (byte ∷ [])
    by true more = ap (λ t. 92 ∷ x ∷ t) more
    by false more = ap (λ t. x ∷ t) more

abbrev Reads : List ℕ → Type 0
Reads bytes = (place : Place) (name : List ℕ) (path : List (List ℕ)) → Fits place name → run bytes place name ≡ Some path → SpellsPath (shown place name ++ bytes) path

finished : (bytes name shows : List ℕ) (path : List (List ℕ)) → Reads bytes → SpellsName shows name → (found : Option (List (List ℕ))) → run bytes Start [] ≡ found → onto name found ≡ Some path → SpellsPath (shows ++ 46 ∷ bytes) path
finished bytes name shows path more spelled None is e = cc
finished bytes name shows path more spelled (Some others) is e = let parts : name ∷ others ≡ path = cc in subst (SpellsPath (shows ++ 46 ∷ bytes)) parts (joined shows name bytes others spelled (more Start [] others refl is))

-- the path after names that were read
abbrev pub prepend : List (List ℕ) → Option (List (List ℕ)) → Option (List (List ℕ))
prepend done None = None
prepend done (Some path) = Some (done ++ path)

pub prepend_onto : (done : List (List ℕ)) (name : List ℕ) (found : Option (List (List ℕ))) → prepend done (onto name found) ≡ prepend (done ++ name ∷ []) found
prepend_onto done name None = refl
prepend_onto done name (Some path) = ap (λ p. Some p) (sym (append_assoc done (name ∷ []) path))

read_start : (byte : ℕ) (bytes name : List ℕ) (path : List (List ℕ)) → Reads bytes → name ≡ [] → go (run bytes) (step Start byte) (byte ∷ []) name ≡ Some path → SpellsPath (byte ∷ bytes) path
read_start byte bytes name path more empty e =
    elim (cases_Bool (byte == 96)) [
      | inl tick ↦
          let moves : step Start byte ≡ Enter Quoted = rw tick refl in
          let text : 96 ∷ (escaped name ++ bytes) ≡ byte ∷ bytes = λ i. sym (eqb-true byte 96 tick) i ∷ (escaped (empty i) ++ bytes) in
          subst (λ t. SpellsPath t path) text (more Quoted name path tt (ap (λ s. go (run bytes) s (byte ∷ []) name) (sym moves) ∙ e))
      | inr other ↦ elim (cases_Bool (is_name_start byte)) [
        | inl first ↦
            let moves : step Start byte ≡ Push Plain = rw (other, first) refl in
            let plain : is_plain (name ++ byte ∷ []) ≡ true = ap (λ n. is_plain (n ++ byte ∷ [])) empty ∙ and_from (is_name_start byte) true first refl in
            subst (λ t. SpellsPath t path) (λ i. (empty i ++ byte ∷ []) ++ bytes) (more Plain (name ++ byte ∷ []) path plain (ap (λ s. go (run bytes) s (byte ∷ []) name) (sym moves) ∙ e))
        | inr stops ↦
            let moves : step Start byte ≡ Stop = rw (other, stops) refl in
            let none = ap (λ s. go (run bytes) s (byte ∷ []) name) (sym moves) ∙ e in cc
      ]
    ]

read_plain : (byte : ℕ) (bytes name : List ℕ) (path : List (List ℕ)) → Reads bytes → is_plain name ≡ true → go (run bytes) (step Plain byte) (byte ∷ []) name ≡ Some path → SpellsPath (name ++ byte ∷ bytes) path
read_plain byte bytes name path more plain e =
    elim (cases_Bool (byte == 46)) [
      | inl dot ↦
          let moves : step Plain byte ≡ Finish = rw dot refl in
          subst (λ b. SpellsPath (name ++ b ∷ bytes) path) (sym (eqb-true byte 46 dot)) (finished bytes name name path more (plainly name plain) _ refl (ap (λ s. go (run bytes) s (byte ∷ []) name) (sym moves) ∙ e))
      | inr other ↦ elim (cases_Bool (is_name_part byte)) [
        | inl part ↦
            let moves : step Plain byte ≡ Push Plain = rw (other, part) refl in
            subst (λ t. SpellsPath t path) (append_assoc name (byte ∷ []) bytes) (more Plain (name ++ byte ∷ []) path (plain_push name byte plain part) (ap (λ s. go (run bytes) s (byte ∷ []) name) (sym moves) ∙ e))
        | inr stops ↦
            let moves : step Plain byte ≡ Stop = rw (other, stops) refl in
            let none = ap (λ s. go (run bytes) s (byte ∷ []) name) (sym moves) ∙ e in cc
      ]
    ]

read_quoted : (byte : ℕ) (bytes name : List ℕ) (path : List (List ℕ)) → Reads bytes → go (run bytes) (step Quoted byte) (byte ∷ []) name ≡ Some path → SpellsPath (96 ∷ (escaped name ++ byte ∷ bytes)) path
read_quoted byte bytes name path more e =
    elim (cases_Bool (byte == 92)) [
      | inl slash ↦
          let moves : step Quoted byte ≡ Enter Escaped = rw slash refl in
          let text = append_assoc (escaped name) (92 ∷ []) bytes ∙ ap (λ b. escaped name ++ b ∷ bytes) (sym (eqb-true byte 92 slash)) in
          subst (λ t. SpellsPath (96 ∷ t) path) text (more Escaped name path tt (ap (λ s. go (run bytes) s (byte ∷ []) name) (sym moves) ∙ e))
      | inr other ↦ elim (cases_Bool (byte == 96)) [
        | inl tick ↦
            let moves : step Quoted byte ≡ Enter Closed = rw (other, tick) refl in
            let text = append_assoc (escaped name) (96 ∷ []) bytes ∙ ap (λ b. escaped name ++ b ∷ bytes) (sym (eqb-true byte 96 tick)) in
            subst (λ t. SpellsPath (96 ∷ t) path) text (more Closed name path tt (ap (λ s. go (run bytes) s (byte ∷ []) name) (sym moves) ∙ e))
        | inr free ↦
            let moves : step Quoted byte ≡ Push Quoted = rw (other, free) refl in
            let one : escaped (byte ∷ []) ≡ byte ∷ [] = cond-false (is_escaped byte) _ _ (or_from (byte == 96) (byte == 92) free other) in
            let text = ap (λ t. t ++ bytes) (escaped_push name byte ∙ ap (λ t. escaped name ++ t) one) ∙ append_assoc (escaped name) (byte ∷ []) bytes in
            subst (λ t. SpellsPath (96 ∷ t) path) text (more Quoted (name ++ byte ∷ []) path tt (ap (λ s. go (run bytes) s (byte ∷ []) name) (sym moves) ∙ e))
      ]
    ]

read_escaped : (byte : ℕ) (bytes name : List ℕ) (path : List (List ℕ)) → Reads bytes → go (run bytes) (step Escaped byte) (byte ∷ []) name ≡ Some path → SpellsPath (96 ∷ ((escaped name ++ 92 ∷ []) ++ byte ∷ bytes)) path
read_escaped byte bytes name path more e =
    elim (cases_Bool (is_escaped byte)) [
      | inl special ↦
          let moves : step Escaped byte ≡ Push Quoted = cond-true (is_escaped byte) _ _ special in
          let one : escaped (byte ∷ []) ≡ 92 ∷ byte ∷ [] = cond-true (is_escaped byte) _ _ special in
          let text = ap (λ t. t ++ bytes) (escaped_push name byte ∙ ap (λ t. escaped name ++ t) one) ∙ append_assoc (escaped name) (92 ∷ byte ∷ []) bytes ∙ sym (append_assoc (escaped name) (92 ∷ []) (byte ∷ bytes)) in
          subst (λ t. SpellsPath (96 ∷ t) path) text (more Quoted (name ++ byte ∷ []) path tt (ap (λ s. go (run bytes) s (byte ∷ []) name) (sym moves) ∙ e))
      | inr stops ↦
          let moves : step Escaped byte ≡ Stop = cond-false (is_escaped byte) _ _ stops in
          let none = ap (λ s. go (run bytes) s (byte ∷ []) name) (sym moves) ∙ e in cc
    ]

read_closed : (byte : ℕ) (bytes name : List ℕ) (path : List (List ℕ)) → Reads bytes → go (run bytes) (step Closed byte) (byte ∷ []) name ≡ Some path → SpellsPath (quoted name ++ byte ∷ bytes) path
read_closed byte bytes name path more e =
    elim (cases_Bool (byte == 46)) [
      | inl dot ↦
          let moves : step Closed byte ≡ Finish = rw dot refl in
          subst (λ b. SpellsPath (quoted name ++ b ∷ bytes) path) (sym (eqb-true byte 46 dot)) (finished bytes name (quoted name) path more (between name) _ refl (ap (λ s. go (run bytes) s (byte ∷ []) name) (sym moves) ∙ e))
      | inr stops ↦
          let moves : step Closed byte ≡ Stop = rw stops refl in
          let none = ap (λ s. go (run bytes) s (byte ∷ []) name) (sym moves) ∙ e in cc
    ]

alone_read : (shows name : List ℕ) (path : List (List ℕ)) → SpellsName shows name → at_end Plain name ≡ Some path → SpellsPath (shows ++ []) path
alone_read shows name path spelled e =
    let whole : name ∷ [] ≡ path = cc in
    subst (λ t. SpellsPath t path) (sym (append-nil shows)) (subst (SpellsPath shows) whole (alone shows name spelled))

reads : (bytes : List ℕ) → Reads bytes
reads [] Start name path fits e = cc
reads [] Plain name path fits e = alone_read name name path (plainly name fits) e
reads [] Quoted name path fits e = cc
reads [] Escaped name path fits e = cc
reads [] Closed name path fits e = alone_read (quoted name) name path (between name) e
reads (byte ∷ bytes) Start name path fits e = read_start byte bytes name path (reads bytes) fits e
reads (byte ∷ bytes) Plain name path fits e = read_plain byte bytes name path (reads bytes) fits e
reads (byte ∷ bytes) Quoted name path fits e = read_quoted byte bytes name path (reads bytes) e
reads (byte ∷ bytes) Escaped name path fits e = read_escaped byte bytes name path (reads bytes) e
reads (byte ∷ bytes) Closed name path fits e = read_closed byte bytes name path (reads bytes) e

pub spelled_from_run : (text : List ℕ) (path : List (List ℕ)) → run text Start [] ≡ Some path → SpellsPath text path
spelled_from_run text path e = reads text Start [] path refl e

pub none_from_run : (text : List ℕ) → run text Start [] ≡ None → (path : List (List ℕ)) → ¬ (SpellsPath text path)
none_from_run text e path spelled = let some = run_spelled text path spelled in cc

-- ---- the steps of the loop
turn : (text : List ℕ) (done : List (List ℕ)) (rest after : List ℕ) (place : Place) (name : List ℕ) (c : ℕ) → run text Start [] ≡ prepend done (run rest place name) → rest ≡ encode c ++ after → run text Start [] ≡ prepend done (go (run after) (step place c) (encode c) name)
turn text done rest after place name c so_far is = so_far ∙ ap (λ r. prepend done (run r place name)) is ∙ ap (prepend done) (run_char place c after name)

pub entered : (text : List ℕ) (done : List (List ℕ)) (rest after : List ℕ) (place : Place) (name : List ℕ) (c : ℕ) (next : Place) → run text Start [] ≡ prepend done (run rest place name) → rest ≡ encode c ++ after → Enter next ≡ step place c → run text Start [] ≡ prepend done (run after next name)
entered text done rest after place name c next so_far is moves = turn text done rest after place name c so_far is ∙ ap (λ s. prepend done (go (run after) s (encode c) name)) (sym moves)

pub pushed : (text : List ℕ) (done : List (List ℕ)) (rest after : List ℕ) (place : Place) (name longer : List ℕ) (c : ℕ) (next : Place) → run text Start [] ≡ prepend done (run rest place name) → rest ≡ encode c ++ after → Push next ≡ step place c → longer ≡ name ++ encode c → run text Start [] ≡ prepend done (run after next longer)
pushed text done rest after place name longer c next so_far is moves more = turn text done rest after place name c so_far is ∙ ap (λ s. prepend done (go (run after) s (encode c) name)) (sym moves) ∙ ap (λ n. prepend done (run after next n)) (sym more)

pub named : (text : List ℕ) (done longer : List (List ℕ)) (rest after : List ℕ) (place : Place) (name whole empty : List ℕ) (c : ℕ) → run text Start [] ≡ prepend done (run rest place name) → rest ≡ encode c ++ after → Finish ≡ step place c → whole ≡ name → longer ≡ done ++ whole ∷ [] → empty ≡ [] → run text Start [] ≡ prepend longer (run after Start empty)
named text done longer rest after place name whole empty c so_far is moves same more none =
    turn text done rest after place name c so_far is ∙ ap (λ s. prepend done (go (run after) s (encode c) name)) (sym moves) ∙ prepend_onto done name (run after Start [])
    ∙ (λ i. prepend (sym (more ∙ ap (λ n. done ++ n ∷ []) same) i) (run after Start (sym none i)))

pub stopped : (text : List ℕ) (done : List (List ℕ)) (rest after : List ℕ) (place : Place) (name : List ℕ) (c : ℕ) → run text Start [] ≡ prepend done (run rest place name) → rest ≡ encode c ++ after → Stop ≡ step place c → (path : List (List ℕ)) → ¬ (SpellsPath text path)
stopped text done rest after place name c so_far is moves = none_from_run text (turn text done rest after place name c so_far is ∙ ap (λ s. prepend done (go (run after) s (encode c) name)) (sym moves))

pub closes : (place : Place) (name : List ℕ) → (place ≡ Plain) ⊎ (place ≡ Closed) → at_end place name ≡ Some (name ∷ [])
closes place name (inl is) = ap (λ p. at_end p name) is
closes place name (inr is) = ap (λ p. at_end p name) is

nothing : (rest : List ℕ) → length rest ≡ 0 → rest ≡ []
nothing [] e = refl
nothing (x ∷ rest) e = absurd (omega arith)

pub ended : (text : List ℕ) (done longer : List (List ℕ)) (rest : List ℕ) (place : Place) (name whole : List ℕ) → run text Start [] ≡ prepend done (run rest place name) → length rest ≡ 0 → at_end place name ≡ Some (name ∷ []) → whole ≡ name → longer ≡ done ++ whole ∷ [] → SpellsPath text longer
ended text done longer rest place name whole so_far none last same more =
    spelled_from_run text longer (so_far ∙ ap (λ r. prepend done (run r place name)) (nothing rest none) ∙ ap (prepend done) last ∙ ap (λ p. Some p) (sym (more ∙ ap (λ n. done ++ n ∷ []) same)))

open_end : (place : Place) (name : List ℕ) → (place ≡ Plain → ⊥) → (place ≡ Closed → ⊥) → at_end place name ≡ None
open_end Start name not_plain not_closed = refl
open_end Plain name not_plain not_closed = absurd (not_plain refl)
open_end Quoted name not_plain not_closed = refl
open_end Escaped name not_plain not_closed = refl
open_end Closed name not_plain not_closed = absurd (not_closed refl)

pub unended : (text : List ℕ) (done : List (List ℕ)) (rest : List ℕ) (place : Place) (name : List ℕ) → run text Start [] ≡ prepend done (run rest place name) → length rest ≡ 0 → (place ≡ Plain → ⊥) → (place ≡ Closed → ⊥) → (path : List (List ℕ)) → ¬ (SpellsPath text path)
unended text done rest place name so_far none not_plain not_closed = none_from_run text (so_far ∙ ap (λ r. prepend done (run r place name)) (nothing rest none) ∙ ap (prepend done) (open_end place name not_plain not_closed))
