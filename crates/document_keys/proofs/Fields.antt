-- lists of field names, and how a path is written
use Rattle.std.proofs.Common.{◌≡◌, ◌∙◌, ◌↔◌, inl, inr, ℕ, ◌+◌, ◌<◌, ◌≤◌, Bool, true, false, cond, IsTrue, nat_eq, List, [], ◌∷◌, ◌++◌, length, get_or, take, refl, sym, ap, subst, append_assoc, arith}
use Rattle.std.specs.Cmp.Lexicographic.{pointwise, bytes_decides}
use Rattle.std.specs.List.{All, Contains}
use Rattle.std.proofs.Math.Utf8.{encode}
use Rattle.std.proofs.lemmas.Bool.{cases_lt, cases_Bool, cond-false, cond-true}
use Rattle.std.proofs.lemmas.List.{length-take-le, take_all, take_more}
use Rattle.std.proofs.lemmas.List.Elements.{All-contains, All-more, All-same}
use Rattle.std.proofs.lemmas.Str.{encode_ascii}
use Rattle.document_keys.specs.Names.{HasNameLength, IsReserved}
use Rattle.document_keys.specs.Paths.{is_escaped, escaped, quoted, SpellsPath, alone, joined, SpellsName, plainly, between, is_plain, printed_name, printed_path, HasNamesFault, HasPathFault}
use Rattle.document_keys.specs.declared.faults.FieldFault.{FieldFault}
use Rattle.document_keys.specs.declared.faults.FieldFault.TheVariants.{BadPath, ReservedField, NoMemory}
use Rattle.document_keys.proofs.Spelled.{AllHigh, high_other, spells_one, stays_high}

-- a walk over a list
pub walk_more : {X : Type 0} (P : X → Type 0) (xs : List X) (i : ℕ) (x : X) → i < length xs → x ≡ get_or xs i x → All P (take i xs) → P x → All P (take (i + 1) xs)
walk_more P xs i x below item so_far one = All-more P xs i x below so_far (subst P item one)

pub walk_whole : {X : Type 0} (P : X → Type 0) (xs : List X) (i : ℕ) → length xs ≤ i → All P (take i xs) → All P xs
walk_whole P xs i done all = All-same P xs (take i xs) (sym (take_all i xs done)) all

pub none_reserved : (names : List (List ℕ)) → All (λ name. ¬ (IsReserved name)) names → ((name : List ℕ) × Contains names name × IsReserved name) → ⊥
none_reserved names all some = All-contains (λ name. ¬ (IsReserved name)) names some.0 all some.1 some.2

pub one_name : (names : List (List ℕ)) (item name wanted : List ℕ) (same : Bool) → length names ≡ 1 → item ≡ get_or names 0 item → name ≡ item → same ≡ pointwise nat_eq name wanted → IsTrue same ↔ (names ≡ wanted ∷ [])
one_name [] item name wanted same one at is test = absurd (omega arith)
one_name (x ∷ []) item name wanted same one at is test =
    let decides = bytes_decides name wanted in
    (λ found. (λ i. (sym at ∙ sym is ∙ decides.0 (sym test ∙ found)) i ∷ []), λ e. test ∙ decides.1 (is ∙ at ∙ (let f : x ≡ wanted = cc in f)))
one_name (x ∷ y ∷ names) item name wanted same one at is test = absurd (omega arith)

-- the faults of a text that spells names
spells_some : (text : List ℕ) (names : List (List ℕ)) → SpellsPath text names → 0 < length names
spells_some _ _ (alone text name spelled) = omega arith
spells_some _ _ (joined text name rest path spelled others) = omega arith

pub fault_of_names : (text : List ℕ) (names : List (List ℕ)) (fault : FieldFault) → SpellsPath text names → HasNamesFault names fault → HasPathFault text fault
fault_of_names text names BadPath spelled (inl none) = let some = spells_some text names spelled in absurd (omega arith)
fault_of_names text names BadPath spelled (inr bad) = λ others other all. bad (subst (All HasNameLength) (spells_one text others names other spelled) all)
fault_of_names text names ReservedField spelled reserved = (names, spelled, reserved.1, reserved.2)
fault_of_names text names NoMemory spelled none = tt

-- a name written between backticks, character by character
escaped_high : (bytes rest : List ℕ) → AllHigh bytes → escaped (bytes ++ rest) ≡ bytes ++ escaped rest
escaped_high [] rest all = refl
escaped_high (byte ∷ bytes) rest all =
    rw (high_other byte 96 all.0 (omega arith), high_other byte 92 all.0 (omega arith)) (ap (λ t. byte ∷ t) (escaped_high bytes rest all.1))

escaped_low : (c : ℕ) (rest : List ℕ) (special : Bool) → is_escaped c ≡ special → cond special (92 ∷ c ∷ escaped rest) (c ∷ escaped rest) ≡ cond special (92 ∷ []) [] ++ (c ∷ escaped rest)
escaped_low c rest true is = refl
escaped_low c rest false is = refl

not_escaped_high : (c : ℕ) → 128 ≤ c → is_escaped c ≡ false
not_escaped_high c h = rw (high_other c 96 h (omega arith), high_other c 92 h (omega arith)) refl

escaped_char : (c : ℕ) (rest : List ℕ) → escaped (encode c ++ rest) ≡ cond (is_escaped c) (92 ∷ []) [] ++ (encode c ++ escaped rest)
escaped_char c rest =
    elim (cases_lt c 128) [
      | inl low ↦ rw (encode_ascii c low) (escaped_low c rest (is_escaped c) refl)
      | inr top ↦ escaped_high (encode c) rest (stays_high c top).0 ∙ ap (λ b. cond b (92 ∷ []) [] ++ (encode c ++ escaped rest)) (sym (not_escaped_high c top))
    ]

pub quoted_more : (before name rest after text marked longer mark : List ℕ) (c : ℕ) → text ++ escaped rest ≡ before ++ 96 ∷ escaped name → rest ≡ encode c ++ after → marked ≡ text ++ mark → mark ≡ cond (is_escaped c) (92 ∷ []) [] → longer ≡ marked ++ encode c → longer ++ escaped after ≡ before ++ 96 ∷ escaped name
quoted_more before name rest after text marked longer mark c so_far is marks mark_is more =
    ap (λ t. t ++ escaped after) (more ∙ ap (λ t. t ++ encode c) marks)
    ∙ append_assoc (text ++ mark) (encode c) (escaped after)
    ∙ append_assoc text mark (encode c ++ escaped after)
    ∙ ap (λ t. text ++ t) (ap (λ m. m ++ (encode c ++ escaped after)) mark_is ∙ sym (escaped_char c after) ∙ ap escaped (sym is))
    ∙ so_far

-- a path written name by name
printed_push : (names : List (List ℕ)) (name : List ℕ) → 0 < length names → printed_path (names ++ name ∷ []) ≡ printed_path names ++ 46 ∷ printed_name name
printed_push [] name some = absurd (omega arith)
printed_push (x ∷ []) name some = refl
printed_push (x ∷ y ∷ names) name some = ap (λ t. printed_name x ++ 46 ∷ t) (printed_push (y ∷ names) name (omega arith)) ∙ sym (append_assoc (printed_name x) (46 ∷ printed_path (y ∷ names)) (46 ∷ printed_name name))

pub printed_first : (names : List (List ℕ)) (i : ℕ) (name text longer : List ℕ) → i ≡ 0 → i < length names → name ≡ get_or names i name → text ≡ printed_path (take i names) → longer ≡ text ++ printed_name name → longer ≡ printed_path (take (i + 1) names)
printed_first names i name text longer first below item so_far more =
    more ∙ ap (λ t. t ++ printed_name name) (so_far ∙ ap (λ k. printed_path (take k names)) first ∙ printed_none names)
    ∙ sym (ap printed_path (take_more names i name below ∙ (λ j. take_none names i first j ++ sym item j ∷ [])))
  where
    printed_none : (xs : List (List ℕ)) → printed_path (take 0 xs) ≡ []
    printed_none [] = refl
    printed_none (x ∷ xs) = refl

    take_none : (xs : List (List ℕ)) (k : ℕ) → k ≡ 0 → take k xs ≡ []
    take_none [] k e = ap (λ n. take n []) e
    take_none (x ∷ xs) k e = ap (λ n. take n (x ∷ xs)) e

pub printed_next : (names : List (List ℕ)) (i : ℕ) (name text dotted longer : List ℕ) → 0 < i → i < length names → name ≡ get_or names i name → text ≡ printed_path (take i names) → dotted ≡ text ++ 46 ∷ [] → longer ≡ dotted ++ printed_name name → longer ≡ printed_path (take (i + 1) names)
printed_next names i name text dotted longer later below item so_far dot more =
    let size : length (take i names) ≡ i = length-take-le i names (omega arith) in
    more ∙ ap (λ t. t ++ printed_name name) (dot ∙ ap (λ t. t ++ 46 ∷ []) so_far) ∙ append_assoc (printed_path (take i names)) (46 ∷ []) (printed_name name)
    ∙ sym (ap printed_path (take_more names i name below ∙ ap (λ n. take i names ++ n ∷ []) (sym item)) ∙ printed_push (take i names) name (omega arith))

-- what is printed is read as the path
printed_name_spells : (name : List ℕ) → SpellsName (printed_name name) name
printed_name_spells name = elim (cases_Bool (is_plain name)) [
  | inl plain ↦ subst (λ t. SpellsName t name) (sym (cond-true (is_plain name) name (quoted name) plain)) (plainly name plain)
  | inr other ↦ subst (λ t. SpellsName t name) (sym (cond-false (is_plain name) name (quoted name) other)) (between name)
]

pub printed_spells : (names : List (List ℕ)) → 0 < length names → SpellsPath (printed_path names) names
printed_spells [] some = absurd (omega arith)
printed_spells (name ∷ []) some = alone (printed_name name) name (printed_name_spells name)
printed_spells (name ∷ next ∷ names) some = joined (printed_name name) name (printed_path (next ∷ names)) (next ∷ names) (printed_name_spells name) (printed_spells (next ∷ names) (omega arith))
