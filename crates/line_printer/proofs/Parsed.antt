-- The lines that are printed, as a reader of JSON takes them, and the commits that they report.
use Rattle.std.proofs.Common.{◌≡◌, ◌⊎◌, inl, inr, ℕ, false, ◌≤◌, IsTrue, List, [], ◌∷◌, Option, Some, None, refl, sym, ap, ◌∙◌, arith, append-nil}
use Rattle.std.specs.Prelude.{option_and_then, option_map}
use Rattle.std.proofs.lemmas.Bool.{or_from}
use Rattle.json.specs.Token.{Token}
use Rattle.json.specs.Lex.{tokens}
use Rattle.json.specs.Json.{Json, value, if_last}
use Rattle.json.specs.Tree.{json_tokens, depth, HasNumbers}
use Rattle.json.proofs.Found.{one_reading, not_found, Some_inj}
use Rattle.json.proofs.Printed.Tokens.{tokens-print}
use Rattle.json.proofs.Printed.Trees.{value-json_tokens, ArePrintable-json_tokens}
use Rattle.json.proofs.Unique.Spelling.{value-json_tokens_back}
use Rattle.serde_json.specs.Data.{Data, object, no_members, member}
use Rattle.serde_json.specs.Find.{get}
use Rattle.serde_json.specs.Read.{read, of_json, max_depth}
use Rattle.serde_json.specs.Written.{outline, compact_text, has_float}
use Rattle.serde_json.proofs.Texts.{print-outline}
use Rattle.line_printer.specs.Trees.{one}
use Rattle.line_printer.specs.Reported.{IsReporting, Reports, ReportsWithin, reported_in, commit_in, ALineReportsOnce}
use Rattle.line_printer.proofs.Lexed.{has_bad, none_bad, printed_or_faulty}

-- the tokens of a text that was printed
printed_tokens : (d : Data) → HasNumbers (outline d) → tokens (compact_text d) ≡ json_tokens (outline d)
printed_tokens d numbers = ap tokens (sym (print-outline d)) ∙ tokens-print (json_tokens (outline d)) (ArePrintable-json_tokens (outline d) numbers)

-- what was read to its end
record Whole (o : Option (Json × List Token)) (e : Data) : Type 0 where
  json : Json
  all : o ≡ Some (json, [])
  is : of_json json ≡ Some e

whole_of : (o : Option (Json × List Token)) (e : Data) → option_and_then of_json (option_and_then (λ p. if_last p.0 p.1) o) ≡ Some e → Whole o e
whole_of None e is = not_found e is
whole_of (Some (j, [])) e is = record { json = j; all = refl; is = is }
whole_of (Some (j, t ∷ ts)) e is = not_found e is

outline_read : (d : Data) → value (depth (outline d)) (json_tokens (outline d)) ≡ Some (outline d, [])
outline_read d = ap (value (depth (outline d))) (sym (append-nil (json_tokens (outline d)))) ∙ value-json_tokens (outline d) (depth (outline d)) [] (omega arith)

-- a text with the tokens of a tree is read as what that stands for, if it is read
read_tokens : (d e : Data) → tokens (compact_text d) ≡ json_tokens (outline d) → read (compact_text d) ≡ Some e → of_json (outline d) ≡ Some e
read_tokens d e same is =
    let whole = whole_of (value max_depth (tokens (compact_text d))) e is in
    let all : value max_depth (json_tokens (outline d)) ≡ Some (whole.json, []) = ap (value max_depth) (sym same) ∙ whole.all in
    let one : (whole.json, []) ≡ (outline d, []) = Some_inj _ _ (one_reading max_depth (depth (outline d)) (json_tokens (outline d)) (whole.json, []) (outline d, []) all (outline_read d)) in
    ap (λ (p : Json × List Token). of_json p.0) (sym one) ∙ whole.is

-- a printed text is read as what its outline stands for, if it is read
read_printed : (d e : Data) → HasNumbers (outline d) → read (compact_text d) ≡ Some e → of_json (outline d) ≡ Some e
read_printed d e numbers = read_tokens d e (printed_tokens d numbers)

-- the same of a tree without floats, however large its numbers are
read_floatless : (d e : Data) → has_float d ≡ false → read (compact_text d) ≡ Some e → of_json (outline d) ≡ Some e
read_floatless d e floatless is = by (printed_or_faulty d floatless)
  where
    by : (tokens (compact_text d) ≡ json_tokens (outline d)) ⊎ IsTrue (has_bad (tokens (compact_text d))) → of_json (outline d) ≡ Some e
    by (inl same) = read_tokens d e same is
    by (inr faulty) =
        let found = whole_of (value max_depth (tokens (compact_text d))) e is in
        let back = value-json_tokens_back max_depth (tokens (compact_text d)) [] found.json found.all in
        let never = sym faulty ∙ ap has_bad (back ∙ append-nil (json_tokens found.json)) ∙ none_bad found.json in
        cc

printed_read : (d e : Data) → HasNumbers (outline d) → depth (outline d) ≤ max_depth → of_json (outline d) ≡ Some e → read (compact_text d) ≡ Some e
printed_read d e numbers shallow is =
    ap (λ (ts : List Token). option_and_then of_json (option_and_then (λ p. if_last p.0 p.1) (value max_depth ts))) (printed_tokens d numbers ∙ sym (append-nil (json_tokens (outline d))))
    ∙ ap (λ o. option_and_then of_json (option_and_then (λ p. if_last p.0 p.1) o)) (value-json_tokens (outline d) max_depth [] shallow) ∙ is

-- ---- reports

pub a_line_reports_once : ALineReportsOnce
a_line_reports_once line a b first second same =
    let trees : first.tree ≡ second.tree = Some_inj _ _ (sym first.is_json ∙ second.is_json) in
    Some_inj a b (sym first.is ∙ ap (λ (t : Data). reported_in first.name t) trees ∙ ap (λ (n : List ℕ). reported_in n second.tree) same ∙ second.is)

-- what an object with one member is read as
record OfOne (name : List ℕ) (o : Option Data) (e : Data) : Type 0 where
  inner : Data
  read : o ≡ Some inner
  is : one name inner ≡ e

of_one : (name : List ℕ) (o : Option Data) (e : Data) → option_map object (option_and_then (λ d. Some (member name d no_members)) o) ≡ Some e → OfOne name o e
of_one name None e is = not_found e is
of_one name (Some d) e is = record { inner = d; read = refl; is = Some_inj _ _ is }

-- An object of this name reports nothing, whatever it has.
abbrev pub IsQuiet : List ℕ → Type 0
IsQuiet name = (reporting : List ℕ) → IsReporting reporting → (e : Data) → get reporting (one name e) ≡ None

-- an object of this name reports its own commit, if any
abbrev pub IsLoud : List ℕ → Type 0
IsLoud name = (reporting : List ℕ) → IsReporting reporting → (e : Data) → (get reporting (one name e) ≡ None) ⊎ (get reporting (one name e) ≡ Some e)

-- an object with one member, where that reports nothing
quiet_read : (name : List ℕ) (d : Data) → ((e : Data) → read (compact_text (one name d)) ≡ Some e → of_json (outline (one name d)) ≡ Some e) → IsQuiet name → (n : ℕ) → Reports (compact_text (one name d)) n → ⊥
quiet_read name d reads quiet n it =
    let e = of_one name (of_json (outline d)) it.tree (reads it.tree it.is_json) in
    let none : reported_in it.name it.tree ≡ None = ap (reported_in it.name) (sym e.is) ∙ ap (option_and_then commit_in) (quiet it.name it.reporting e.inner) in
    not_found n (sym none ∙ it.is)

pub no_report : (name : List ℕ) (d : Data) → HasNumbers (outline d) → IsQuiet name → (n : ℕ) → Reports (compact_text (one name d)) n → ⊥
no_report name d numbers = quiet_read name d (λ e. read_printed (one name d) e (numbers, tt))

pub no_report_floatless : (name : List ℕ) (d : Data) → has_float d ≡ false → IsQuiet name → (n : ℕ) → Reports (compact_text (one name d)) n → ⊥
no_report_floatless name d floatless = quiet_read name d (λ e. read_floatless (one name d) e (or_from (has_float d) false floatless refl))

-- the tree is read as objects with this commit, if it is read
abbrev pub HasCommit : Data → ℕ → Type 0
HasCommit d n = (e : Data) → of_json (outline d) ≡ Some e → commit_in e ≡ Some n

-- an object with one member, where that reports a commit
pub within_commit : (name : List ℕ) (d : Data) (n : ℕ) → IsLoud name → HasNumbers (outline d) → HasCommit d n → ReportsWithin n (compact_text (one name d))
within_commit name d n loud numbers has reported it =
    let e = of_one name (of_json (outline d)) it.tree (read_printed (one name d) it.tree (numbers, tt) it.is_json) in
    let own : option_and_then commit_in (get it.name (one name e.inner)) ≡ Some reported = ap (reported_in it.name) e.is ∙ it.is in
    by (get it.name (one name e.inner)) e.inner reported (has e.inner e.read) own (loud it.name it.reporting e.inner)
  where
    by : (o : Option Data) (inner : Data) (reported : ℕ) → commit_in inner ≡ Some n → option_and_then commit_in o ≡ Some reported → (o ≡ None) ⊎ (o ≡ Some inner) → reported ≤ n
    by o inner reported commit is (inl none) = absurd (not_found reported (ap (option_and_then commit_in) (sym none) ∙ is))
    by o inner reported commit is (inr some) =
        let same : n ≡ reported = Some_inj n reported (sym commit ∙ ap (option_and_then commit_in) (sym some) ∙ is) in
        omega (arith, same)

-- it does report that, if it is no deeper than what is read
pub reports_commit : (name : List ℕ) (d e : Data) (n : ℕ) → IsReporting name → get name (one name e) ≡ Some e → HasNumbers (outline d) → depth (outline (one name d)) ≤ max_depth → of_json (outline d) ≡ Some e
    → commit_in e ≡ Some n → Reports (compact_text (one name d)) n
reports_commit name d e n reporting found numbers shallow is commit = record {
  tree = one name e;
  is_json = printed_read (one name d) (one name e) (numbers, tt) shallow (ap (λ o. option_map object (option_and_then (λ f. Some (member name f no_members)) o)) is);
  name = name;
  reporting = reporting;
  is = ap (option_and_then commit_in) found ∙ commit;
}
