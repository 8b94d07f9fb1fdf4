-- Outputs of whole lines that report no number above one, for each line that is printed.
use Rattle.std.proofs.Common.{◌≡◌, ℕ, ℤ, ◌<◌, ◌≤◌, ◌^◌, false, List, [], ◌++◌, codes, Option, Some, None, refl, sym, ap, subst, ◌∙◌, arith}
use Rattle.std.specs.Prelude.{nat_abs}
use Rattle.std.specs.List.{All}
use Rattle.std.proofs.lemmas.List.Elements.{All-nil, All-cons, All-append}
use Rattle.json.specs.Tree.{HasNumbers}
use Rattle.json.proofs.Printed.Decimals.{IsNumber-decimal}
use Rattle.serde_json.specs.Data as json
use Rattle.serde_json.specs.Written.{outline, compact_text, has_float}
use Rattle.document_keys.specs.Names.{Root, name_text}
use Rattle.value_model.specs.declared.document.DocState.{DocState}
use Rattle.value_model.specs.declared.document.Document.{Document}
use Rattle.value_model.specs.declared.timestamp.Timestamp.{Timestamp}
use Rattle.json_model.specs.Printed.{state_text}
use Rattle.views.specs.declared.raised.Raised.{Raised}
use Rattle.line_printer.specs.Trees.{one}
use Rattle.line_printer.specs.Lines.{line_of, ok_tree, listening_tree, unlistened_tree, document_tree, snapshot_tree, bad_line_tree, bad_name_tree, unsupported_tree, too_deep_tree, bad_writes_tree, bad_query_tree, listener_tree, listener_taken_tree, no_listener_tree, too_long_tree, ids_spent_tree}
use Rattle.line_printer.specs.Reported.{IsReporting, ReportsWithin, ReportedWithin, lines_on, whole_lines}
use Rattle.line_printer.proofs.Answered.{ok_within as ok_reports_within, listening_within as listening_reports_within, unlistened_within as unlistened_reports_within}
use Rattle.line_printer.proofs.Breaks.{open_on, lines_append, open_append, one_line, nothing_open}
use Rattle.line_printer.proofs.Documents.{existing_numbers}
use Rattle.line_printer.proofs.Parsed.{IsQuiet, no_report, no_report_floatless}
use Rattle.line_printer.proofs.Snapshots.{snapshot_within as snapshot_reports_within}

-- whole lines that report no number above this one
pub record IsWithin (most : ℕ) (output : List ℕ) : Type 0 where
  pub whole : open_on [] output ≡ []
  pub within : ReportedWithin most output

-- ---- lines, one after another

pub within_nothing : (most : ℕ) → IsWithin most []
within_nothing most = record { whole = refl; within = All-nil (ReportsWithin most) }

pub within_append : (most : ℕ) (a b : List ℕ) → IsWithin most a → IsWithin most b → IsWithin most (a ++ b)
within_append most a b first second = record {
  whole = open_append [] a b ∙ ap (λ (l : List ℕ). open_on l b) first.whole ∙ second.whole;
  within = subst (λ (ls : List (List ℕ)). All (ReportsWithin most) ls)
      (ap (λ (l : List ℕ). whole_lines a ++ lines_on l b) (sym first.whole) ∙ sym (lines_append [] a b))
      (All-append (ReportsWithin most) (whole_lines a) (whole_lines b) first.within second.within);
}

-- one line and no more
pub within_one : (most : ℕ) (a : List ℕ) → IsWithin most a → IsWithin most (a ++ [])
within_one most a first = within_append most a [] first (within_nothing most)

-- what is within a number is within each greater one
pub within_more : (most more : ℕ) (output : List ℕ) → most ≤ more → IsWithin most output → IsWithin more output
within_more most more output below is = record {
  whole = is.whole;
  within = λ k d inside reported it. let few = is.within k d inside reported it in omega (arith, few, below);
}

-- ---- one line

pub line_within : (most : ℕ) (d : json.Data) → ReportsWithin most (compact_text d) → IsWithin most (line_of d)
line_within most d within = record {
  whole = nothing_open d;
  within = subst (λ (ls : List (List ℕ)). All (ReportsWithin most) ls) (sym (one_line d)) (All-cons (ReportsWithin most) (compact_text d) [] within (All-nil (ReportsWithin most)));
}

-- an object with one member that reports nothing
pub quiet_within : (most : ℕ) (name : List ℕ) (d : json.Data) → HasNumbers (outline d) → IsQuiet name → IsWithin most (line_of (one name d))
quiet_within most name d numbers quiet = line_within most (one name d) (λ n reports. absurd (no_report name d numbers quiet n reports))

-- the same, however large its numbers are
pub quiet_floatless_within : (most : ℕ) (name : List ℕ) (d : json.Data) → has_float d ≡ false → IsQuiet name → IsWithin most (line_of (one name d))
quiet_floatless_within most name d floatless quiet = line_within most (one name d) (λ n reports. absurd (no_report_floatless name d floatless quiet n reports))

-- ---- answers and snapshots

pub ok_within : (batch n : ℕ) → batch < 2 ^ 64 → n < 2 ^ 64 → IsWithin n (line_of (ok_tree batch n))
ok_within batch n small few = line_within n (ok_tree batch n) (ok_reports_within batch n small few)

pub listening_within : (id n : ℕ) (target : ℤ) → id < 2 ^ 64 → nat_abs target < 2 ^ 63 → n < 2 ^ 64 → IsWithin n (line_of (listening_tree id target n))
listening_within id n target small whole few = line_within n (listening_tree id target n) (listening_reports_within id n target small whole few)

pub unlistened_within : (id n : ℕ) → id < 2 ^ 64 → n < 2 ^ 64 → IsWithin n (line_of (unlistened_tree id n))
unlistened_within id n small few = line_within n (unlistened_tree id n) (unlistened_reports_within id n small few)

pub snapshot_within : (root : Root) (id n : ℕ) (read_time : Option Timestamp) (raised : Raised) → id < 2 ^ 64 → n < 2 ^ 64 → IsWithin n (line_of (snapshot_tree root id n read_time raised))
snapshot_within root id n read_time raised small few = line_within n (snapshot_tree root id n read_time raised) (snapshot_reports_within root id n read_time raised small few)

-- ---- documents

document_quiet : IsQuiet (codes "document")
document_quiet reporting IsReporting.in_ok e = refl
document_quiet reporting IsReporting.in_result e = refl
document_quiet reporting IsReporting.in_rejected e = refl
document_quiet reporting IsReporting.in_snapshot e = refl

pub document_within : (most : ℕ) (root : Root) (key : List (List ℕ)) (document : Option Document) (how : DocState) → IsWithin most (line_of (document_tree root key document how))
document_within most root key None how = quiet_within most (codes "document") _ (tt, (tt, (tt, tt))) document_quiet
document_within most root key (Some found) how = quiet_within most (codes "document") _ (existing_numbers (name_text root key) (state_text how) found.fields found.update_time) document_quiet

-- ---- refusals

refused_quiet : IsQuiet (codes "refused")
refused_quiet reporting IsReporting.in_ok e = refl
refused_quiet reporting IsReporting.in_result e = refl
refused_quiet reporting IsReporting.in_rejected e = refl
refused_quiet reporting IsReporting.in_snapshot e = refl

pub refused_within : (most : ℕ) (d : json.Data) → HasNumbers (outline d) → IsWithin most (line_of (one (codes "refused") d))
refused_within most d numbers = quiet_within most (codes "refused") d numbers refused_quiet

pub bad_line_within : (most line : ℕ) (name : List ℕ) → line < 2 ^ 64 → IsWithin most (line_of (bad_line_tree line name))
bad_line_within most line name small = refused_within most _ (tt, (IsNumber-decimal line small, (tt, (IsNumber-decimal 1 (omega arith), tt))))

pub bad_name_within : (most line : ℕ) (why name : List ℕ) → line < 2 ^ 64 → IsWithin most (line_of (bad_name_tree line why name))
bad_name_within most line why name small = refused_within most _ (tt, (tt, (IsNumber-decimal line small, (tt, (IsNumber-decimal 2 (omega arith), tt)))))

pub unsupported_within : (most line : ℕ) (name : List ℕ) → line < 2 ^ 64 → IsWithin most (line_of (unsupported_tree line name))
unsupported_within most line name small = refused_within most _ (tt, (IsNumber-decimal line small, (tt, (IsNumber-decimal 3 (omega arith), tt))))

pub too_deep_within : (most line : ℕ) → line < 2 ^ 64 → IsWithin most (line_of (too_deep_tree line))
too_deep_within most line small = refused_within most _ (tt, (IsNumber-decimal line small, (IsNumber-decimal 4 (omega arith), tt)))

pub bad_writes_within : (most line writes : ℕ) → line < 2 ^ 64 → writes < 2 ^ 64 → IsWithin most (line_of (bad_writes_tree line writes))
bad_writes_within most line writes small counts = refused_within most _ (tt, (IsNumber-decimal writes counts, (IsNumber-decimal line small, (IsNumber-decimal 5 (omega arith), tt))))

pub bad_query_within : (most line fault : ℕ) → line < 2 ^ 64 → fault < 2 ^ 64 → IsWithin most (line_of (bad_query_tree line fault))
bad_query_within most line fault small rule = refused_within most _ (tt, (IsNumber-decimal fault rule, (IsNumber-decimal line small, (IsNumber-decimal 6 (omega arith), tt))))

listener_within : (most : ℕ) (cause : List ℕ) (line id which : ℕ) → line < 2 ^ 64 → id < 2 ^ 64 → which < 2 ^ 64 → IsWithin most (line_of (listener_tree cause line id which))
listener_within most cause line id which small listener number = refused_within most _ (tt, (IsNumber-decimal id listener, (IsNumber-decimal line small, (IsNumber-decimal which number, tt))))

pub listener_taken_within : (most line id : ℕ) → line < 2 ^ 64 → id < 2 ^ 64 → IsWithin most (line_of (listener_taken_tree line id))
listener_taken_within most line id small listener = listener_within most (codes "ListenerTaken") line id 7 small listener (omega arith)

pub no_listener_within : (most line id : ℕ) → line < 2 ^ 64 → id < 2 ^ 64 → IsWithin most (line_of (no_listener_tree line id))
no_listener_within most line id small listener = listener_within most (codes "NoListener") line id 8 small listener (omega arith)

pub too_long_within : (most line : ℕ) → line < 2 ^ 64 → IsWithin most (line_of (too_long_tree line))
too_long_within most line small = refused_within most _ (tt, (IsNumber-decimal line small, (IsNumber-decimal 11 (omega arith), tt)))

pub ids_spent_within : (most line : ℕ) → line < 2 ^ 64 → IsWithin most (line_of (ids_spent_tree line))
ids_spent_within most line small = refused_within most _ (tt, (IsNumber-decimal line small, (IsNumber-decimal 12 (omega arith), tt)))
