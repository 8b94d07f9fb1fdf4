-- The answers of writes, listens and unlistens: what they are read as, and what they report.
use Rattle.std.proofs.Common.{◌≡◌, inl, inr, ℕ, ℤ, pos, negsuc, ◌<◌, ◌^◌, codes, Some, refl, sym, ap, ◌∙◌, arith}
use Rattle.std.specs.Prelude.{nat_abs}
use Rattle.json.specs.Print.{IsNumber}
use Rattle.json.specs.Tree.{HasNumbers}
use Rattle.json.proofs.Found.{Some_inj}
use Rattle.json.proofs.Printed.Decimals.{IsNumber-decimal, IsNumber-signed_decimal}
use Rattle.serde_json.specs.Data.{Data, number}
use Rattle.serde_json.specs.Find.{of_integer}
use Rattle.serde_json.specs.Read.{of_json, number_of}
use Rattle.serde_json.specs.Written.{outline, number_text, compact_text}
use Rattle.serde_json.proofs.Numbers.{number_of-decimal, number_of-negative}
use Rattle.line_printer.specs.Trees.{two, three}
use Rattle.line_printer.specs.Lines.{count, ok_tree, listening_tree, unlistened_tree}
use Rattle.line_printer.specs.Reported.{IsReporting, ReportsWithin, commit_in, OkReports, ListeningReports, UnlistenedReports}
use Rattle.line_printer.proofs.Parsed.{IsLoud, HasCommit, within_commit, reports_commit}

ok_loud : IsLoud (codes "ok")
ok_loud reporting IsReporting.in_ok e = inr refl
ok_loud reporting IsReporting.in_result e = inl refl
ok_loud reporting IsReporting.in_rejected e = inl refl
ok_loud reporting IsReporting.in_snapshot e = inl refl

-- what is read as itself has its own commit
pub has_own : (d : Data) (n : ℕ) → of_json (outline d) ≡ Some d → commit_in d ≡ Some n → HasCommit d n
has_own d n is commit e found = ap commit_in (sym (Some_inj d e (sym is ∙ found))) ∙ commit

-- ---- whole numbers

whole_number : (z : ℤ) → nat_abs z < 2 ^ 63 → IsNumber (number_text (of_integer z))
whole_number (pos n) small = IsNumber-decimal n (omega arith)
whole_number (negsuc n) small = IsNumber-signed_decimal (negsuc n) (omega (arith, small))

whole_read : (z : ℤ) → nat_abs z < 2 ^ 63 → number_of (number_text (of_integer z)) ≡ Some (of_integer z)
whole_read (pos n) small = number_of-decimal n (omega arith)
whole_read (negsuc n) small = number_of-negative n (omega arith)

-- ---- the answer of a write

abbrev wrote : ℕ → ℕ → Data
wrote batch n = two (codes "batch") (count batch) (codes "commit") (count n)

wrote_numbers : (batch n : ℕ) → batch < 2 ^ 64 → n < 2 ^ 64 → HasNumbers (outline (wrote batch n))
wrote_numbers batch n small few = (IsNumber-decimal batch small, (IsNumber-decimal n few, tt))

wrote_read : (batch n : ℕ) → batch < 2 ^ 64 → n < 2 ^ 64 → of_json (outline (wrote batch n)) ≡ Some (wrote batch n)
wrote_read batch n small few = rw (number_of-decimal batch small, number_of-decimal n few)

pub ok_within : (batch n : ℕ) → batch < 2 ^ 64 → n < 2 ^ 64 → ReportsWithin n (compact_text (ok_tree batch n))
ok_within batch n small few =
    within_commit (codes "ok") (wrote batch n) n ok_loud (wrote_numbers batch n small few) (has_own (wrote batch n) n (wrote_read batch n small few) refl)

pub ok_reports : OkReports
ok_reports batch n small few =
    reports_commit (codes "ok") (wrote batch n) (wrote batch n) n IsReporting.in_ok refl (wrote_numbers batch n small few) (omega arith) (wrote_read batch n small few) refl

-- ---- the answer of a listen

abbrev listening : ℕ → ℤ → ℕ → Data
listening id target n = three (codes "commit") (count n) (codes "id") (count id) (codes "targetId") (number (of_integer target))

listening_numbers : (id n : ℕ) (target : ℤ) → id < 2 ^ 64 → nat_abs target < 2 ^ 63 → n < 2 ^ 64 → HasNumbers (outline (listening id target n))
listening_numbers id n target small whole few = (IsNumber-decimal n few, (IsNumber-decimal id small, (whole_number target whole, tt)))

listening_read : (id n : ℕ) (target : ℤ) → id < 2 ^ 64 → nat_abs target < 2 ^ 63 → n < 2 ^ 64 → of_json (outline (listening id target n)) ≡ Some (listening id target n)
listening_read id n target small whole few = rw (number_of-decimal n few, number_of-decimal id small, whole_read target whole)

pub listening_within : (id n : ℕ) (target : ℤ) → id < 2 ^ 64 → nat_abs target < 2 ^ 63 → n < 2 ^ 64 → ReportsWithin n (compact_text (listening_tree id target n))
listening_within id n target small whole few =
    within_commit (codes "ok") (listening id target n) n ok_loud (listening_numbers id n target small whole few)
    (has_own (listening id target n) n (listening_read id n target small whole few) refl)

pub listening_reports : ListeningReports
listening_reports id n target small whole few =
    reports_commit (codes "ok") (listening id target n) (listening id target n) n IsReporting.in_ok refl (listening_numbers id n target small whole few) (omega arith)
    (listening_read id n target small whole few) refl

-- ---- the answer of an unlisten

abbrev unlistened : ℕ → ℕ → Data
unlistened id n = two (codes "commit") (count n) (codes "id") (count id)

unlistened_numbers : (id n : ℕ) → id < 2 ^ 64 → n < 2 ^ 64 → HasNumbers (outline (unlistened id n))
unlistened_numbers id n small few = (IsNumber-decimal n few, (IsNumber-decimal id small, tt))

unlistened_read : (id n : ℕ) → id < 2 ^ 64 → n < 2 ^ 64 → of_json (outline (unlistened id n)) ≡ Some (unlistened id n)
unlistened_read id n small few = rw (number_of-decimal n few, number_of-decimal id small)

pub unlistened_within : (id n : ℕ) → id < 2 ^ 64 → n < 2 ^ 64 → ReportsWithin n (compact_text (unlistened_tree id n))
unlistened_within id n small few =
    within_commit (codes "ok") (unlistened id n) n ok_loud (unlistened_numbers id n small few) (has_own (unlistened id n) n (unlistened_read id n small few) refl)

pub unlistened_reports : UnlistenedReports
unlistened_reports id n small few =
    reports_commit (codes "ok") (unlistened id n) (unlistened id n) n IsReporting.in_ok refl (unlistened_numbers id n small few) (omega arith) (unlistened_read id n small few) refl
