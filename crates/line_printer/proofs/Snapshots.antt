-- Snapshots: what they are printed of, what they are read as, and what they report.
use Rattle.std.proofs.Common.{◌≡◌, ◌∙◌, inl, inr, ℕ, ◌<◌, ◌≤◌, ◌^◌, Bool, List, [], ◌∷◌, codes, Option, Some, None, refl, sym, ap, arith}
use Rattle.std.specs.Prelude.{option_and_then, option_map}
use Rattle.std.specs.List.{All}
use Rattle.std.proofs.lemmas.List.Elements.{All-head, All-tail}
use Rattle.json.specs.Tree as tree
use Rattle.json.specs.Tree.{HasNumbers, ItemsHaveNumbers, MembersHaveNumbers}
use Rattle.json.proofs.Found.{not_found, Some_inj}
use Rattle.json.proofs.Printed.Decimals.{IsNumber-decimal}
use Rattle.serde_json.specs.Data.{Data, boolean, number, array, object, Items, Members, no_members, put}
use Rattle.serde_json.specs.Read.{of_json, of_items, of_members}
use Rattle.serde_json.specs.Written.{outline, items_outline, members_outline, compact_text}
use Rattle.serde_json.proofs.Numbers.{number_of-decimal}
use Rattle.document_keys.specs.Names.{Root, name_text}
use Rattle.value_model.specs.declared.timestamp.Timestamp.{Timestamp}
use Rattle.json_model.specs.Forms.{before, present, printed_each}
use Rattle.json_model.specs.Printed.{state_text}
use Rattle.views.specs.Row.{Row}
use Rattle.views.specs.declared.change.Change.{Change}
use Rattle.views.specs.declared.raised.Raised.{Raised}
use Rattle.line_printer.specs.Lines.{count, change_tree, row_tree, time_tree, snapshot_members, snapshot_tree}
use Rattle.line_printer.specs.Reported.{IsReporting, ReportsWithin, commit_in, IsShallow, SnapshotReports}
use Rattle.line_printer.proofs.Documents.{There, item_there, body_numbers, body_flat, body_there}
use Rattle.line_printer.proofs.Parsed.{IsLoud, HasCommit, within_commit, reports_commit}

-- ---- numbers

changes_numbers : (root : Root) (changes : List Change) → ItemsHaveNumbers (items_outline (printed_each (change_tree root) changes))
changes_numbers root [] = tt
changes_numbers root (change ∷ changes) = ((tt, (tt, tt)), changes_numbers root changes)

rows_numbers : (root : Root) (rows : List Row) → ItemsHaveNumbers (items_outline (printed_each (row_tree root) rows))
rows_numbers root [] = tt
rows_numbers root (row ∷ rows) = (body_numbers (name_text root row.key) (state_text row.document.state) row.document.fields row.document.update_time, rows_numbers root rows)

time_numbers : (read_time : Option Timestamp) → MembersHaveNumbers (members_outline (before (codes "readTime") (option_map time_tree read_time) no_members))
time_numbers None = tt
time_numbers (Some time) = (tt, tt)

abbrev inner : Root → ℕ → ℕ → Option Timestamp → Raised → Data
inner root id n read_time raised = object (present (snapshot_members root id n read_time raised))

inner_numbers : (root : Root) (id n : ℕ) (read_time : Option Timestamp) (raised : Raised) → id < 2 ^ 64 → n < 2 ^ 64 → HasNumbers (outline (inner root id n read_time raised))
inner_numbers root id n read_time raised small few =
    (changes_numbers root raised.changes, (IsNumber-decimal n few, (rows_numbers root raised.rows, (tt, (IsNumber-decimal id small, time_numbers read_time)))))

-- ---- what is read

abbrev behind_id : Option Timestamp → Data → Members → Option Members
behind_id time id found = of_members (members_outline (before (codes "readTime") (option_map time_tree time) no_members)) (put (codes "id") id found)

abbrev behind_documents : Option Data → Bool → Option Timestamp → Data → Members → Option Members
behind_documents id cache time documents found =
    option_and_then (λ d. behind_id time d (put (codes "fromCache") (boolean cache) (put (codes "documents") documents found))) id

abbrev behind_commit : Option Data → Option Data → Bool → Option Timestamp → Data → Members → Option Members
behind_commit documents id cache time commit found = option_and_then (λ d. behind_documents id cache time d (put (codes "commit") commit found)) documents

-- what a snapshot is read as, where its parts are read as these
abbrev read_of : Option Data → Option Data → Option Data → Option Data → Bool → Option Timestamp → Option Data
read_of changes commit documents id cache time =
    option_map object (option_and_then (λ d. option_and_then (λ e. behind_commit documents id cache time e (put (codes "changes") d no_members)) commit) changes)

-- it has the commit, whatever its lists are read as
read_commit : (changes documents : Option Data) (n id : ℕ) (cache : Bool) (time : Option Timestamp) (e : Data) → read_of changes (Some (count n)) documents (Some (count id)) cache time ≡ Some e → commit_in e ≡ Some n
read_commit None documents n id cache time e is = absurd (not_found e is)
read_commit (Some changes) None n id cache time e is = absurd (not_found e is)
read_commit (Some changes) (Some documents) n id cache None e is = ap commit_in (sym (Some_inj _ e is))
read_commit (Some changes) (Some documents) n id cache (Some time) e is = ap commit_in (sym (Some_inj _ e is))

read_there : (changes documents : Option Data) (n id : ℕ) (cache : Bool) (time : Option Timestamp) → There changes → There documents → There (read_of changes (Some (count n)) documents (Some (count id)) cache time)
read_there None documents n id cache time first second = absurd (not_found first.it first.is)
read_there (Some changes) None n id cache time first second = absurd (not_found second.it second.is)
read_there (Some changes) (Some documents) n id cache None first second = record { it = _; is = refl }
read_there (Some changes) (Some documents) n id cache (Some time) first second = record { it = _; is = refl }

changes_there : (root : Root) (changes : List Change) → There (of_items (items_outline (printed_each (change_tree root) changes)))
changes_there root [] = record { it = _; is = refl }
changes_there root (change ∷ changes) = item_there (change_tree root change) (printed_each (change_tree root) changes) (record { it = change_tree root change; is = refl }) (changes_there root changes)

rows_there : (root : Root) (rows : List Row) → There (of_items (items_outline (printed_each (row_tree root) rows)))
rows_there root [] = record { it = _; is = refl }
rows_there root (row ∷ rows) =
    item_there (row_tree root row) (printed_each (row_tree root) rows) (body_there (name_text root row.key) (state_text row.document.state) row.document.fields row.document.update_time) (rows_there root rows)

array_there : (ds : Items) → There (of_items (items_outline ds)) → There (of_json (outline (array ds)))
array_there ds found = record { it = array found.it; is = ap (option_map array) found.is }

-- ---- depth

changes_flat : (root : Root) (changes : List Change) → tree.items_depth (items_outline (printed_each (change_tree root) changes)) ≤ 1
changes_flat root [] = omega arith
changes_flat root (change ∷ changes) = let rest = changes_flat root changes in omega (arith, rest)

rows_flat : (root : Root) (rows : List Row) → All IsShallow rows → tree.items_depth (items_outline (printed_each (row_tree root) rows)) ≤ 63
rows_flat root [] shallow = omega arith
rows_flat root (row ∷ rows) shallow =
    let first = body_flat (name_text root row.key) (state_text row.document.state) row.document.fields row.document.update_time in
    let one = All-head IsShallow row rows shallow in
    let rest = rows_flat root rows (All-tail IsShallow row rows shallow) in
    omega (arith, first, one, rest)

time_flat : (read_time : Option Timestamp) → tree.members_depth (members_outline (before (codes "readTime") (option_map time_tree read_time) no_members)) ≡ 0
time_flat None = refl
time_flat (Some time) = refl

-- ---- what is reported

snapshot_loud : IsLoud (codes "snapshot")
snapshot_loud reporting IsReporting.in_ok e = inl refl
snapshot_loud reporting IsReporting.in_result e = inl refl
snapshot_loud reporting IsReporting.in_rejected e = inl refl
snapshot_loud reporting IsReporting.in_snapshot e = inr refl

abbrev changes_read : Root → Raised → Option Data
changes_read root raised = of_json (outline (array (printed_each (change_tree root) raised.changes)))

abbrev rows_read : Root → Raised → Option Data
rows_read root raised = of_json (outline (array (printed_each (row_tree root) raised.rows)))

inner_read : (root : Root) (id n : ℕ) (read_time : Option Timestamp) (raised : Raised) → id < 2 ^ 64 → n < 2 ^ 64
    → of_json (outline (inner root id n read_time raised)) ≡ read_of (changes_read root raised) (Some (count n)) (rows_read root raised) (Some (count id)) raised.from_cache read_time
inner_read root id n read_time raised small few =
    λ i. read_of (changes_read root raised) (option_map number (number_of-decimal n few i)) (rows_read root raised) (option_map number (number_of-decimal id small i)) raised.from_cache read_time

inner_commit : (root : Root) (id n : ℕ) (read_time : Option Timestamp) (raised : Raised) → id < 2 ^ 64 → n < 2 ^ 64 → HasCommit (inner root id n read_time raised) n
inner_commit root id n read_time raised small few e is =
    read_commit (changes_read root raised) (rows_read root raised) n id raised.from_cache read_time e (sym (inner_read root id n read_time raised small few) ∙ is)

pub snapshot_within : (root : Root) (id n : ℕ) (read_time : Option Timestamp) (raised : Raised) → id < 2 ^ 64 → n < 2 ^ 64 → ReportsWithin n (compact_text (snapshot_tree root id n read_time raised))
snapshot_within root id n read_time raised small few =
    within_commit (codes "snapshot") (inner root id n read_time raised) n snapshot_loud (inner_numbers root id n read_time raised small few) (inner_commit root id n read_time raised small few)

pub snapshot_reports : SnapshotReports
snapshot_reports root id n read_time raised small few shallow =
    let found = read_there (changes_read root raised) (rows_read root raised) n id raised.from_cache read_time
    (array_there (printed_each (change_tree root) raised.changes) (changes_there root raised.changes)) (array_there (printed_each (row_tree root) raised.rows) (rows_there root raised.rows)) in
    let is : of_json (outline (inner root id n read_time raised)) ≡ Some found.it = inner_read root id n read_time raised small few ∙ found.is in
    let changes = changes_flat root raised.changes in
    let rows = rows_flat root raised.rows shallow in
    let time = time_flat read_time in
    reports_commit (codes "snapshot") (inner root id n read_time raised) found.it n IsReporting.in_snapshot refl (inner_numbers root id n read_time raised small few)
    (omega (arith, changes, rows, time)) is (inner_commit root id n read_time raised small few found.it is)
