-- The listeners of a client, as contracts see them: by id what each asks for, the snapshot that it
-- raised last, and the id of its target.
use Rattle.std.specs.Prelude.{◌≡◌, ℕ, ℤ, Bool, List, Option, Some, None, if◌then◌else◌, option_map, refl}
use Rattle.std.specs.BTreeMap.{is_at}
use Rattle.std.specs.Coded.{Coded, code_by, coded×, coded_list, coded_ℕ, coded_ℤ}
use Rattle.std.specs.Map.{lookup}
use Rattle.std.specs.Ordering.{nat_cmp}
use Rattle.queries.specs.declared.target.Target.{Target}
use Rattle.views.specs.Viewed.{Viewed, viewed_code}

-- a listener: what it shows, and the id of its target
pub record Listening : Type 0 where
  pub view : Viewed
  pub target_id : ℤ

-- a listener is stored as the pair of its parts
abbrev pub listening_code : Coded Listening
listening_code = code_by (Viewed × ℤ) (coded× viewed_code coded_ℤ) (λ l. (l.view, l.target_id))
    (λ p. record { view = p.0; target_id = p.1 }) (λ _. refl)

-- the listener with this view and this target
abbrev pub listening : Viewed → ℤ → Listening
listening view target_id = record { view = view; target_id = target_id }

-- the listeners by id, ascending
abbrev pub Table : Type 0
Table = List (ℕ × Listening)

abbrev pub table_code : Coded Table
table_code = coded_list (coded× coded_ℕ listening_code)

-- the two are one id
abbrev pub is_id : ℕ → ℕ → Bool
is_id = λ id. is_at (nat_cmp id)

-- what the listener of the id shows, if there is one
abbrev pub viewed : Table → ℕ → Option Viewed
viewed table id = option_map (λ l. l.view) (lookup (is_id id) table)

-- the id of the target of the listener of the id, if there is one
abbrev pub target_of : Table → ℕ → Option ℤ
target_of table id = option_map (λ l. l.target_id) (lookup (is_id id) table)

-- the target is that of a listener
abbrev pub IsWanted : Table → ℤ → Type 0
IsWanted table target = (id : ℕ) × (target_of table id ≡ Some target)

-- no listener changes
abbrev pub SameViews : Table → Table → Type 0
SameViews old new = (q : ℕ) → viewed new q ≡ viewed old q

-- one id has this view, or none, and every other the one that it had
abbrev pub Changes : ℕ → Option Viewed → Table → Table → Type 0
Changes id view old new = (q : ℕ) → viewed new q ≡ (if is_id id q then view else viewed old q)

-- no listener's target changes
abbrev pub KeepsTargets : Table → Table → Type 0
KeepsTargets old new = (q : ℕ) → target_of new q ≡ target_of old q

-- the listener of one id has this target, or there is none, and every other the one that it had
abbrev pub ChangesTarget : ℕ → Option ℤ → Table → Table → Type 0
ChangesTarget id target old new = (q : ℕ)
    → target_of new q ≡ (if is_id id q then target else target_of old q)

-- the table with the listener at the id
abbrev pub Puts : ℕ → Listening → Table → Table → Type 0
Puts id listener old new = (q : ℕ)
    → lookup (is_id q) new ≡ (if is_id id q then Some listener else lookup (is_id q) old)

-- a view of the target that has raised no snapshot
abbrev pub fresh : Target → Viewed
fresh target = record { target = target; raised = None }
