use Rattle.std.proofs.Common.{ℤ, List, w32, subst}
use Rattle.std.proofs.lemmas.Int.{to_z-of_z}
use Rattle.target_cache.specs.Cache.{IsRow}
use Rattle.target_cache.specs.declared.row.Row.{Row}
use Rattle.watch_points.proofs.TargetRows.{told_none, told_row}
use Rattle.watch_points.proofs.rows.has_row.Goals as goal

pub returns-in-Some : goal.returns-in-Some
returns-in-Some c =
    told_row c.args.tables.now.targets.rows c.args.id c.in-Some.field-0.now
    (subst (λ (rows : List Row). IsRow rows c.args.id c.in-Some.field-0.now) c.targets.ensures
    (subst (λ (t : ℤ). IsRow c.targets.result.now.rows t c.in-Some.field-0.now) (to_z-of_z w32 c.args.id c.ranges.id) c.in-Some.ensures))

pub returns-in-None : goal.returns-in-None
returns-in-None c =
    told_none c.args.tables.now.targets.rows c.args.id
    (subst (λ (rows : List Row). (row : Row) → IsRow rows c.args.id row → ⊥) c.targets.ensures
    (subst (λ (t : ℤ). (row : Row) → IsRow c.targets.result.now.rows t row → ⊥) (to_z-of_z w32 c.args.id c.ranges.id) c.in-None.ensures))
