use Rattle.std.proofs.Common.{ℤ, Some, w32, subst}
use Rattle.std.proofs.lemmas.Int.{to_z-of_z}
use Rattle.target_cache.specs.declared.row.Row.{Row}
use Rattle.target_cache.specs.Cache.{IsRow}
use Rattle.target_cache.specs.Kept.{Holds}
use Rattle.target_cache.proofs.cache.TargetCache.set_row.Goals as goal

pub returns-clause-done : goal.returns-clause-done
returns-clause-done c =
    let held = Some (record { token = c.args.token; version = c.args.version; keys = c.args.keys }) in
    subst (λ (z : ℤ). (row : Row) → IsRow c.args.self.now.rows z row → Holds z held c.args.self.now.rows c.set_held.new.self.rows) (to_z-of_z w32 c.args.id c.ranges.id) c.set_held.ensures.done c.requires.0 c.requires.1
