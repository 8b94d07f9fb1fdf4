use Rattle.std.proofs.Common.{◌≡◌, ℤ, None, w32, subst}
use Rattle.std.proofs.lemmas.Int.{to_z-of_z}
use Rattle.target_cache.specs.declared.row.Row.{Row}
use Rattle.target_cache.specs.Cache.{IsRow}
use Rattle.target_cache.specs.Kept.{Holds}
use Rattle.target_cache.proofs.cache.TargetCache.reset.Goals as goal

pub returns-clause-done : goal.returns-clause-done
returns-clause-done c = subst (λ (z : ℤ). (row : Row) → IsRow c.args.self.now.rows z row → Holds z None c.args.self.now.rows c.set_held.new.self.rows) (to_z-of_z w32 c.args.id c.ranges.id) c.set_held.ensures.done

pub returns-clause-none : goal.returns-clause-none
returns-clause-none c = subst (λ (z : ℤ). ((row : Row) → IsRow c.args.self.now.rows z row → ⊥) → c.set_held.new.self.rows ≡ c.args.self.now.rows) (to_z-of_z w32 c.args.id c.ranges.id) c.set_held.ensures.none
