use Rattle.std.proofs.Common.{ap, arith}
use Rattle.target_cache.specs.Cache.{Cache, id_at}
use Rattle.target_cache.proofs.Finding.{holds, passed, row_there, sound_still, targets_kept}
use Rattle.target_cache.proofs.cache.TargetCache.set_held.Goals as goal

pub invariant_of-self : goal.invariant_of-self
invariant_of-self c = sound_still c.self.inside.rows.items c.hold.new.rows.items c.self.inside.order.items (targets_kept c.self.inside.rows.items c.hold.new.rows.items c.args.id c.in-Some.place c.args.held (passed c.args.id c.ranges.id (id_at c.in-Some.place) c.in-Some.ensures) c.hold.ensures.row) c.self.invariant

pub returns-then-place-len-clause-done : goal.returns-then-place-len-clause-done
returns-then-place-len-clause-done c = rw (← c.self.view_is) (holds c.self.inside.rows.items c.hold.new.rows.items c.args.id c.in-Some.place c.args.held (passed c.args.id c.ranges.id (id_at c.in-Some.place) c.in-Some.ensures) c.hold.ensures.row)

pub returns-then-place-len-clause-none : goal.returns-then-place-len-clause-none
returns-then-place-len-clause-none c = rw (← c.self.view_is) (λ never. absurd (row_there c.self.inside.rows.items c.hold.new.rows.items c.args.id c.in-Some.place c.args.held (passed c.args.id c.ranges.id (id_at c.in-Some.place) c.in-Some.ensures) c.hold.ensures.row (omega arith) never))

pub returns-then-place-len-clause-room : goal.returns-then-place-len-clause-room
returns-then-place-len-clause-room c = let spare = ap (λ (k : Cache). k.spare) c.self.view_is in omega (arith, spare, c.hold.ensures.room, c.hold.ensures.len)
