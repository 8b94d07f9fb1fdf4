use Rattle.std.proofs.Common.{◌∙◌, ◌++◌, ◌∷◌, [], Some, ℤ, List, sym, ap, subst, append_assoc}
use Rattle.std.specs.Vec.Iter.{into_iter_items}
use Rattle.outcome_codec.specs.declared.parts.PointRow.{PointRow}
use Rattle.target_cache.specs.Cache.{IsRow}
use Rattle.target_cache.specs.Kept.{Holds}
use Rattle.target_cache.specs.declared.row.Row.{Row}
use Rattle.durable_state.specs.Rows.{HasRow, held_at, holding}
use Rattle.durable_state.proofs.Laid.{in_the_middle}
use Rattle.durable_state.proofs.Rows.{below_next, signed_back, has_still, holds_is, told_more}
use Rattle.durable_state.proofs.applying.tell.Goals as goal

pub signed-requires : goal.signed-requires
signed-requires c =
    let split = c.loop-row.invariant.split ∙ ap (λ l. c.loop-row.yielded ++ l) c.in-Some.ensures.steps.0 in
    below_next c.loop-row.targets.rows c.in-Some.row.id c.next_id-last.ensures.most (c.loop-row.invariant.rows _ (in_the_middle (λ (r : PointRow). HasRow c.args.targets.now.rows r.id) _ _ _ c.in-Some.row split c.requires))

pub set_row-requires : goal.set_row-requires
set_row-requires c =
    let split = c.loop-row.invariant.split ∙ ap (λ l. c.loop-row.yielded ++ l) c.in-Some.ensures.steps.0 in
    let there = c.loop-row.invariant.rows _ (in_the_middle (λ (r : PointRow). HasRow c.args.targets.now.rows r.id) _ _ _ c.in-Some.row split c.requires) in
    (there.0, subst (λ (z : ℤ). IsRow c.loop-row.targets.rows z there.0) (sym (signed_back c.signed.result c.in-Some.row.id c.signed.ensures (below_next c.loop-row.targets.rows c.in-Some.row.id c.next_id-last.ensures.most there))) there.1)

pub loop-row-preserved : goal.loop-row-preserved
loop-row-preserved c =
    let row = c.in-Some.row in
    let split = c.loop-row.invariant.split ∙ ap (λ l. c.loop-row.yielded ++ l) c.in-Some.ensures.steps.0 in
    let held = held_at c.args.at row in
    let there = c.loop-row.invariant.rows _ (in_the_middle (λ (r : PointRow). HasRow c.args.targets.now.rows r.id) _ _ _ c.in-Some.row split c.requires) in
    let done = subst (λ (z : ℤ). Holds z (Some held) c.loop-row.targets.rows c.set_row.new.self.rows) (signed_back c.signed.result c.in-Some.row.id c.signed.ensures (below_next c.loop-row.targets.rows c.in-Some.row.id c.next_id-last.ensures.most there)) c.set_row.ensures.done in
    let is = holds_is row.id (Some held) c.loop-row.targets.rows c.set_row.new.self.rows done in record {
      rows = λ other had. subst (λ (l : List Row). HasRow l other) (sym is) (has_still c.loop-row.targets.rows row.id other (Some held) (c.loop-row.invariant.rows other had));
      split = split ∙ sym (append_assoc c.loop-row.yielded (row ∷ []) (into_iter_items c.next.new.self));
      told = is ∙ ap (holding row.id (Some held)) c.loop-row.invariant.told ∙ sym (told_more c.args.at c.args.targets.now.rows c.loop-row.yielded row);
    }
