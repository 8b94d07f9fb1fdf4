use Rattle.std.proofs.Common.{◌∙◌, ◌++◌, ◌∷◌, [], None, ℤ, List, sym, ap, subst, append_assoc}
use Rattle.std.specs.Vec.Iter.{into_iter_items}
use Rattle.target_cache.specs.Cache.{IsRow}
use Rattle.target_cache.specs.Kept.{Holds}
use Rattle.target_cache.specs.declared.row.Row.{Row}
use Rattle.durable_state.specs.Rows.{HasRow, holding}
use Rattle.durable_state.proofs.Laid.{in_the_middle}
use Rattle.durable_state.proofs.Rows.{below_next, signed_back, blanked_more, has_still, holds_is}
use Rattle.durable_state.proofs.applying.blank.Goals as goal

pub signed-requires : goal.signed-requires
signed-requires c =
    let split = c.loop-id.invariant.split ∙ ap (λ l. c.loop-id.yielded ++ l) c.in-Some.ensures.steps.0 in
    below_next c.loop-id.targets.rows c.in-Some.id c.next_id-last.ensures.most (c.loop-id.invariant.rows _ (in_the_middle (HasRow c.args.targets.now.rows) _ _ _ c.in-Some.id split c.requires))

pub loop-id-preserved : goal.loop-id-preserved
loop-id-preserved c =
    let id = c.in-Some.id in
    let split = c.loop-id.invariant.split ∙ ap (λ l. c.loop-id.yielded ++ l) c.in-Some.ensures.steps.0 in
    let there = c.loop-id.invariant.rows _ (in_the_middle (HasRow c.args.targets.now.rows) _ _ _ id split c.requires) in
    let done = subst (λ (z : ℤ). (row : Row) → IsRow c.loop-id.targets.rows z row → Holds z None c.loop-id.targets.rows c.reset.new.self.rows) (signed_back c.signed.result c.in-Some.id c.signed.ensures (below_next c.loop-id.targets.rows id c.next_id-last.ensures.most there)) c.reset.ensures.done in
    let is = holds_is id None c.loop-id.targets.rows c.reset.new.self.rows (done there.0 there.1) in record {
      rows = λ other had. subst (λ (l : List Row). HasRow l other) (sym is) (has_still c.loop-id.targets.rows id other None (c.loop-id.invariant.rows other had));
      split = split ∙ sym (append_assoc c.loop-id.yielded (id ∷ []) (into_iter_items c.next.new.self));
      blanked = is ∙ ap (holding id None) c.loop-id.invariant.blanked ∙ sym (blanked_more c.args.targets.now.rows c.loop-id.yielded id);
    }
