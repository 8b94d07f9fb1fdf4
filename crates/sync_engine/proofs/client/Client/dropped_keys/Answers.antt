use Rattle.std.proofs.Common.{ℤ, List, Some, SFits, w32, pos, get_or, take, rules, refl, ap, subst, sym, ◌+◌, ◌∙◌}
use Rattle.std.proofs.lemmas.Int.{to_z-of_z}
use Rattle.limbo_resolver.specs.Limbo.{Key, key_in}
use Rattle.client_turns.specs.Hearing.{AreDropped}
use Rattle.sync_engine.specs.Standing.{Kept}
use Rattle.sync_engine.proofs.Holding.{dropped_less, dropped_one}
use Rattle.sync_engine.proofs.client.Client.dropped_keys.Goals as goal
use Rattle.sync_engine.proofs.client.Client.dropped_keys.Goals.{in-Some+in_ok-copy+in_ok-insert, in_default}

pub loop-id-preserved : goal.loop-id-preserved
loop-id-preserved c =
    let limbo = c.args.self.now.limbo.limbo in
    let ids = c.args.ids.now in
    let n = c.loop-id.id-index in
    let x = get_or ids n (pos 0) in
    let fits : SFits w32 x = search rules in
    let same = ap (λ (z : ℤ). key_in c.self.inside.limbo.limbo.running z) (to_z-of_z w32 x fits) ∙ ap (λ (k : Kept). key_in k.limbo.limbo.running x) c.self.view_is in
    let are = λ (keys : List Key). AreDropped limbo (take (n + 1) ids) keys in
    elim c.match-key_of.branch [
      | in-Some+in_ok-copy+in_ok-insert w ↦ record {
        dropped = subst are (sym w.keys-is) (dropped_one limbo ids n x _ c.loop-id.keys w.insert.new.self c.loop-id-test.true refl c.loop-id.invariant.dropped (sym (w.in-Some.ensures ∙ same) ∙ ap Some (sym w.in_ok-copy.ensures)) w.in_ok-insert.ensures.done w.insert.ensures.ascending);
      }
      | in_default w ↦ record {
        dropped = subst are (sym w.keys-is) (dropped_less limbo ids n x c.loop-id.keys c.loop-id-test.true refl c.loop-id.invariant.dropped (sym (w.in_default.ensures ∙ same)));
      }
    ]
