use Rattle.std.proofs.Common.{◌↔◌, ℤ, List, subst}
use Rattle.std.specs.List.{Contains}
use Rattle.sync_engine.proofs.Outgoing.{with_changed}
use Rattle.sync_engine.proofs.client.Client.due_targets.Goals as goal

pub returns : goal.returns
returns c =
    with_changed c.in_ok-ids.ids.items c.args.changed.now c.extend_from_slice.new.self.items c.in_ok-those.those.items c.in_ok-ids.ensures c.in_ok-extend_from_slice.ensures.items c.in_ok-those.ensures.ascending
    (subst (λ (l : List ℤ). (t : ℤ) → Contains c.in_ok-those.those.items t ↔ Contains l t) c.as_slice.ensures.value c.in_ok-those.ensures.members)
