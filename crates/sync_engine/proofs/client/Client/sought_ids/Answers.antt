use Rattle.std.proofs.Common.{ℤ, List, ap, ◌∙◌, ◌++◌}
use Rattle.sync_engine.proofs.Outgoing.{all_sought}
use Rattle.sync_engine.proofs.client.Client.sought_ids.Goals as goal

pub returns : goal.returns
returns c =
    all_sought c.in_ok-ids.ids.items c.in_ok-running.running.items c.extend_from_slice.new.self.items c.self.view_is c.in_ok-ids.ensures.members c.in_ok-running.ensures.ids
    (c.in_ok-extend_from_slice.ensures.items ∙ ap (λ (l : List ℤ). c.in_ok-ids.ids.items ++ l) c.as_slice.ensures.value)
