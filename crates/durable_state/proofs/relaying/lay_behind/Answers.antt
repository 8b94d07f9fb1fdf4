use Rattle.std.proofs.Common.{◌≡◌, ◌∙◌}
use Rattle.durable_state.specs.Cached.{first_writes}
use Rattle.durable_state.proofs.Relaid.{head_writes}
use Rattle.durable_state.proofs.relaying.lay_behind.Goals as goal

pub returns-clause-laid : goal.returns-clause-laid
returns-clause-laid c =
    let writes_are : c.in_ok-keyed.keyed ≡ first_writes c.args.pending.now.batches = c.in_ok-keyed.ensures ∙ c.as_slice.ensures ∙ head_writes c.args.pending.now.batches c.in-Some.first.now c.in-Some.ensures in
    rw (c.in_ok-news.ensures, writes_are) at c.settle_each.ensures.laid

pub returns-clause-lifted : goal.returns-clause-lifted
returns-clause-lifted c =
    let writes_are : c.in_ok-keyed.keyed ≡ first_writes c.args.pending.now.batches = c.in_ok-keyed.ensures ∙ c.as_slice.ensures ∙ head_writes c.args.pending.now.batches c.in-Some.first.now c.in-Some.ensures in
    rw writes_are at c.settle_each.ensures.lifted
