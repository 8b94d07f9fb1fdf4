use Rattle.std.proofs.Common.{◌∙◌, ◌↔◌, IsTrue, ap, subst}
use Rattle.std.specs.List.{Contains}
use Rattle.mutation_queue.specs.Queue.{named_keys}
use Rattle.durable_state.specs.Documents.{standing_by}
use Rattle.durable_state.specs.Tables.{Tables, state_in}
use Rattle.durable_state.proofs.Lent.{named_is, pending_stands, plain_stands}
use Rattle.durable_state.proofs.durable_state.DurableState.state_of.Goals as goal

pub returns-then-names : goal.returns-then-names
returns-then-names c =
    let names = subst (λ (t : Tables). IsTrue c.names.result ↔ Contains (named_keys t.pending.batches) c.args.key.now) c.self.view_is c.names.ensures in
    pending_stands (state_in c.args.self.now) c.args.key.now (named_is (state_in c.args.self.now) c.args.key.now c.names.result names ∙ c.if-names.true)

pub returns : goal.returns
returns c =
    let names = subst (λ (t : Tables). IsTrue c.names.result ↔ Contains (named_keys t.pending.batches) c.args.key.now) c.self.view_is c.names.ensures in
    c.standing_by.ensures ∙ ap standing_by c.entry.ensures
    ∙ plain_stands (state_in c.args.self.now) c.args.key.now (named_is (state_in c.args.self.now) c.args.key.now c.names.result names ∙ c.if-names.false)
