use Rattle.std.proofs.Common.{◌∙◌, ◌↔◌, IsTrue, not, is_some, ap, subst}
use Rattle.std.specs.List.{Contains}
use Rattle.mutation_queue.specs.Queue.{named_keys}
use Rattle.overlays.specs.LocalDocument.{base_of}
use Rattle.durable_state.specs.Documents.{entry_of}
use Rattle.durable_state.specs.Tables.{Tables, state_in}
use Rattle.durable_state.proofs.Lent.{named_is, not_plain, plain_is}
use Rattle.durable_state.proofs.durable_state.DurableState.is_plain.Goals as goal

pub returns-then-not-names : goal.returns-then-not-names
returns-then-not-names c =
    let names = subst (λ (t : Tables). IsTrue c.names.result ↔ Contains (named_keys t.pending.batches) c.args.key.now) c.self.view_is c.names.ensures in
    let same = c.known.ensures ∙ ap (λ (t : Tables). entry_of (state_in t) c.args.key.now) c.self.view_is in
    plain_is (state_in c.args.self.now) c.args.key.now c.is_found.result
    (named_is (state_in c.args.self.now) c.args.key.now c.names.result names ∙ c.if-not-names.true)
    (c.is_found.ensures ∙ ap (λ e. is_some (base_of e)) same)

pub returns-else-not-names : goal.returns-else-not-names
returns-else-not-names c =
    let names = subst (λ (t : Tables). IsTrue c.names.result ↔ Contains (named_keys t.pending.batches) c.args.key.now) c.self.view_is c.names.ensures in
    ap not c.if-not-names.false ∙ not_plain (state_in c.args.self.now) c.args.key.now
    (named_is (state_in c.args.self.now) c.args.key.now c.names.result names ∙ c.if-not-names.false)
