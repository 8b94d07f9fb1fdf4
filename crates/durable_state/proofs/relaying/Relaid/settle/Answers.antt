use Rattle.std.proofs.Common.{◌∙◌, ◌++◌, ◌∷◌, [], drop, refl, ap}
use Rattle.mutation_queue.specs.Queue.{named_keys}
use Rattle.durable_state.specs.Ready.{Settles}
use Rattle.durable_state.proofs.Relaid.{told_among}
use Rattle.durable_state.proofs.relaying.Relaid.settle.Goals as goal

pub returns-then-not-names_behind-clause-settled : goal.returns-then-not-names_behind-clause-settled
returns-then-not-names_behind-clause-settled c =
    Settles.lifted (told_among c.names_behind.result (named_keys (drop 1 c.args.pending.now.batches)) c.args.key.now c.names_behind.ensures ∙ c.if-not-names_behind.true) refl (c.in_ok-push.ensures.items ∙ ap (λ k. c.args.self.now.lifted.items ++ k ∷ []) c.in_ok-copy.ensures)

pub returns-clause-settled : goal.returns-clause-settled
returns-clause-settled c =
    Settles.laid c.in_ok-overlay.overlay (told_among c.names_behind.result (named_keys (drop 1 c.args.pending.now.batches)) c.args.key.now c.names_behind.ensures ∙ c.if-not-names_behind.false)
    refl c.in_ok-push-2.ensures.items c.in_ok-overlay.ensures.key c.in_ok-overlay.ensures.document c.in_ok-overlay.ensures.place
