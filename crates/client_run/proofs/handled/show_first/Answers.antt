use Rattle.std.proofs.Common.{ap, sym, ◌∙◌, option_map}
use Rattle.client_run.proofs.Texts.{small_first}
use Rattle.client_run.proofs.handled.show_first.Goals as goal

pub returns-in-Some : goal.returns-in-Some
returns-in-Some c = small_first c.args.store.now.state c.pending.result.now.batches c.in-Some.first.now c.pending.ensures (sym c.first.ensures ∙ ap (option_map (λ b. b.now)) c.in-Some.is) c.id_of-id.ensures.within
