use Rattle.std.proofs.Common.{ap, sym, ◌∙◌, option_map}
use Rattle.client_run.proofs.Texts.{sent_printed}
use Rattle.client_run.proofs.printing.print_sent.Goals as goal

pub returns : goal.returns
returns c = λ line sent. sent_printed c.args.client.now c.args.place c.root.result.now c.store.result.now c.pending.result.now.batches c.in-Some.batch.now c.token.result.now c.as_slice-writes.result.now _ c.root.ensures c.store.ensures c.pending.ensures (sym c.get.ensures ∙ ap (option_map (λ b. b.now)) c.in-Some.is) c.token.ensures c.as_slice-writes.ensures c.in_ok-line.ensures line sent
