use Rattle.std.proofs.Common.{◌∙◌, sym, ap}
use Rattle.listen_protocol.specs.Buffer.{stays}
use Rattle.watch_aggregator.proofs.Waiting.{keeps_old, keeps_new}
use Rattle.watch_aggregator.proofs.buffer.keep.Goals as goal

pub returns-then-is_kept-clause-done : goal.returns-then-is_kept-clause-done
returns-then-is_kept-clause-done c = keeps_old c.args.key c.args.entry c.args.buffer.now (ap (λ o. stays o c.args.entry) (sym c.get.ensures.value) ∙ sym c.is_kept.ensures ∙ c.if-is_kept.true)

pub returns-clause-done : goal.returns-clause-done
returns-clause-done c = keeps_new c.args.key c.args.entry c.args.buffer.now c.insert.new.self (ap (λ o. stays o c.args.entry) (sym c.get.ensures.value) ∙ sym c.is_kept.ensures ∙ c.if-is_kept.false) c.in_ok-insert.ensures.updates
