use Rattle.std.proofs.Common.{◌∙◌, ap, sym}
use Rattle.watch_aggregator.specs.declared.watched.Watched.{Watched}
use Rattle.watch_aggregator.proofs.Counted.{counted_at, counted_nowhere}
use Rattle.watch_aggregator.proofs.buffer.counts_at.Goals as goal

pub returns-in-Ok : goal.returns-in-Ok
returns-in-Ok c = λ ascending.
    let at = c.index-watched-at.is in
    ap (λ (w : Watched). w.counts) (sym at) ∙ counted_at c.args.watched.now c.args.id.now c.in-Ok.at c.index-watched-at.result ascending (c.in-Ok.ensures.place ascending) at

pub returns-in-Err : goal.returns-in-Err
returns-in-Err c = λ ascending. counted_nowhere c.args.watched.now c.args.id.now c.in-Err._at ascending (c.in-Err.ensures.place ascending)
