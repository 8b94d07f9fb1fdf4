use Rattle.std.proofs.Common.{subst}
use Rattle.std.specs.List.{All}
use Rattle.std.proofs.lemmas.List.{take_all}
use Rattle.std.proofs.lemmas.List.Elements.{All-more}
use Rattle.record_parts.specs.Spelling.{IsSpelledKey}
use Rattle.watch_points.proofs.shown.show_each.Goals as goal

pub loop-key-preserved : goal.loop-key-preserved
loop-key-preserved c = All-more IsSpelledKey c.args.keys.now c.loop-key.key-index c.key-item.result c.loop-key-test.true c.loop-key.invariant (subst IsSpelledKey c.key-item.is c.show_key.ensures)

pub returns : goal.returns
returns c = subst (All IsSpelledKey) (take_all _ _ c.loop-key-test.false) c.loop-key.invariant
