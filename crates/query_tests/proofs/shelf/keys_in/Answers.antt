use Rattle.std.proofs.Common.{subst, arith}
use Rattle.std.proofs.lemmas.List.{take_all}
use Rattle.query_tests.specs.Shelf.{KeepsIn}
use Rattle.query_tests.proofs.Holding.{one_kept}
use Rattle.query_tests.proofs.shelf.keys_in.Goals as goal

pub loop-held-preserved : goal.loop-held-preserved
loop-held-preserved c =
    one_kept c.args.collection.now c.args.documents.now c.loop-held.held-index c.held-item.result c.loop-held.keys c.take.new.keys c.loop-held-test.true c.held-item.is c.loop-held.invariant c.in_ok-take.ensures

pub returns : goal.returns
returns c = subst (λ hs. KeepsIn c.args.collection.now hs c.loop-held.keys) (take_all c.loop-held.held-index c.args.documents.now (omega arith)) c.loop-held.invariant
