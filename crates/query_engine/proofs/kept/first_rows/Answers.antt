use Rattle.std.proofs.Common.{◌+◌, Vec, Global, refl, sym, subst, take, arith}
use Rattle.std.proofs.lemmas.List.{take_all}
use Rattle.value_model.specs.declared.documents.DocRef.{DocRef}
use Rattle.query_engine.specs.Kept.{KeepsRows}
use Rattle.query_engine.proofs.Keeping.{kept_first, none_kept, row_more, row_less}
use Rattle.query_engine.proofs.kept.first_rows.Goals as goal
use Rattle.query_engine.proofs.kept.first_rows.Goals.{in-Some+in_ok-put, in_default}

pub loop-key-preserved : goal.loop-key-preserved
loop-key-preserved g c =
    let documents = g.D.Documents.documents c.args.docs.now in
    let so_far = c.loop-key.invariant in
    elim c.match-row_of.branch [
      | in-Some+in_ok-put w ↦
          subst (λ (rows : Vec DocRef Global). KeepsRows c.args.query.now c.args.root.now documents c.args.limit (take (c.loop-key.key-index + 1) c.args.keys.now) rows.items) (sym w.rows-is)
          (row_more c.args.query.now c.args.root.now documents c.args.limit c.args.keys.now c.loop-key.key-index c.key-item.result c.loop-key.rows.items c.loop-key-test.true c.key-item.is so_far
          c.requires.checked c.requires.distinct w.in-Some.row w.put.new.rows.items w.in-Some.ensures w.in_ok-put.ensures)
      | in_default w ↦
          subst (λ (rows : Vec DocRef Global). KeepsRows c.args.query.now c.args.root.now documents c.args.limit (take (c.loop-key.key-index + 1) c.args.keys.now) rows.items) (sym w.rows-is)
          (row_less c.args.query.now c.args.root.now documents c.args.limit c.args.keys.now c.loop-key.key-index c.key-item.result c.loop-key.rows.items c.loop-key-test.true c.key-item.is so_far w.in_default.ensures)
    ]

pub returns : goal.returns
returns g c =
    let documents = g.D.Documents.documents c.args.docs.now in
    let whole = take_all c.loop-key.key-index c.args.keys.now (omega arith) in
    let keeps = subst (λ ks. KeepsRows c.args.query.now c.args.root.now documents c.args.limit ks c.loop-key.rows.items) whole c.loop-key.invariant in
    kept_first c.args.query.now c.args.root.now documents c.requires.checked c.args.limit c.args.keys.now c.loop-key.rows.items c.cut.new.rows.items keeps c.cut.ensures

pub loop-key-init : goal.loop-key-init
loop-key-init g c = none_kept c.args.query.now c.args.root.now (g.D.Documents.documents c.args.docs.now) c.args.limit _ _ refl c.new-rows.ensures.items
