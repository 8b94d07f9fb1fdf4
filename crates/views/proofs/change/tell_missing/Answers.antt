use Rattle.std.proofs.Common.{◌+◌, IsTrue, Vec, Global, take, ap, subst, sym}
use Rattle.std.specs.List.{Contains}
use Rattle.views.specs.declared.change.Change.{Change}
use Rattle.views.specs.Changes.{IsNotIn, Tells}
use Rattle.views.specs.Row.{Row, keys_of}
use Rattle.views.proofs.Telling.{tells_nothing, tells_of, tells_not_of}
use Rattle.views.proofs.change.tell_missing.Goals as goal
use Rattle.views.proofs.change.tell_missing.Goals.{then-not-has+in_ok-tell, else-not-has}

pub loop-row-init : goal.loop-row-init
loop-row-init c = tells_nothing c.args.kind (IsNotIn c.args.others.now) c.args.rows.now c.args.changes.now.items

pub loop-row-preserved : goal.loop-row-preserved
loop-row-preserved c =
    let kind = c.args.kind in
    let rows = c.args.rows.now in
    let others = c.args.others.now in
    let i = c.loop-row.row-index in
    let r = c.row-item.result in
    let before = c.args.changes.now.items in
    let key = ap (λ (x : Row). x.key) c.row.view_is in
    let there = subst (λ k. Contains (keys_of others) k) (sym key) in
    let result = λ (vec : Vec Change Global). Tells kind (IsNotIn others) (take (i + 1) rows) before vec.items in
    elim c.if-not-has.branch [
      | then-not-has+in_ok-tell w ↦
          let never : IsTrue c.has.result → ⊥ = λ yes. cc in
          subst result (sym w.changes-is) (tells_of kind (IsNotIn others) rows before i r c.loop-row.changes.items c.loop-row-test.true c.row-item.is c.loop-row.invariant w.tell.new.changes.items
          (λ has. never (c.has.ensures.1 (there has))) w.in_ok-tell.ensures)
      | else-not-has w ↦
          let yes : IsTrue c.has.result = cc in
          subst result (sym w.changes-is) (tells_not_of kind (IsNotIn others) rows before i r c.loop-row.changes.items c.loop-row-test.true c.row-item.is c.loop-row.invariant
          (λ not. not (subst (λ k. Contains (keys_of others) k) key (c.has.ensures.0 yes))))
    ]
