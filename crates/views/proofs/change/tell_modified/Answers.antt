use Rattle.std.proofs.Common.{◌+◌, IsTrue, Vec, Global, take, subst, sym}
use Rattle.views.specs.declared.change.Change.{Change}
use Rattle.views.specs.declared.change.Kind.TheVariants.{Modified}
use Rattle.views.specs.Changes.{IsModified, Tells}
use Rattle.views.proofs.Telling.{tells_nothing, tells_of, tells_not_of}
use Rattle.views.proofs.change.tell_modified.Goals as goal
use Rattle.views.proofs.change.tell_modified.Goals.{then-is_modified+in_ok-tell, else-is_modified}

pub loop-row-init : goal.loop-row-init
loop-row-init c = tells_nothing Modified (IsModified c.args.old.now) c.args.rows.now c.args.changes.now.items

pub loop-row-preserved : goal.loop-row-preserved
loop-row-preserved c =
    let rows = c.args.rows.now in
    let old = c.args.old.now in
    let i = c.loop-row.row-index in
    let r = c.row-item.result in
    let before = c.args.changes.now.items in
    let result = λ (vec : Vec Change Global). Tells Modified (IsModified old) (take (i + 1) rows) before vec.items in
    elim c.if-is_modified.branch [
      | then-is_modified+in_ok-tell w ↦
          let yes : IsTrue c.is_modified.result = cc in
          subst result (sym w.changes-is) (tells_of Modified (IsModified old) rows before i r c.loop-row.changes.items c.loop-row-test.true c.row-item.is c.loop-row.invariant w.tell.new.changes.items
          (c.is_modified.ensures.0 yes) w.in_ok-tell.ensures)
      | else-is_modified w ↦
          let never : IsTrue c.is_modified.result → ⊥ = λ yes. cc in
          subst result (sym w.changes-is) (tells_not_of Modified (IsModified old) rows before i r c.loop-row.changes.items c.loop-row-test.true c.row-item.is c.loop-row.invariant
          (λ is. never (c.is_modified.ensures.1 is)))
    ]
