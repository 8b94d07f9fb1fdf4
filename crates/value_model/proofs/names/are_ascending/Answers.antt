use Rattle.std.proofs.Common.{◌-◌, get_or, refl, arith}
use Rattle.value_model.proofs.Named.{ascending_from, ascending_step, not_behind}
use Rattle.value_model.proofs.names.are_ascending.Goals as goal

pub returns-then-ge : goal.returns-then-ge
returns-then-ge c = (
  λ given. cc,
  λ all.
      let a = c.index-fields-i.result in
      let b = c.index-fields-i-in-loop-i.result in
      let fields = c.args.fields.now in
      absurd (not_behind (get_or fields (c.loop-i.i - 1) a).name (get_or fields c.loop-i.i b).name c.ge.result c.ge.ensures c.if-ge.true
      (ascending_step fields (c.loop-i.i - 1) c.loop-i.i a b (omega arith) (omega arith) all)),
)

pub returns : goal.returns
returns c = (λ given. ascending_from c.args.fields.now (λ k d below. c.loop-i.invariant k d (omega arith)), λ all. refl)
