use Rattle.std.proofs.Common.{◌<◌, ℕ, List, length, refl, sym, subst, ◌∙◌}
use Rattle.std.proofs.lemmas.List.{take_all}
use Rattle.std.proofs.lemmas.List.Elements.{All-more}
use Rattle.outcome_codec.specs.declared.parts.PointRow.{PointRow}
use Rattle.durable_state.proofs.Rows.{some_of}
use Rattle.durable_state.proofs.fitting.have_tokens.Goals as goal

pub loop-row-preserved : goal.loop-row-preserved
loop-row-preserved c =
    let some = some_of c.as_slice.result.now (sym c.is_empty.ensures ∙ c.if-is_empty.false) in
    All-more (λ (r : PointRow). 0 < length r.token) c.args.rows.now c.loop-row.row-index c.row-item.result c.loop-row-test.true c.loop-row.invariant
    (subst (λ (r : PointRow). 0 < length r.token) c.row-item.is (subst (λ (l : List ℕ). 0 < length l) c.as_slice.ensures some))

pub returns : goal.returns
returns c = (λ yes. rw (take_all _ _ c.loop-row-test.false) at c.loop-row.invariant, λ all. refl)
