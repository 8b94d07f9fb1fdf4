use Rattle.std.proofs.Common.{ℕ}
use Rattle.std.proofs.lemmas.List.{take_all}
use Rattle.std.proofs.lemmas.List.Elements.{All-contains, All-more}
use Rattle.durable_state.specs.Rows.{IsHeld}
use Rattle.durable_state.proofs.fitting.is_one_held.Goals as goal

pub loop-id-preserved : goal.loop-id-preserved
loop-id-preserved c = All-more (λ (id : ℕ). ¬ (IsHeld c.args.targets.now.rows id)) c.args.ids.now c.loop-id.id-index 0 c.loop-id-test.true c.loop-id.invariant (λ held. let yes_it_is = c.is_held.ensures.1 held in let no_it_is = c.if-is_held.false in cc)

pub returns : goal.returns
returns c =
    let none = rw (take_all _ _ c.loop-id-test.false) at c.loop-id.invariant in
    (λ yes. cc, λ one. absurd (All-contains (λ (id : ℕ). ¬ (IsHeld c.args.targets.now.rows id)) c.args.ids.now one.0 none one.1 one.2))
