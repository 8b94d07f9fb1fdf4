use Rattle.std.proofs.Common.{◌≡◌, true, false, Some, Vec, Global, sym, subst, ◌∙◌}
use Rattle.local_store.specs.Store.{IsSpent as IsStoreSpent, Store}
use Rattle.sync_engine.specs.Standing.{IsAtRest, Kept}
use Rattle.sync_engine.specs.Telling.{HandsOut, HandsSettled}
use Rattle.client_turns.specs.Turn.{is_heard}
use Rattle.client_turns.specs.Watching.{calls_of}
use Rattle.sync_engine.specs.declared.out.Out.{Out}
use Rattle.sync_engine.specs.declared.out.Outcome.{Outcome}
use Rattle.sync_engine.specs.declared.out.Outcome.TheVariants.{Refused}
use Rattle.sync_engine.proofs.Asked.{hands_asked, hands_asked_still}
use Rattle.sync_engine.proofs.Requests.{hands_heard, hands_out, hands_unheard}
use Rattle.sync_engine.proofs.client.Client.turn.Goals as goal
use Rattle.sync_engine.proofs.client.Client.turn.Goals.{then-is_heard+in_ok-settle_limbo-in-Refused, else-is_heard}

pub answer-requires-clause-heard : goal.answer-requires-clause-heard
answer-requires-clause-heard g c = let it = c.requires.standing.1 in (calls_of it.0, (it.1.watch.calls, it.1.watch.spelled))

pub returns-after-is_heard-clause-rest : goal.returns-after-is_heard-clause-rest
returns-after-is_heard-clause-rest g c = elim c.if-is_heard.branch [
  | then-is_heard+in_ok-settle_limbo-in-Refused w ↦ subst IsAtRest (sym w.self-is) (record {
    store = subst (λ (x : Store). ¬ (IsStoreSpent x)) (sym w.settle_limbo.ensures.rest.store) c.in_ok-outcome.ensures.whole;
    idle = w.in_ok-settle_limbo-in-Refused.ensures.settles.idle;
  })
  | else-is_heard w ↦
      let it = c.requires.standing in
      let settled = subst (λ (o : Outcome). HandsSettled it.0 it.1.0 c.args.event o c.answer.new.self) c.in-Refused.is (c.in_ok-outcome.ensures.turn it.0 it.1.0 it.1.1) in
      subst IsAtRest (sym w.self-is) (record { store = c.in_ok-outcome.ensures.whole; idle = settled.idle })
]

pub returns-after-is_heard-clause-turn : goal.returns-after-is_heard-clause-turn
returns-after-is_heard-clause-turn g c = λ s past stands.
    let it = subst (λ (o : Outcome). HandsSettled s past c.args.event o c.answer.new.self) c.in-Refused.is (c.in_ok-outcome.ensures.turn s past stands) in
    let refusal = c.in-Refused.refusal in
    elim c.if-is_heard.branch [
      | then-is_heard+in_ok-settle_limbo-in-Refused w ↦
          let heard : is_heard (Some refusal) ≡ true = sym c.is_heard.ensures ∙ w.if-is_heard.true in
          subst (λ (k : Kept). HandsOut s past c.args.event (Refused refusal c.if-is_heard.outs) k) (sym w.self-is)
          (subst (λ (o : Vec Out Global). HandsOut s past c.args.event (Refused refusal o) w.settle_limbo.new.self) (sym w.outs-is)
          (hands_heard refusal it.outcome.0 (hands_asked_still refusal heard it w.in_ok-settle_limbo-in-Refused.ensures.settles)))
      | else-is_heard w ↦
          let unheard : is_heard (Some refusal) ≡ false = sym c.is_heard.ensures ∙ w.if-is_heard.false in
          subst (λ (k : Kept). HandsOut s past c.args.event (Refused refusal c.if-is_heard.outs) k) (sym w.self-is)
          (subst (λ (o : Vec Out Global). HandsOut s past c.args.event (Refused refusal o) c.answer.new.self) (sym w.outs-is) (hands_unheard refusal unheard it))
    ]

pub returns-in_ok-send-in-Done-clause-turn : goal.returns-in_ok-send-in-Done-clause-turn
returns-in_ok-send-in-Done-clause-turn g c = λ s past stands.
    let it = subst (λ (o : Outcome). HandsSettled s past c.args.event o c.answer.new.self) c.in-Done.is (c.in_ok-outcome.ensures.turn s past stands) in
    hands_out c.settle_limbo-in-Done.new.self c.send.new.self s past c.args.event it.turn c.settle_limbo-in-Done.new.outs.items c.send.new.outs c.send.ensures.rest c.in_ok-send-in-Done.ensures.sends it.outcome.0
    (hands_asked it c.in_ok-settle_limbo-in-Done.ensures.settles)
