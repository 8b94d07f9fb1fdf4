use Rattle.std.proofs.Common.{◌∙◌, sym, ap, option_map}
use Rattle.value_model.proofs.Inner.{step_in, none_in}
use Rattle.value_model.proofs.at.inside.Goals as goal

pub returns-in_err-found : goal.returns-in_err-found
returns-in_err-found c =
    let name = sym c.segment.ensures ∙ ap (option_map (λ x. x.now)) (c.in_ok-segment.was {u = tt}) in
    let none = sym c.member.ensures ∙ ap (option_map (λ x. x.now)) (c.in_err-found.was {u = tt}) in
    ap (option_map (λ x. x.now)) c.from_residual-in_err-found.ensures ∙ sym (none_in c.loop-i.found.now c.args.path.now c.loop-i.i _ name none) ∙ c.loop-i.invariant

pub loop-i-preserved : goal.loop-i-preserved
loop-i-preserved c =
    let name = sym c.segment.ensures ∙ ap (option_map (λ x. x.now)) (c.in_ok-segment.was {u = tt}) in
    let there = sym c.member.ensures ∙ ap (option_map (λ x. x.now)) (c.in_ok-found.was {u = tt}) in
    sym (step_in c.loop-i.found.now c.in_ok-found.found.now c.args.path.now c.loop-i.i _ name there) ∙ c.loop-i.invariant
