use Rattle.std.proofs.Common.{◌∙◌, sym, ap, option_map, refl}
use Rattle.value_model.specs.Data.{map_of}
use Rattle.value_model.proofs.Inner.{step_in, none_in, member_of_map}
use Rattle.value_model.proofs.fields.Fields.at.Goals as goal

pub returns-in_err-value : goal.returns-in_err-value
returns-in_err-value c =
    let name = sym c.segment.ensures ∙ ap (option_map (λ x. x.now)) (c.in_ok-segment.was {u = tt}) in
    let none = member_of_map _ c.args.self.now _ refl ∙ sym c.get.ensures ∙ ap (option_map (λ x. x.now)) (c.in_err-value.was {u = tt}) in
    ap (option_map (λ x. x.now)) c.from_residual-in_err-value.ensures ∙ sym (none_in (map_of c.args.self.now) c.args.path.now 0 _ name none)

pub returns : goal.returns
returns c =
    let name = sym c.segment.ensures ∙ ap (option_map (λ x. x.now)) (c.in_ok-segment.was {u = tt}) in
    let there = member_of_map _ c.args.self.now _ refl ∙ sym c.get.ensures ∙ ap (option_map (λ x. x.now)) (c.in_ok-value.was {u = tt}) in
    c.inside.ensures ∙ sym (step_in (map_of c.args.self.now) c.in_ok-value.value.now c.args.path.now 0 _ name there)
