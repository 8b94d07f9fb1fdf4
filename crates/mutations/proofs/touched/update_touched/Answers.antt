use Rattle.std.proofs.Common.{◌∙◌, sym, subst}
use Rattle.mutations.specs.Local.{masked, transformed}
use Rattle.mutations.specs.Touched.{Completes, StandsFor}
use Rattle.mutations.proofs.Wholes.{masked_beside, transformed_part, transformed_beside}
use Rattle.mutations.proofs.touched.update_touched.Goals as goal

pub returns-clause-exact : goal.returns-clause-exact
returns-clause-exact c =
    let names = c.in_ok-names.names in
    let named = c.len-count.ensures.fields in
    let set = masked c.args.fields.now c.args.input.now c.args.mask.now in
    let whole = transformed c.args.at set c.args.transforms.now in
    let part = c.in_ok-part-2.part in
    let completes : Completes names part c.args.fields.now whole = record {
      stands = subst (λ p. StandsFor names p whole) (sym c.in_ok-part-2.ensures) (transformed_part names named c.args.at c.in_ok-part.part set c.args.transforms.now c.in_ok-names.ensures.transforms c.in_ok-part.ensures.part);
      beside = λ n not. transformed_beside names named c.args.at set c.args.transforms.now c.in_ok-names.ensures.transforms n not ∙ masked_beside names named c.args.input.now c.args.fields.now c.args.mask.now c.in_ok-names.ensures.mask n not;
    } in
    c.in_ok-put_in_place.ensures.done whole completes
