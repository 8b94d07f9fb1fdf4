use Rattle.std.proofs.Common.{Some, None, refl, sym, subst}
use Rattle.mutations.specs.Effect.{Updates}
use Rattle.mutations.proofs.Locally.{updates_by}
use Rattle.mutations.proofs.effect.update.Goals as goal

pub returns-in_ok-update_fields-in-Some-clause-updates : goal.returns-in_ok-update_fields-in-Some-clause-updates
returns-in_ok-update_fields-in-Some-clause-updates c =
    subst (λ old. Updates old c.args.input.now c.args.mask.now c.args.transforms.now c.args.at (Some (record { fields = c.update_fields.new.fields; update_time = c.in-Some.document.update_time }))) (sym c.in-Some.is)
    (updates_by (Some c.in-Some.document) _ c.args.input.now c.update_fields.new.fields c.args.mask.now c.args.transforms.now c.args.at c.in_ok-update_fields-in-Some.ensures.sets c.in_ok-update_fields-in-Some.ensures.exact refl)

pub returns-in_ok-fields-in-None-clause-updates : goal.returns-in_ok-fields-in-None-clause-updates
returns-in_ok-fields-in-None-clause-updates c =
    subst (λ old. Updates old c.args.input.now c.args.mask.now c.args.transforms.now c.args.at (Some (record { fields = c.in_ok-fields-in-None.fields; update_time = None }))) (sym c.in-None.is)
    (updates_by None _ c.args.input.now c.in_ok-fields-in-None.fields c.args.mask.now c.args.transforms.now c.args.at c.in_ok-fields-in-None.ensures.sets c.in_ok-fields-in-None.ensures.exact refl)
