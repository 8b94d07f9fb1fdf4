use Rattle.std.proofs.Common.{◌≡◌, refl, sym, subst}
use Rattle.mutations.specs.Local.{masked}
use Rattle.mutations.specs.Touched.{StandsFor}
use Rattle.mutations.proofs.Wholes.{masked_part, masked_beside, masked_whole}
use Rattle.mutations.proofs.touched.masked_part.Goals as goal

module _ (c : goal.In_ok-masked) where
  after : StandsFor c.args.names.now c.in_ok-masked.field-0 (masked c.args.fields.now c.args.input.now c.args.mask.now)
  after =
      let before : StandsFor c.args.names.now c.in_ok-part.part c.args.fields.now = record { same = c.in_ok-part.ensures.same; part_fields = c.in_ok-part.ensures.fields; whole_fields = c.len-fields.ensures.fields } in
      subst (λ part. StandsFor c.args.names.now part (masked c.args.fields.now c.args.input.now c.args.mask.now)) (sym c.in_ok-masked.ensures.exact)
      (masked_part c.args.names.now c.len-count.ensures.fields c.args.input.now c.in_ok-part.part c.args.fields.now c.args.mask.now c.requires.names before)

pub returns-clause-part : goal.returns-clause-part
returns-clause-part c = after c

pub returns-clause-says : goal.returns-clause-says
returns-clause-says c =
    let whole = c.args.fields.now in
    let input = c.args.input.now in
    masked_whole c.args.names.now c.args.mask.now c.requires.names input c.in_ok-part.part whole c.in_ok-masked.field-0 (masked whole input c.args.mask.now)
    c.in_ok-part.ensures.same (after c).same (masked_beside c.args.names.now c.len-count.ensures.fields input whole c.args.mask.now c.requires.names)
    (λ none. subst (λ mask. masked whole input mask ≡ whole) (sym none) refl) c.in_ok-masked.ensures.says
