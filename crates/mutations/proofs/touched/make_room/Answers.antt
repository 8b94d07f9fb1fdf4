use Rattle.std.proofs.Common.{sym, subst}
use Rattle.mutations.specs.Touched.{HasGrown, SameBeside}
use Rattle.mutations.proofs.Touching.{grown_beside, none_grown, undone}
use Rattle.mutations.proofs.touched.make_room.Goals as goal

pub returns-in-Ok-clause-beside : goal.returns-in-Ok-clause-beside
returns-in-Ok-clause-beside c =
    let old = c.args.fields.now in
    grown_beside c.args.names.now c.make_places.new.made old c.make_places.new.fields
    (subst (SameBeside c.args.names.now c.make_places.new.made) c.new-made.ensures c.make_places.ensures.within)
    (c.make_places.ensures.grown old (subst (λ made. HasGrown made old old) (sym c.new-made.ensures) (none_grown old)))

pub returns-clause-undone : goal.returns-clause-undone
returns-clause-undone c =
    let old = c.args.fields.now in
    undone c.make_places.new.made old c.make_places.new.fields c.take_away.new.fields c.len-count.ensures.fields c.take_away.ensures.fields
    (c.make_places.ensures.grown old (subst (λ made. HasGrown made old old) (sym c.new-made.ensures) (none_grown old)))
    c.take_away.ensures.gone c.take_away.ensures.others
