use Rattle.std.proofs.Common.{◌∙◌, subst}
use Rattle.std.proofs.lemmas.List.{take_all}
use Rattle.durable_state.specs.Ready.{HavePlaces}
use Rattle.durable_state.proofs.Changed.{places_next}
use Rattle.durable_state.proofs.readying.make_places.Goals as goal

pub returns-clause-places : goal.returns-clause-places
returns-clause-places c = subst (HavePlaces c.loop-change.entries) (take_all c.loop-change.change-index c.args.changes.now c.loop-change-test.false) c.loop-change.invariant.places

pub loop-change-preserved : goal.loop-change-preserved
loop-change-preserved c = record {
  same = c.in_ok-make_place.ensures.same ∙ c.loop-change.invariant.same;
  map = c.in_ok-make_place.ensures.map;
  places = places_next c.loop-change.entries c.make_place.new.entries c.args.changes.now c.loop-change.change-index c.change-item.result c.loop-change-test.true c.change-item.is c.in_ok-make_place.ensures.places c.loop-change.invariant.places c.in_ok-make_place.ensures.place;
}
