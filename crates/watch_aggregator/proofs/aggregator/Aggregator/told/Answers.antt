use Rattle.std.proofs.Common.{◌∙◌, refl, sym, ap, Some}
use Rattle.watch_aggregator.proofs.Targets.{absent_open, at_place, none_counts}
use Rattle.watch_aggregator.proofs.aggregator.Aggregator.told.Goals as goal

pub returns-then-watched : goal.returns-then-watched
returns-then-watched c = λ h s.
    let is = at_place _ c.args.self.now.watched.items _ h c.args.id c.in-Ok.at c.index-watched.result.now s.targets c.as_slice.ensures.value c.ranges.id c.in-Ok.ensures.place c.index-watched.ensures in
    let counted = sym is.counting ∙ c.if-watched.true in
    rw counted (ap Some (is.told counted))

pub returns-in-Err : goal.returns-in-Err
returns-in-Err c = λ h s. let none = none_counts c.args.id h (absent_open _ c.args.self.now.watched.items _ h c.args.id c.in-Err._at s.targets c.as_slice.ensures.value c.ranges.id c.in-Err.ensures.place) in rw none refl
