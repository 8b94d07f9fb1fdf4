use Rattle.std.proofs.Common.{refl, sym, ◌≡◌, ◌∙◌, false}
use Rattle.std.proofs.lemmas.Bool.{and_right}
use Rattle.listen_protocol.specs.Transcript.{is_wanted}
use Rattle.watch_aggregator.proofs.Targets.{at_place, absent_open}
use Rattle.watch_aggregator.proofs.aggregator.Aggregator.is_asked.Goals as goal

pub returns-in-Err : goal.returns-in-Err
returns-in-Err c = λ h s. let none = absent_open _ c.args.self.now.watched.items _ h c.args.id c.in-Err._at s.targets c.as_slice.ensures.value c.ranges.id c.in-Err.ensures.place in rw none (sym (and_right _ _ refl))

pub returns-else-index : goal.returns-else-index
returns-else-index c = λ h s.
    let w = c.index.result.now in
    let is = at_place _ c.args.self.now.watched.items _ h c.args.id c.in-Ok.at w s.targets c.as_slice.ensures.value c.ranges.id c.in-Ok.ensures.place c.index.ensures in
    let unwanted : is_wanted c.args.id h ≡ false = sym is.wants ∙ c.if-index.false in
    rw (c.if-index.false, unwanted) refl
