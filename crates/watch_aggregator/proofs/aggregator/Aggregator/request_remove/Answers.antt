use Rattle.std.proofs.Common.{Ok, Err, refl}
use Rattle.listen_protocol.specs.Calls.{unasked}
use Rattle.watch_aggregator.proofs.Requests.{other_unasked, same_unasked}
use Rattle.watch_aggregator.proofs.Targets.{one_stands, none_stands, placed}
use Rattle.watch_aggregator.proofs.aggregator.Aggregator.request_remove.Goals as goal

pub returns-in-Ok : goal.returns-in-Ok
returns-in-Ok c = λ h s. record {
  buffer = record { at = s.buffer.at };
  starts = s.starts;
  targets =
      let ws = c.args.self.now.watched.items in
      let id = c.args.id in
      let place = placed ws _ id (Ok c.in-Ok.at) s.targets.ascending c.as_slice.ensures.value c.ranges.id c.in-Ok.ensures.place in
      let old = c.index_mut-watched.result.now in
      one_stands _ ws h (unasked id) id c.in-Ok.at old _ s.targets place c.index_mut-watched.ensures.value refl
      (same_unasked {t = id} {w = old}) (λ w apart is. other_unasked is id apart) (λ t apart none. none);
}

pub returns-in-Err : goal.returns-in-Err
returns-in-Err c = λ h s. record {
  buffer = record { at = s.buffer.at };
  starts = s.starts;
  targets =
      let id = c.args.id in
      let place = placed c.args.self.now.watched.items _ id (Err c.in-Err._at) s.targets.ascending c.as_slice.ensures.value c.ranges.id c.in-Err.ensures.place in
      none_stands _ _ h (unasked id) id c.in-Err._at s.targets place (λ w apart is. other_unasked is id apart) (λ t none. none);
}
