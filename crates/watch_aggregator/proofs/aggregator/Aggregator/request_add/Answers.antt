use Rattle.std.proofs.Common.{◌∷◌, Ok, Err, refl, subst, sym, ℤ, None, w32, true, false}
use Rattle.std.specs.List.{insert}
use Rattle.std.proofs.lemmas.Int.{to_z-of_z}
use Rattle.watch_aggregator.specs.declared.watched.Watched.{Watched}
use Rattle.listen_protocol.specs.Calls.{asked}
use Rattle.watch_aggregator.specs.Standing.{IsWatched, AreWatched}
use Rattle.listen_protocol.proofs.Ids.{other_id}
use Rattle.watch_aggregator.proofs.Requests.{other_asked, same_asked, first_asked}
use Rattle.watch_aggregator.proofs.Targets.{one_stands, insert_stands, placed}
use Rattle.watch_aggregator.proofs.aggregator.Aggregator.request_add.Goals as goal

pub returns-in-Some-clause-done : goal.returns-in-Some-clause-done
returns-in-Some-clause-done c = λ h s. record {
  buffer = record { at = s.buffer.at };
  starts = (c.len-count.ensures.ascending, s.starts);
  targets =
      let ws = c.args.self.now.watched.items in
      let id = c.args.id in
      let place = placed ws _ id (Ok c.in-Ok.at) s.targets.ascending c.as_slice.ensures.value c.ranges.id c.in-Ok.ensures.place in
      let old = c.index_mut-watched.result.now in
      one_stands _ ws h (asked id c.args.start c.args.document) id c.in-Ok.at old _ s.targets place c.index_mut-watched.ensures.value refl
      (λ is. subst (λ n. IsWatched c.args.self.now.tokens.items id (asked id c.args.start c.args.document ∷ h) (record old { opened = n; wanted = true; counts = false; document = c.args.document; told = c.args.start })) (sym c.in-Some.ensures.1) (same_asked is c.args.start c.args.document))
      (λ w apart is. other_asked is id c.args.start c.args.document apart) (λ t apart none. rw (other_id t id apart) none);
}

pub returns-in_ok-insert-in-Err-clause-done : goal.returns-in_ok-insert-in-Err-clause-done
returns-in_ok-insert-in-Err-clause-done c = λ h s. record {
  buffer = record { at = s.buffer.at };
  starts = (c.len-count.ensures.ascending, s.starts);
  targets =
      let ws = c.args.self.now.watched.items in
      let id = c.args.id in
      let place = placed ws _ id (Err c.in-Err.at) s.targets.ascending c.as_slice.ensures.value c.ranges.id c.in-Err.ensures.place in
      let first : ℤ → Watched = λ z. record { id = z; opened = 1; wanted = true; counts = false; document = c.args.document; told = c.args.start; current = false; token = None; fresh = false } in
      let stands = insert_stands c.args.self.now.tokens.items ws h (asked id c.args.start c.args.document) c.in-Err.at (first id) s.targets place (first_asked _ id h c.args.start c.args.document)
      (λ w apart is. other_asked is id c.args.start c.args.document apart) (λ t apart none. rw (other_id t id apart) none) in
      subst (λ vs. AreWatched c.args.self.now.tokens.items vs (asked id c.args.start c.args.document ∷ h)) (sym c.in_ok-insert-in-Err.ensures.items)
      (subst (λ z. AreWatched c.args.self.now.tokens.items (insert ws c.in-Err.at (first z)) (asked id c.args.start c.args.document ∷ h)) (sym (to_z-of_z w32 id c.ranges.id)) stands);
}
