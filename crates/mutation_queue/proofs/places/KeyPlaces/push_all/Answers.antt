use Rattle.std.proofs.Common.{◌∙◌, IsTrue, cond, take, sym, ap, subst}
use Rattle.std.proofs.lemmas.List.{take_all}
use Rattle.document_keys.specs.KeySet.{is_key}
use Rattle.mutation_queue.specs.Places.{has_room, is_among, listed, with_place}
use Rattle.mutation_queue.specs.Queue.{keys_of}
use Rattle.mutations.specs.Written.{written_key}
use Rattle.mutation_queue.proofs.Writes.{among_more, listed_more, other_room, push_ready, pushed_all, pushed_twice}
use Rattle.mutation_queue.proofs.places.KeyPlaces.push_all.Goals as goal

pub push-requires : goal.push-requires
push-requires c =
    let k = written_key c.write-item.result in
    let had = is_among (keys_of (take c.loop-write.write-index c.args.writes.now)) k in
    let room = subst (λ w. IsTrue (has_room c.args.self.now (written_key w))) (sym c.write-item.is) (c.requires.room c.loop-write.write-index c.write-item.result c.loop-write-test.true) in
    rw c.key.ensures (push_ready c.args.place k c.args.self.now c.loop-write.self had (c.loop-write.invariant.places k) (c.loop-write.invariant.held k) (c.requires.before k) room)

pub loop-write-preserved : goal.loop-write-preserved
loop-write-preserved c =
    let k = written_key c.write-item.result in
    record {
      places = λ q.
          let more = among_more q c.args.writes.now c.loop-write.write-index c.write-item.result c.loop-write-test.true c.write-item.is in
          let now = rw c.key.ensures at (c.push.ensures.places q) in
          let was = listed c.args.self.now q in
          listed_more (with_place c.args.place) was (listed c.loop-write.self q) (listed c.push.new.self q) _ (is_key k q) (c.loop-write.invariant.places q) now (pushed_twice c.args.place was (c.requires.before q)) ∙ ap (λ b. cond b (with_place c.args.place was) was) (sym more);
      held = λ q none room.
          let more = among_more q c.args.writes.now c.loop-write.write-index c.write-item.result c.loop-write-test.true c.write-item.is in
          let others = rw c.key.ensures at (c.push.ensures.others q) in
          other_room q k c.args.self.now c.loop-write.self c.push.new.self _ (c.loop-write.invariant.held q) others (sym more ∙ none) room;
    }

pub returns-clause-places : goal.returns-clause-places
returns-clause-places c = λ q. pushed_all c.args.place (listed c.args.self.now q) (listed c.loop-write.self q) (is_among (keys_of c.args.writes.now) q) (c.requires.before q) (rw (take_all _ _ c.loop-write-test.false) at (c.loop-write.invariant.places q))

pub returns-clause-held : goal.returns-clause-held
returns-clause-held c = rw (take_all _ _ c.loop-write-test.false) at c.loop-write.invariant.held
