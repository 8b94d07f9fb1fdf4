use Rattle.std.proofs.Common.{◌∙◌, cond, sym, ap}
use Rattle.std.proofs.lemmas.List.{take_all}
use Rattle.document_keys.specs.KeySet.{is_key}
use Rattle.mutation_queue.specs.Places.{listed, without_place}
use Rattle.mutations.specs.Written.{written_key}
use Rattle.mutation_queue.proofs.Placing.{gone_again}
use Rattle.mutation_queue.proofs.Writes.{among_more, gone_more, listed_more, other_room}
use Rattle.mutation_queue.proofs.places.KeyPlaces.remove_all.Goals as goal

pub loop-write-preserved : goal.loop-write-preserved
loop-write-preserved c =
    let k = written_key c.write-item.result in
    record {
      places = λ q.
          let more = among_more q c.args.writes.now c.loop-write.write-index c.write-item.result c.loop-write-test.true c.write-item.is in
          let now = rw c.key.ensures at (c.remove.ensures.places q) in
          let was = listed c.args.self.now q in
          listed_more (without_place c.args.place) was (listed c.loop-write.self q) (listed c.remove.new.self q) _ (is_key k q) (c.loop-write.invariant.places q) now (gone_again c.args.place was (c.requires q)) ∙ ap (λ b. cond b (without_place c.args.place was) was) (sym more);
      held = λ q none room.
          let more = among_more q c.args.writes.now c.loop-write.write-index c.write-item.result c.loop-write-test.true c.write-item.is in
          let others = rw c.key.ensures at (c.remove.ensures.others q) in
          other_room q k c.args.self.now c.loop-write.self c.remove.new.self _ (c.loop-write.invariant.held q) others (sym more ∙ none) room;
      gone = λ q among empty.
          let more = among_more q c.args.writes.now c.loop-write.write-index c.write-item.result c.loop-write-test.true c.write-item.is in
          let others = rw c.key.ensures at (c.remove.ensures.others q) in
          let here = rw c.key.ensures at c.remove.ensures.gone in
          gone_more q k c.loop-write.self c.remove.new.self _ (c.loop-write.invariant.gone q) others here (sym more ∙ among) empty;
    }

pub returns-clause-places : goal.returns-clause-places
returns-clause-places c = λ q. rw (take_all _ _ c.loop-write-test.false) at (c.loop-write.invariant.places q)

pub returns-clause-held : goal.returns-clause-held
returns-clause-held c = rw (take_all _ _ c.loop-write-test.false) at c.loop-write.invariant.held

pub returns-clause-gone : goal.returns-clause-gone
returns-clause-gone c = rw (take_all _ _ c.loop-write-test.false) at c.loop-write.invariant.gone
