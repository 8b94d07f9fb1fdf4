use Rattle.std.proofs.Common.{◌≡◌, ◌∙◌, ◌<◌, ◌≤◌, List, take, length, get_or, refl, sym, ap, subst}
use Rattle.std.specs.List.{filter_map}
use Rattle.std.proofs.lemmas.List.{take_all}
use Rattle.keyed_writes.specs.Keyed.{IsNext}
use Rattle.value_model.specs.declared.document.Seal.TheVariants.{Committed}
use Rattle.mutations.specs.declared.write.Write.{Write}
use Rattle.mutations.specs.Written.{written_key}
use Rattle.remote_documents.specs.Table as remote
use Rattle.durable_state.specs.Cached.{answered_by}
use Rattle.durable_state.specs.Ready.{first_keys}
use Rattle.durable_state.proofs.Changed.{answered_none, answered_one, places_more, places_still}
use Rattle.durable_state.proofs.Firsts.{first_on, first_still}
use Rattle.durable_state.proofs.readying.answer_each.Goals as goal
use Rattle.durable_state.proofs.readying.answer_each.Goals.{then-first-place+in_ok-found+in-Some+in_ok-push, then-first-place+in_ok-found+in_default, else-first-place}

pub returns-clause-changes : goal.returns-clause-changes
returns-clause-changes c =
    let ws = c.args.writes.now in
    let i = c.loop-place.place in
    let whole : take i ws ≡ ws = take_all i ws (subst (λ (l : List Write). length l ≤ i) c.as_slice-all.ensures c.loop-place-test.false) in
    c.loop-place.invariant.changes ∙ ap (λ (l : List Write). filter_map (answered_by (remote.entries_in c.args.entries.now) ws c.args.answer.now.results.now c.args.answer.now.at) (first_keys l)) whole

pub loop-place-preserved : goal.loop-place-preserved
loop-place-preserved c =
    let i = c.loop-place.place in
    let ws = c.args.writes.now in
    let w = c.index-all-place.result in
    let below : i < length ws = subst (λ (l : List Write). i < length l) c.as_slice-all.ensures c.loop-place-test.true in
    let item : w ≡ get_or ws i w = subst (λ (l : List Write). w ≡ get_or l i w) c.as_slice-all.ensures c.index-all-place.is in
    let next : IsNext ws (written_key w) 0 c.first.result = subst (λ k. IsNext ws k 0 c.first.result) c.key-key.ensures c.first.ensures in
    let at = c.args.answer.now.at in
    let by = answered_by (remote.entries_in c.args.entries.now) ws c.args.answer.now.results.now at in
    let keys = first_keys (take i ws) in
    let were = c.loop-place.changes.items in
    elim c.if-first-place.branch [
      | then-first-place+in_ok-found+in-Some+in_ok-push x ↦
          let is = x.in_ok-found.ensures.change ∙ ap (λ m. answered_by m ws c.args.answer.now.results.now at c.key-key.result.now) c.loop-place.invariant.same ∙ ap by c.key-key.ensures in
          rw (x.entries-is, x.changes-is) (record {
            same = x.in_ok-found.ensures.same ∙ c.loop-place.invariant.same;
            map = x.in_ok-found.ensures.map;
            changes = answered_one (Committed at) by keys (written_key w) were x.push.new.self.items x.in-Some.change x.in_ok-found.found x.in-Some.is x.in_ok-push.ensures.items is c.loop-place.invariant.changes
                ∙ sym (ap (filter_map by) (first_on ws i w below item c.first.result next x.if-first-place.true));
            places = places_more c.loop-place.entries x.answered_key.new.entries were x.push.new.self.items x.in-Some.change x.in_ok-push.ensures.items x.in_ok-found.ensures.places c.loop-place.invariant.places (rw x.in-Some.is at x.in_ok-found.ensures.place);
          })
      | then-first-place+in_ok-found+in_default x ↦
          let is = x.in_ok-found.ensures.change ∙ ap (λ m. answered_by m ws c.args.answer.now.results.now at c.key-key.result.now) c.loop-place.invariant.same ∙ ap by c.key-key.ensures in
          rw (x.entries-is, x.changes-is) (record {
            same = x.in_ok-found.ensures.same ∙ c.loop-place.invariant.same;
            map = x.in_ok-found.ensures.map;
            changes = answered_none (Committed at) by keys (written_key w) were were x.in_ok-found.found x.in_default.is refl is c.loop-place.invariant.changes
                ∙ sym (ap (filter_map by) (first_on ws i w below item c.first.result next x.if-first-place.true));
            places = places_still c.loop-place.entries x.answered_key.new.entries were x.in_ok-found.ensures.places c.loop-place.invariant.places;
          })
      | else-first-place x ↦ rw (x.entries-is, x.changes-is) (record {
        same = c.loop-place.invariant.same;
        map = c.loop-place.invariant.map;
        changes = c.loop-place.invariant.changes ∙ sym (ap (filter_map by) (first_still ws i w below item c.first.result next x.if-first-place.false));
        places = c.loop-place.invariant.places;
      })
    ]
