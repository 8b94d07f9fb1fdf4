use Rattle.std.proofs.Common.{◌≡◌, ◌∙◌, ◌<◌, ◌≤◌, ◌++◌, [], ◌∷◌, append-nil, length, map, sym, ap, subst, take}
use Rattle.std.specs.Option.{option_and_then, option_map, option_to_list}
use Rattle.std.specs.List.{filter_map}
use Rattle.std.proofs.lemmas.List.{map-append, take_all}
use Rattle.mutation_queue.specs.Places.{listed, listed_in}
use Rattle.mutation_queue.specs.Queue.{AreListed, Queue, batch_past}
use Rattle.mutation_queue.proofs.Listed.{lent_more, listed_naming}
use Rattle.mutation_queue.proofs.queue.MutationQueue.naming.Goals as goal
use Rattle.mutation_queue.proofs.queue.MutationQueue.naming.Goals.{in-Some-at_place+in_ok-push, in_default-at_place}

pub returns-in_default : goal.returns-in_default
returns-in_default c =
    let key = c.args.key.now in
    let are = subst (λ (s : Queue). AreListed s.batches s.places s.pushed) c.self.view_is c.self.invariant in
    let none : [] ≡ listed c.args.self.now.places key = ap listed_in c.in_default.ensures ∙ ap (λ (s : Queue). listed s.places key) c.self.view_is in
    ap (map (λ b. b.now)) c.new-found.ensures.items ∙ ap (filter_map (batch_past c.args.past c.args.self.now)) none ∙ listed_naming c.args.self.now key c.args.past are

pub loop-index-preserved : goal.loop-index-preserved
loop-index-preserved c =
    let below : c.loop-index.index < length c.in-Some.places.now.at = subst (λ n. c.loop-index.index < n) c.len-index-end.ensures c.loop-index-test.true in
    let more = lent_more (batch_past c.args.past c.args.self.now) c.in-Some.places.now.at c.loop-index.index _ (option_map (λ b. b.now) c.at_place.result) below (c.at_place.ensures ∙ ap (option_and_then (batch_past c.args.past c.args.self.now)) c.get.ensures) c.loop-index.invariant in
    elim c.match-at_place.branch [
      | in-Some-at_place+in_ok-push w ↦ ap (λ v. map (λ b. b.now) v.items) w.found-is ∙ ap (map (λ b. b.now)) w.in_ok-push.ensures.items ∙ map-append (λ b. b.now) c.loop-index.found.items (w.in-Some-at_place.batch ∷ []) ∙ ap (λ o. map (λ b. b.now) c.loop-index.found.items ++ option_to_list (option_map (λ b. b.now) o)) (sym w.in-Some-at_place.is) ∙ more
      | in_default-at_place w ↦ ap (λ v. map (λ b. b.now) v.items) w.found-is ∙ sym (append-nil (map (λ b. b.now) c.loop-index.found.items)) ∙ ap (λ o. map (λ b. b.now) c.loop-index.found.items ++ option_to_list (option_map (λ b. b.now) o)) (sym w.in_default-at_place.is) ∙ more
    ]

pub returns : goal.returns
returns c =
    let key = c.args.key.now in
    let pick = batch_past c.args.past c.args.self.now in
    let are = subst (λ (s : Queue). AreListed s.batches s.places s.pushed) c.self.view_is c.self.invariant in
    let all : take c.loop-index.index c.in-Some.places.now.at ≡ c.in-Some.places.now.at = take_all _ _ (subst (λ n. n ≤ c.loop-index.index) c.len-index-end.ensures c.loop-index-test.false) in
    let places : c.in-Some.places.now.at ≡ listed c.args.self.now.places key = ap listed_in c.in-Some.ensures ∙ ap (λ (s : Queue). listed s.places key) c.self.view_is in
    c.loop-index.invariant ∙ ap (filter_map pick) (all ∙ places) ∙ listed_naming c.args.self.now key c.args.past are
