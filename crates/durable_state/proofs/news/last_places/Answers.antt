use Rattle.std.proofs.Common.{◌≡◌, ◌∙◌, ℕ, List, Some, cond, length, sym, ap, subst, arith}
use Rattle.std.specs.Map.{lookup}
use Rattle.document_keys.specs.KeySet.{is_key}
use Rattle.mutation_queue.proofs.Tables.{same_test}
use Rattle.outcome_codec.specs.declared.parts.KeyedEntry.{KeyedEntry}
use Rattle.durable_state.specs.News.{AreLast}
use Rattle.durable_state.proofs.Newest.{last_more, none_last}
use Rattle.durable_state.proofs.news.last_places.Goals as goal

pub loop-place-init : goal.loop-place-init
loop-place-init c = none_last c.args.changes.now c.in_ok-places.places.entries c.in_ok-places.ensures.empty

pub loop-place-preserved : goal.loop-place-preserved
loop-place-preserved c =
    let change = c.index-changes-place.result in
    let old = c.loop-place.places.entries in
    let new = c.insert.new.self.entries in
    let i = c.loop-place.place in
    let raw = subst (λ (test : List (List ℕ) → List (List ℕ) → _). (q : List (List ℕ)) → lookup (test q) new ≡ cond (test c.in_ok-key.key q) (Some i) (lookup (test q) old)) same_test c.in_ok-insert.ensures.updates.0 in
    let key : c.in_ok-key.key ≡ change.key = c.in_ok-key.ensures ∙ ap (λ (x : KeyedEntry). x.key) (sym c.index-changes-place.is) in
    let put = subst (λ (k : List (List ℕ)). (q : List (List ℕ)) → lookup (is_key q) new ≡ cond (is_key k q) (Some i) (lookup (is_key q) old)) key raw in
    last_more c.args.changes.now i change old new c.loop-place-test.true c.index-changes-place.is put c.loop-place.invariant

pub returns : goal.returns
returns c =
    let all : c.loop-place.place ≡ length c.args.changes.now = omega (arith, c.loop-place-test.false, c.loop-place.auto) in
    subst (λ n. AreLast n c.args.changes.now c.loop-place.places.entries) all c.loop-place.invariant
