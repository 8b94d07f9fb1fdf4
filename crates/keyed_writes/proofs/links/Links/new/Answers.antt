use Rattle.std.proofs.Common.{◌≡◌, ◌∙◌, ◌-◌, ◌+◌, ◌<◌, ℕ, List, Some, cond, length, slice_set, sym, ap, subst, arith}
use Rattle.std.specs.Map.{lookup}
use Rattle.std.specs.Option.{unwrap_or}
use Rattle.document_keys.specs.KeySet.{is_key}
use Rattle.keyed_writes.specs.Keyed.{AreLinked}
use Rattle.keyed_writes.proofs.Steps.{linked_more, same_test}
use Rattle.keyed_writes.proofs.links.Links.new.Goals as goal

pub loop-passed-preserved : goal.loop-passed-preserved
loop-passed-preserved c =
    let writes = c.args.writes.now in
    let passed = c.loop-passed.passed in
    let below : passed < length writes = c.loop-passed-test.true in
    let place = length writes - 1 - passed in
    let key = c.in_ok-key.key in
    let firsts = c.loop-passed.firsts.entries in
    let after = c.insert.new.self.entries in
    let next_to : length writes - passed ≡ place + 1 = omega (arith, below) in
    let same : length writes - (passed + 1) ≡ place = omega (arith, below) in
    let found : c.unwrap_or.result ≡ unwrap_or (lookup (is_key key) firsts) (length writes) =
    c.unwrap_or.ensures ∙ ap (λ o. unwrap_or o (length writes)) (c.in_ok-next.ensures.old ∙ ap (λ test. lookup (test key) firsts) same_test) in
    let put = subst (λ (test : List (List ℕ) → List (List ℕ) → _). (q : List (List ℕ)) → lookup (test q) after ≡ cond (test key q) (Some place) (lookup (test q) firsts)) same_test c.in_ok-next.ensures.updates.0 in
    subst (λ n. AreLinked n writes after (slice_set c.loop-passed.nexts.items place c.unwrap_or.result)) (sym same)
    (linked_more writes (length writes - passed) place c.index-writes-place.result (omega (arith, below)) c.index-writes-place.is next_to key firsts after c.loop-passed.nexts.items c.unwrap_or.result (c.in_ok-key.ensures ∙ c.key.ensures) found put c.loop-passed.invariant)

pub returns : goal.returns
returns c =
    let none : length c.args.writes.now - c.loop-passed.passed ≡ 0 = omega (arith, c.loop-passed-test.false) in
    subst (λ n. AreLinked n c.args.writes.now c.loop-passed.firsts.entries c.loop-passed.nexts.items) none c.loop-passed.invariant
