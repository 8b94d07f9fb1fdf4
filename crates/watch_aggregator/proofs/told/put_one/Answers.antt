use Rattle.std.proofs.Common.{◌≡◌, false, true, refl, rules}
use Rattle.std.proofs.lemmas.Bool.{and_right, false_from_ne_true, iff_false}
use Rattle.watch_aggregator.specs.Told.{has_key, hits}
use Rattle.watch_aggregator.proofs.Members.{contains_has, has_contains}
use Rattle.watch_aggregator.proofs.told.put_one.Goals as goal

pub returns-then-has-clause-done : goal.returns-then-has-clause-done
returns-then-has-clause-done c =
    let there : has_key c.args.change.now.key c.args.one.now.told ≡ true = contains_has c.args.change.now.key c.args.one.now.told (c.has.ensures.0 c.if-has.true) in
    rw (there, and_right (hits c.args.change.now c.args.one.now) false refl) refl

pub returns-clause-done : goal.returns-clause-done
returns-clause-done c =
    let key = c.args.change.now.key in
    let told = c.args.one.now.told in
    let hit : hits c.args.change.now c.args.one.now ≡ true = search rules in
    let absent : has_key key told ≡ false = false_from_ne_true (has_key key told) (λ e. iff_false c.has.ensures c.if-has.false (has_contains key told e)) in
    rw (hit, absent, c.in_ok-insert.ensures.exact, c.in_ok-key.ensures) refl
