use Rattle.std.proofs.Common.{◌≡◌, ◌∙◌, ◌⊎◌, inl, inr, ◌<◌, ◌++◌, sym, ap}
use Rattle.std.proofs.lemmas.List.{append-nil}
use Rattle.std.specs.List.{filter}
use Rattle.std.proofs.Common.{drop}
use Rattle.limbo_resolver.specs.Limbo.{has}
use Rattle.limbo_resolver.proofs.Filling.{no_firsts, no_place}
use Rattle.limbo_resolver.proofs.keys.first_listens.Goals as goal
use Rattle.limbo_resolver.proofs.keys.first_listens.Goals.{then-places-eq0-via-then-places-eq0, then-places-eq0-via-else-places-eq0+then-next-gt-LAST_ID}

pub returns-then-places-eq0-clause-listens : goal.returns-then-places-eq0-clause-listens
returns-then-places-eq0-clause-listens c =
    let full : (c.loop-key.places ≡ 0) ⊎ (2147483647 < c.loop-key.next) = elim c.then-places-eq0.branch [
      | then-places-eq0-via-then-places-eq0 w ↦ inl w.if-places-eq0.true
      | then-places-eq0-via-else-places-eq0+then-next-gt-LAST_ID w ↦ inr w.if-next-gt-LAST_ID.true
    ] in
    sym (append-nil c.loop-key.listens.items)
    ∙ ap (λ l. c.loop-key.listens.items ++ l) (sym (no_firsts c.loop-key.places c.loop-key.next (filter (has c.args.wanted.now) (drop c.loop-key.key-index c.args.keys.now)) (no_place c.loop-key.places c.loop-key.next full)))
    ∙ c.loop-key.invariant.listens
