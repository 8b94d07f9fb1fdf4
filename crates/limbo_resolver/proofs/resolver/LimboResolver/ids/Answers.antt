use Rattle.std.proofs.Common.{◌≡◌, ◌∙◌, pos, ◌<ℤ◌, sym, ap, subst, arith}
use Rattle.std.proofs.lemmas.Grind.{common_steps}
use Rattle.limbo_resolver.specs.Limbo.{Limbo, ids_of}
use Rattle.std.specs.List.{AllPairs}
use Rattle.limbo_resolver.proofs.Order.{ascend_pairs}
use Rattle.limbo_resolver.proofs.Pairs.{ids_zip}
use Rattle.limbo_resolver.proofs.resolver.LimboResolver.ids.Goals as goal

pub returns-clause-ids : goal.returns-clause-ids
returns-clause-ids c =
    let all : c.loop-id.ids.items ≡ c.self.inside.ids.items = grind (arith, common_steps) in
    all ∙ sym (ids_zip c.self.inside.ids.items c.self.inside.keys.keys c.self.invariant.few) ∙ ap (λ (s : Limbo). ids_of s.running) c.self.view_is

pub returns-clause-ascending : goal.returns-clause-ascending
returns-clause-ascending c =
    let all : c.loop-id.ids.items ≡ c.self.inside.ids.items = grind (arith, common_steps) in
    subst (λ l. AllPairs (λ a b. a <ℤ b) l) (sym all) (ascend_pairs (pos 0) c.self.inside.ids.items (pos c.self.inside.next) c.self.invariant.ascending)
