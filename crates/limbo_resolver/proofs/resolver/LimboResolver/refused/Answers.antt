use Rattle.std.proofs.Common.{◌∙◌, pos, Ok, Err, sym, ap, subst}
use Rattle.std.specs.List.{remove}
use Rattle.limbo_resolver.specs.Held.{IsInOrder, seen}
use Rattle.limbo_resolver.specs.Limbo.{Limbo, key_in, without}
use Rattle.limbo_resolver.proofs.Order.{ascend_pairs, key_found, key_none, placed, removed_in_order, rest_waits, without_found, without_none}
use Rattle.limbo_resolver.proofs.resolver.LimboResolver.refused.Goals as goal

pub invariant_of-self : goal.invariant_of-self
invariant_of-self c =
    let ascending = ascend_pairs (pos 0) c.self.inside.ids.items (pos c.self.inside.next) c.self.invariant.ascending in
    let at = placed c.self.inside.ids.items _ c.args.id (Ok c.in-Ok.at) c.as_slice.ensures.value c.ranges.id c.in-Ok.ensures.place ascending in
    subst (λ l. IsInOrder l c.shift_remove_index.new.self.keys c.self.inside.next) (sym c.remove.ensures.items)
    (subst (λ l. IsInOrder (remove c.self.inside.ids.items c.in-Ok.at) l c.self.inside.next) (sym c.shift_remove_index.ensures.keys)
    (removed_in_order c.self.inside.ids.items c.self.inside.keys.keys c.self.inside.next c.in-Ok.at at.0 c.self.invariant))

pub returns-in-Ok-clause-key : goal.returns-in-Ok-clause-key
returns-in-Ok-clause-key c =
    let ascending = ascend_pairs (pos 0) c.self.inside.ids.items (pos c.self.inside.next) c.self.invariant.ascending in
    let at = placed c.self.inside.ids.items _ c.args.id (Ok c.in-Ok.at) c.as_slice.ensures.value c.ranges.id c.in-Ok.ensures.place ascending in
    c.shift_remove_index.ensures.key ∙ key_found c.self.inside.ids.items c.self.inside.keys.keys c.args.id c.in-Ok.at ascending c.self.invariant.few at ∙ ap (λ (s : Limbo). key_in s.running c.args.id) c.self.view_is

pub returns-in-Ok-clause-rest : goal.returns-in-Ok-clause-rest
returns-in-Ok-clause-rest c =
    let ascending = ascend_pairs (pos 0) c.self.inside.ids.items (pos c.self.inside.next) c.self.invariant.ascending in
    let at = placed c.self.inside.ids.items _ c.args.id (Ok c.in-Ok.at) c.as_slice.ensures.value c.ranges.id c.in-Ok.ensures.place ascending in
    let few = c.self.invariant.few in
    (λ i. seen (c.remove.ensures.items i) (c.shift_remove_index.ensures.keys i) c.self.inside.next)
    ∙ (λ i. record { running = without_found c.self.inside.ids.items c.self.inside.keys.keys c.args.id c.in-Ok.at ascending few at i; waiting = rest_waits c.self.inside.ids.items c.self.inside.keys.keys c.in-Ok.at at.0 few i; next = c.self.inside.next })
    ∙ (λ i. record { running = without (c.self.view_is i).running c.args.id; waiting = (c.self.view_is i).waiting; next = (c.self.view_is i).next })

pub returns-in-Err-clause-key : goal.returns-in-Err-clause-key
returns-in-Err-clause-key c =
    let ascending = ascend_pairs (pos 0) c.self.inside.ids.items (pos c.self.inside.next) c.self.invariant.ascending in
    let none = placed c.self.inside.ids.items _ c.args.id (Err c.in-Err.field-0) c.as_slice.ensures.value c.ranges.id c.in-Err.ensures.place ascending in
    sym (key_none c.self.inside.ids.items c.self.inside.keys.keys c.args.id c.in-Err.field-0 none) ∙ ap (λ (s : Limbo). key_in s.running c.args.id) c.self.view_is

pub returns-in-Err-clause-rest : goal.returns-in-Err-clause-rest
returns-in-Err-clause-rest c =
    let ascending = ascend_pairs (pos 0) c.self.inside.ids.items (pos c.self.inside.next) c.self.invariant.ascending in
    let none = placed c.self.inside.ids.items _ c.args.id (Err c.in-Err.field-0) c.as_slice.ensures.value c.ranges.id c.in-Err.ensures.place ascending in
    sym c.self.view_is
    ∙ (λ i. record { running = sym (without_none c.self.inside.ids.items c.self.inside.keys.keys c.args.id c.in-Err.field-0 none) i; waiting = (seen c.self.inside.ids.items c.self.inside.keys.keys c.self.inside.next).waiting; next = c.self.inside.next })
    ∙ (λ i. record { running = without (c.self.view_is i).running c.args.id; waiting = (c.self.view_is i).waiting; next = (c.self.view_is i).next })
