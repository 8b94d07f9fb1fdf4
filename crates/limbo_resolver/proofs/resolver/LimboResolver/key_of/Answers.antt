use Rattle.std.proofs.Common.{◌∙◌, pos, Ok, Err, sym, ap}
use Rattle.limbo_resolver.specs.Limbo.{Limbo, key_in}
use Rattle.limbo_resolver.proofs.Order.{ascend_pairs, key_found, key_none, placed}
use Rattle.limbo_resolver.proofs.resolver.LimboResolver.key_of.Goals as goal

pub returns-in-Ok : goal.returns-in-Ok
returns-in-Ok c =
    let ascending = ascend_pairs (pos 0) c.self.inside.ids.items (pos c.self.inside.next) c.self.invariant.ascending in
    let at = placed c.self.inside.ids.items _ c.args.id (Ok c.in-Ok.at) c.as_slice.ensures.value c.ranges.id c.in-Ok.ensures.place ascending in
    c.get_index.ensures.key ∙ key_found c.self.inside.ids.items c.self.inside.keys.keys c.args.id c.in-Ok.at ascending c.self.invariant.few at ∙ ap (λ (s : Limbo). key_in s.running c.args.id) c.self.view_is

pub returns-in-Err : goal.returns-in-Err
returns-in-Err c =
    let ascending = ascend_pairs (pos 0) c.self.inside.ids.items (pos c.self.inside.next) c.self.invariant.ascending in
    let none = placed c.self.inside.ids.items _ c.args.id (Err c.in-Err.field-0) c.as_slice.ensures.value c.ranges.id c.in-Err.ensures.place ascending in
    sym (key_none c.self.inside.ids.items c.self.inside.keys.keys c.args.id c.in-Err.field-0 none) ∙ ap (λ (s : Limbo). key_in s.running c.args.id) c.self.view_is
